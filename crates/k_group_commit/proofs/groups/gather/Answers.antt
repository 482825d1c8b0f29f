use Rattle.std.proofs.Common.{◌∙◌, subst}
use Rattle.k_plans.specs.k_journal.declared.outcomes.Commit.{Commit}
use Rattle.k_group_commit.specs.Joins.{IsRoomMade}
use Rattle.k_group_commit.specs.JoinLaws.{cut-committed, cut-joined, done-joined, joined-by, made-room, made-write}
use Rattle.k_group_commit.proofs.groups.gather.Goals as goal

pub make_room-room-requires-clause-opened : goal.make_room-room-requires-clause-opened
make_room-room-requires-clause-opened c = (
  c.requires.joins.0,
  c.requires.joins.1,
  record { opened = c.requires.joins.2.opened; geometry = c.requires.joins.2.joining.geometry },
)

pub join-requires-clause-write : goal.join-requires-clause-write
join-requires-clause-write c on =
    let u = c.requires.joins.0 in
    let t = c.requires.joins.1 in
    let to = c.requires.joins.2 in
    let made : IsRoomMade u t c.args.tables.now c.make_room-room.new.tables c.args.group.now c.args.batch.now c.make_room-room.new.group c.args.pm.now c.make_room-room.new.pm Commit.Done =
    subst (λ x. IsRoomMade u t c.args.tables.now c.make_room-room.new.tables c.args.group.now c.args.batch.now c.make_room-room.new.group c.args.pm.now c.make_room-room.new.pm x) c.in-Done.is
    (c.make_room-room.ensures.made u t (record { opened = to.opened; geometry = to.joining.geometry }))
    in
    made-write u t c.args.tables.now c.make_room-room.new.tables c.hold.new.self c.args.maps.now c.args.group.now c.args.batch.now c.make_room-room.new.group
    c.args.pm.now c.make_room-room.new.pm to made c.hold.ensures.held c.requires.write

pub join-requires-clause-room : goal.join-requires-clause-room
join-requires-clause-room c =
    let u = c.requires.joins.0 in
    let t = c.requires.joins.1 in
    let to = c.requires.joins.2 in
    let made : IsRoomMade u t c.args.tables.now c.make_room-room.new.tables c.args.group.now c.args.batch.now c.make_room-room.new.group c.args.pm.now c.make_room-room.new.pm Commit.Done =
    subst (λ x. IsRoomMade u t c.args.tables.now c.make_room-room.new.tables c.args.group.now c.args.batch.now c.make_room-room.new.group c.args.pm.now c.make_room-room.new.pm x) c.in-Done.is
    (c.make_room-room.ensures.made u t (record { opened = to.opened; geometry = to.joining.geometry }))
    in
    made-room u t c.args.tables.now c.make_room-room.new.tables c.hold.new.self c.args.maps.now c.args.group.now c.args.batch.now c.make_room-room.new.group
    c.args.pm.now c.make_room-room.new.pm to made c.hold.ensures.held

pub returns-in-PowerLost-clause-joined : goal.returns-in-PowerLost-clause-joined
returns-in-PowerLost-clause-joined c u t to =
    let made : IsRoomMade u t c.args.tables.now c.make_room-room.new.tables c.args.group.now c.args.batch.now c.make_room-room.new.group c.args.pm.now c.make_room-room.new.pm Commit.PowerLost =
    subst (λ x. IsRoomMade u t c.args.tables.now c.make_room-room.new.tables c.args.group.now c.args.batch.now c.make_room-room.new.group c.args.pm.now c.make_room-room.new.pm x) c.in-PowerLost.is
    (c.make_room-room.ensures.made u t (record { opened = to.opened; geometry = to.joining.geometry }))
    in
    cut-committed u t c.args.tables.now c.make_room-room.new.tables c.hold.new.self c.args.maps.now c.args.group.now c.args.batch.now c.make_room-room.new.group
    c.make_room-room.new.group c.args.pm.now c.make_room-room.new.pm made

pub returns-in-Done-clause-joined : goal.returns-in-Done-clause-joined
returns-in-Done-clause-joined c u t to =
    let made : IsRoomMade u t c.args.tables.now c.make_room-room.new.tables c.args.group.now c.args.batch.now c.make_room-room.new.group c.args.pm.now c.make_room-room.new.pm Commit.Done =
    subst (λ x. IsRoomMade u t c.args.tables.now c.make_room-room.new.tables c.args.group.now c.args.batch.now c.make_room-room.new.group c.args.pm.now c.make_room-room.new.pm x) c.in-Done.is
    (c.make_room-room.ensures.made u t (record { opened = to.opened; geometry = to.joining.geometry }))
    in
    let j = c.join.ensures in
    joined-by u t c.args.tables.now c.hold.new.self c.args.maps.now c.args.group.now c.args.batch.now c.join.new.group c.args.pm.now c.join.new.pm c.join.result
    (λ done.
    done-joined u t c.args.tables.now c.make_room-room.new.tables c.hold.new.self c.args.maps.now c.args.group.now c.args.batch.now c.make_room-room.new.group
    c.args.pm.now c.make_room-room.new.pm to made c.hold.ensures.held c.join.new.group c.join.new.pm c.hold.ensures.back (j.laid done) j.size j.lent j.each_image
    j.others (j.keeps done) (j.done done))
    (λ lost.
    cut-joined u t c.args.tables.now c.make_room-room.new.tables c.hold.new.self c.args.maps.now c.args.group.now c.args.batch.now c.make_room-room.new.group
    c.args.pm.now c.make_room-room.new.pm to made c.hold.ensures.held c.join.new.group c.join.new.pm j.size j.lent j.each_image j.others)

pub returns-in-PowerLost-clause-volume : goal.returns-in-PowerLost-clause-volume
returns-in-PowerLost-clause-volume c = c.hold.ensures.held.volume ∙ c.make_room-room.ensures.volume

pub returns-in-Done-clause-volume : goal.returns-in-Done-clause-volume
returns-in-Done-clause-volume c = c.hold.ensures.held.volume ∙ c.make_room-room.ensures.volume
