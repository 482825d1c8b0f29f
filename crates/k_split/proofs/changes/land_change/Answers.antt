use Rattle.std.proofs.Common.{◌≡◌, [], true, false, sym, ◌∙◌, subst}
use Rattle.block_io.specs.image_model.Volume.{Volume}
use Rattle.k_group_commit.specs.Joins.{IsJoined}
use Rattle.k_split.specs.Landed.{IsLanded}
use Rattle.k_split.proofs.Changed.{alone, change-joined, landed-ready, to-join}
use Rattle.k_split.proofs.Released.{same-volume}
use Rattle.k_split.proofs.Steady.{steady-joined}
use Rattle.k_split.proofs.changes.land_change.Goals as goal

pub returns-in-Done-clause-joined : goal.returns-in-Done-clause-joined
returns-in-Done-clause-joined c t plan on =
    let to = to-join t c.args.tables.now c.args.group.now c.args.batch.now c.args.pm.now c.args.batched plan in (
      subst (λ x. IsJoined plan.ready.committed t c.args.tables.now c.gather.new.tables [] c.args.group.now c.args.batch.now c.gather.new.group c.args.pm.now c.gather.new.pm x)
          c.in-Done.is (c.gather.ensures.joined plan.ready.committed t to),
      c.gather.ensures.on c.in-Done.is,
    )

pub returns-in-Done-clause-ready : goal.returns-in-Done-clause-ready
returns-in-Done-clause-ready c t plan =
    let to = to-join t c.args.tables.now c.args.group.now c.args.batch.now c.args.pm.now c.args.batched plan in
    change-joined t c.args.tables.now c.args.group.now c.args.batch.now c.args.pm.now c.args.batched plan c.gather.new.tables c.gather.new.group c.gather.new.batch
    c.gather.new.pm
    (subst (λ x. IsJoined plan.ready.committed t c.args.tables.now c.gather.new.tables [] c.args.group.now c.args.batch.now c.gather.new.group c.args.pm.now c.gather.new.pm x)
    c.in-Done.is (c.gather.ensures.joined plan.ready.committed t to)) c.if-batched.true (c.gather.ensures.empty c.in-Done.is)

pub returns-in-PowerLost-clause-joined : goal.returns-in-PowerLost-clause-joined
returns-in-PowerLost-clause-joined c t plan on =
    let to = to-join t c.args.tables.now c.args.group.now c.args.batch.now c.args.pm.now c.args.batched plan in (
      subst (λ x. IsJoined plan.ready.committed t c.args.tables.now c.gather.new.tables [] c.args.group.now c.args.batch.now c.gather.new.group c.args.pm.now c.gather.new.pm x)
          c.in-PowerLost.is (c.gather.ensures.joined plan.ready.committed t to),
      c.gather.ensures.lost c.in-PowerLost.is,
    )

pub land_plan-requires : goal.land_plan-requires
land_plan-requires c = (
  c.requires.plan.0.volume,
  alone c.requires.plan.0 c.args.tables.now c.args.group.now c.args.batch.now c.args.pm.now c.args.batched c.requires.plan.1 c.if-batched.false c.release.new.self c.release.ensures.released,
)

pub returns-else-batched-clause-landed : goal.returns-else-batched-clause-landed
returns-else-batched-clause-landed c t plan off =
    subst (λ (v : Volume). IsLanded t.volume v c.args.batch.now c.args.pm.now c.land_plan.new.pm c.args.power.now c.land_plan.new.power c.land_plan.result)
    (sym (same-volume c.args.tables.now c.release.new.self c.release.ensures.released))
    (c.land_plan.ensures.landed t.volume
    (alone t c.args.tables.now c.args.group.now c.args.batch.now c.args.pm.now c.args.batched plan off c.release.new.self c.release.ensures.released))

pub returns-else-batched-clause-ready : goal.returns-else-batched-clause-ready
returns-else-batched-clause-ready c t plan =
    landed-ready t c.args.tables.now c.args.group.now c.args.batch.now c.args.pm.now c.args.batched plan c.if-batched.false c.release.new.self c.release.ensures.released
    c.land_plan.new.pm c.args.power.now c.land_plan.new.power c.land_plan.new.batch c.land_plan.result
    (c.land_plan.ensures.landed t.volume
    (alone t c.args.tables.now c.args.group.now c.args.batch.now c.args.pm.now c.args.batched plan c.if-batched.false c.release.new.self c.release.ensures.released))
    c.land_plan.ensures.no_lines

pub returns-in-Done-clause-steady : goal.returns-in-Done-clause-steady
returns-in-Done-clause-steady c on =
    let t = c.requires.plan.0 in
    let plan = c.requires.plan.1 in
    let to = to-join t c.args.tables.now c.args.group.now c.args.batch.now c.args.pm.now c.args.batched plan in
    steady-joined t c.args.group.now [] c.args.pm.now c.args.batched plan.ready c.args.tables.now c.gather.new.tables [] c.args.batch.now c.gather.new.group c.gather.new.pm
    c.gather.result c.gather.ensures.volume plan.keeps.geometry (c.gather.ensures.joined plan.ready.committed t to)

pub returns-in-PowerLost-clause-steady : goal.returns-in-PowerLost-clause-steady
returns-in-PowerLost-clause-steady c on =
    let t = c.requires.plan.0 in
    let plan = c.requires.plan.1 in
    let to = to-join t c.args.tables.now c.args.group.now c.args.batch.now c.args.pm.now c.args.batched plan in
    steady-joined t c.args.group.now [] c.args.pm.now c.args.batched plan.ready c.args.tables.now c.gather.new.tables [] c.args.batch.now c.gather.new.group c.gather.new.pm
    c.gather.result c.gather.ensures.volume plan.keeps.geometry (c.gather.ensures.joined plan.ready.committed t to)

pub returns-else-batched-clause-steady : goal.returns-else-batched-clause-steady
returns-else-batched-clause-steady c on = let never : true ≡ false = sym on ∙ c.if-batched.false in cc
