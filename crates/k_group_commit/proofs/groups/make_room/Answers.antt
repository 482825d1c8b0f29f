use Rattle.std.proofs.Common.{inr}
use Rattle.std.proofs.lemmas.Bool.{both_ways}
use Rattle.k_group_commit.specs.JoinLaws.{goes-committed, have-gathered, was-committed}
use Rattle.k_group_commit.proofs.groups.make_room.Goals as goal

pub commit_group-requires : goal.commit_group-requires
commit_group-requires c = record {
  ready = λ on. (
    c.requires.opened.0,
    c.requires.opened.1.volume,
    have-gathered c.requires.opened.0 c.requires.opened.1 c.args.tables.now c.args.group.now c.args.pm.now c.geometry.result.now c.geometry.ensures.numbers c.requires.opened.2,
  );
}

pub returns-in-PowerLost-clause-made : goal.returns-in-PowerLost-clause-made
returns-in-PowerLost-clause-made c u t is = (
  λ fits. both_ways c.has_room_for.result c.if-has_room_for.false (c.has_room_for.ensures.1 fits),
  goes-committed u t c.args.tables.now c.args.group.now c.args.pm.now c.geometry.result.now c.geometry.ensures.numbers is c.commit_group.new.pm
      c.commit_group.ensures.size c.commit_group.ensures.lent c.commit_group.ensures.each_image c.commit_group.ensures.others,
)

pub returns-in-Done-clause-made : goal.returns-in-Done-clause-made
returns-in-Done-clause-made c u t is =
    let done = c.in-Done.is in
    inr (
      λ fits. both_ways c.has_room_for.result c.if-has_room_for.false (c.has_room_for.ensures.1 fits),
      was-committed u t c.args.tables.now c.args.group.now c.args.pm.now c.geometry.result.now c.geometry.ensures.numbers is c.settle.new.self
          c.commit_group.new.group c.commit_group.new.pm c.settle.ensures.settled (c.commit_group.ensures.empty done)
          (goes-committed u t c.args.tables.now c.args.group.now c.args.pm.now c.geometry.result.now c.geometry.ensures.numbers is c.commit_group.new.pm
          c.commit_group.ensures.size c.commit_group.ensures.lent c.commit_group.ensures.each_image c.commit_group.ensures.others)
          (c.commit_group.ensures.keeps done) (c.commit_group.ensures.done done),
    )
