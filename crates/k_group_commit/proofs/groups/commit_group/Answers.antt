use Rattle.std.proofs.Common.{[], sym, subst, List}
use Rattle.k_plans.specs.k_journal.declared.batches.Record.{Record}
use Rattle.k_plans.specs.LandingLaws.{each_image-committed, may-commit, stands-committed}
use Rattle.k_group_commit.specs.Gathered.{AreGathered}
use Rattle.k_group_commit.specs.GatheredLaws.{none-gathered}
use Rattle.k_group_commit.proofs.groups.commit_group.Goals as goal

pub commit-requires : goal.commit-requires
commit-requires c = record {
  ready = λ on.
      let is = (c.requires.ready on).2 in
      may-commit c.args.geometry.now is.news (c.requires.ready on).0 (c.requires.ready on).1 c.args.group.now c.args.pm.now is.are.stands is.are.turns;
}

pub returns-clause-each_image : goal.returns-clause-each_image
returns-clause-each_image c u v is =
    each_image-committed c.args.geometry.now is.news u v c.args.group.now c.args.pm.now c.commit.new.pm is.are.stands is.are.stand is.are.turns c.commit.ensures.each_image

pub returns-clause-done : goal.returns-clause-done
returns-clause-done c done u v is =
    subst (λ (b : List Record). AreGathered c.args.geometry.now [] v v b c.commit.new.pm) (sym (c.commit.ensures.empty done))
    (none-gathered c.args.geometry.now v c.commit.new.pm
    (stands-committed c.args.geometry.now is.news u v c.args.group.now c.args.pm.now c.commit.new.pm is.are.stands is.are.stand is.are.single is.are.turns
    c.commit.ensures.size (c.commit.ensures.idle done) (c.commit.ensures.keeps done) (c.commit.ensures.durable done)))
