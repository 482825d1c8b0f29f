-- a commit of a plan without new maps
use Rattle.std.proofs.Common.{[]}
use Rattle.k_inodes.specs.pm_model.Images.{Follows-weaken}
use Rattle.k_journal.specs.Commits.{IsBeforeOrAfter}
use Rattle.k_plans.specs.Landings.{SameElsewhere}
use Rattle.k_plans.specs.LandingLaws.{each_image-committed, stands-committed, has-none, single-none}
use Rattle.k_plans.proofs.landings.landings.land.Goals as goal

pub returns-clause-each_image : goal.returns-clause-each_image
returns-clause-each_image c v w stands turns =
    let g = c.args.geometry.now in
    each_image-committed g [] v w c.args.batch.now c.args.pm.now c.commit.new.pm stands (has-none g c.args.pm.now) turns c.commit.ensures.each_image

pub returns-clause-elsewhere : goal.returns-clause-elsewhere
returns-clause-elsewhere c =
    Follows-weaken (IsBeforeOrAfter c.args.geometry.now c.args.batch.now) (SameElsewhere c.args.batch.now []) c.args.pm.now c.commit.new.pm
    (λ before image after i out. after.others i out.journal out.lines) c.commit.ensures.each_image

pub returns-clause-done : goal.returns-clause-done
returns-clause-done c done v w stands turns =
    let g = c.args.geometry.now in
    stands-committed g [] v w c.args.batch.now c.args.pm.now c.commit.new.pm stands (has-none g c.args.pm.now) (single-none c.args.pm.now) turns
    c.commit.ensures.size (c.commit.ensures.idle done) (c.commit.ensures.keeps done) (c.commit.ensures.durable done)
