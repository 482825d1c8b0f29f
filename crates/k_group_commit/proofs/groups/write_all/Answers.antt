-- one map after the other
use Rattle.std.proofs.Common.{◌∙◌, subst}
use Rattle.std.proofs.lemmas.List.{get_or_default}
use Rattle.k_plans.specs.Maps.{Writes}
use Rattle.k_plans.specs.LandingsPlans.{NewChain, no_new}
use Rattle.k_plans.specs.WrittenLaws.{writes-none, writes-more}
use Rattle.k_group_commit.proofs.groups.write_all.Goals as goal

pub loop-one-init : goal.loop-one-init
loop-one-init c = writes-none c.args.maps.now c.args.pm.now c.args.power.now

pub loop-one-preserved : goal.loop-one-preserved
loop-one-preserved c =
    let n = c.loop-one.one-index in
    let maps = c.args.maps.now in
    writes-more maps n c.args.pm.now c.loop-one.pm c.write_one.new.pm c.args.power.now c.loop-one.power c.write_one.new.power
    c.loop-one-test.true c.requires.ready c.loop-one.invariant
    (subst (λ (x : NewChain). Writes x c.loop-one.pm c.write_one.new.pm c.loop-one.power c.write_one.new.power)
    (c.one-item.is ∙ get_or_default maps n c.one-item.result no_new c.loop-one-test.true) c.write_one.ensures)
