use Rattle.k_plans.proofs.Gifts.{run-more}
use Rattle.k_plans.proofs.plans.giving.give_run.Goals as goal

pub loop-block-preserved : goal.loop-block-preserved
loop-block-preserved c =
    run-more c.args.first c.loop-block.block c.args.pool.now c.loop-block.pool c.give.new.self c.loop-block.auto.block c.loop-block.invariant c.give.ensures
