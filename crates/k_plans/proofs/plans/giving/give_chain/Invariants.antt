use Rattle.k_plans.proofs.Gifts.{ChainGiven}
use Rattle.k_plans.proofs.plans.giving.give_chain.Given as goal

abbrev pub invariant-loop-block : goal.invariant-loop-block
invariant-loop-block l = ChainGiven l.blocks l.block-index l.initial.pool l.pool
