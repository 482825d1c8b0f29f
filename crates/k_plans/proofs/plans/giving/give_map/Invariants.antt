use Rattle.k_plans.proofs.Gifts.{MapGiven}
use Rattle.k_plans.proofs.plans.giving.give_map.Given as goal

abbrev pub invariant-loop-extent : goal.invariant-loop-extent
invariant-loop-extent l = MapGiven l.extents l.extent-index l.initial.pool l.pool
