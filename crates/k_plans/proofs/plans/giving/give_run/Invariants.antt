use Rattle.k_plans.specs.Giving.{AreGiven}
use Rattle.k_tables.specs.extent_model.Extents.{is_between}
use Rattle.k_plans.proofs.plans.giving.give_run.Given as goal

abbrev pub invariant-loop-block : goal.invariant-loop-block
invariant-loop-block l = AreGiven (is_between l.fn.first l.block) l.initial.pool l.pool
