use Rattle.std.proofs.lemmas.Result.{IfOk-weaker}
use Rattle.k_plans.proofs.Asides.{nothing-listed}
use Rattle.k_plans.proofs.plans.tables.none_held.Goals as goal

pub returns-clause-none : goal.returns-clause-none
returns-clause-none c = IfOk-weaker c.none.result _ _ (λ held none. nothing-listed held none) c.none.ensures.none
