-- the law of the empty plan
use Rattle.k_plans.specs.PlanLaws.{turns-none}
use Rattle.k_plans.proofs.landings.laws.an_empty_plan_turns_nothing.Goals as goal

pub returns : goal.returns
returns c = record { none = turns-none }
