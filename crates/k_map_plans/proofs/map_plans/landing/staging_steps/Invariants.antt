use Rattle.std.proofs.Common.{◌≡◌, ◌++◌, [], List, drop}
use Rattle.k_map_plans.specs.LandingSteps.{steps_of}
use Rattle.k_map_plans.specs.Steps.{Step}
use Rattle.k_map_plans.proofs.map_plans.landing.staging_steps.Given as goal

abbrev pub invariant-loop-place : goal.invariant-loop-place
invariant-loop-place l =
    (end : List Step) → l.steps.items ++ steps_of l.tables.volume l.lefts l.own (drop l.place l.touched) (drop l.place l.news) l.freed.items end
    ≡ steps_of l.tables.volume l.lefts l.own l.touched l.news [] end
