use Rattle.std.proofs.Common.{[], subst, sym}
use Rattle.std.specs.Prelude.{None}
use Rattle.k_tables.specs.image_model.Reading.{row_set}
use Rattle.k_plans.specs.LandingsPlans.{Turns}
use Rattle.k_plans.specs.PlanLaws.{turns-none}
use Rattle.k_plans.proofs.plans.renaming.put_over_file.Goals as goal

pub returns-clause-turns : goal.returns-clause-turns
returns-clause-turns c = λ v.
    c.put_name.ensures.turns [] v (row_set c.args.target None v)
    (c.clear_name.ensures.turns [] v v
    (subst (Turns c.args.geometry.now [] v v) (sym c.requires.empty) (turns-none c.args.geometry.now [] v)))
