use Rattle.std.proofs.Common.{[], subst, sym}
use Rattle.k_tables.specs.image_model.Reading.{node_set}
use Rattle.k_plans.specs.LandingsPlans.{Turns}
use Rattle.k_plans.specs.PlanLaws.{turns-none}
use Rattle.k_plans.proofs.plans.making.put_node.Goals as goal

pub returns-clause-turns : goal.returns-clause-turns
returns-clause-turns c = λ v root extents.
    c.put_name.ensures.turns [] v (node_set c.args.place.ino c.args.inode.now v)
    (c.put_inode.ensures.node [] v v root extents
    (subst (Turns c.args.geometry.now [] v v) (sym c.requires.empty) (turns-none c.args.geometry.now [] v)))
