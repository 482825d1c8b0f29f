use Rattle.k_plans.proofs.Places.{place-behind}
use Rattle.k_plans.proofs.plans.tables.nodes_are_made_behind_the_staging_files.Goals as goal

pub returns : goal.returns
returns c = place-behind
