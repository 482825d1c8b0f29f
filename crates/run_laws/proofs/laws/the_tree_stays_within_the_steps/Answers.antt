use Rattle.run_laws.proofs.Longer.{keeps_given}
use Rattle.run_laws.proofs.laws.the_tree_stays_within_the_steps.Goals as goal

pub returns : goal.returns
returns c = keeps_given
