use Rattle.posix_mode_laws.specs.Steps.{tree_permitted, tree_permitted_strongly}
use Rattle.posix_mode_laws.proofs.the_tree_of_the_medium_is_permitted.Goals as goal

pub returns : goal.returns
returns c = record { permitted = tree_permitted; strongly = tree_permitted_strongly }
