use Rattle.k_split_laws.specs.DeviceSteps.{renames_over_file, state_unlink, tree_of_rename, tree_of_unlink, unlinks_file}
use Rattle.k_split_laws.specs.Sweeps.{leads_swept}
use Rattle.k_split_laws.proofs.exits.a_second_step_ends_the_call.Goals as goal

pub returns-clause-unlinked : goal.returns-clause-unlinked
returns-clause-unlinked c = unlinks_file

pub returns-clause-unlink_state : goal.returns-clause-unlink_state
returns-clause-unlink_state c = state_unlink

pub returns-clause-unlink_tree : goal.returns-clause-unlink_tree
returns-clause-unlink_tree c = tree_of_unlink

pub returns-clause-renamed : goal.returns-clause-renamed
returns-clause-renamed c = renames_over_file

pub returns-clause-rename_tree : goal.returns-clause-rename_tree
returns-clause-rename_tree c = tree_of_rename

pub returns-clause-leads : goal.returns-clause-leads
returns-clause-leads c = leads_swept
