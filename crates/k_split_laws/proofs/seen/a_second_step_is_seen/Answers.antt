use Rattle.k_split_laws.specs.Ends.{renames_over_file_seen, tree_of_rename_seen, tree_of_unlink_seen}
use Rattle.k_split_laws.specs.Steps.{state_unlink_seen, unlinks_file_seen}
use Rattle.k_split_laws.proofs.seen.a_second_step_is_seen.Goals as goal

pub returns-clause-unlinked : goal.returns-clause-unlinked
returns-clause-unlinked c = unlinks_file_seen

pub returns-clause-unlink_state : goal.returns-clause-unlink_state
returns-clause-unlink_state c = state_unlink_seen

pub returns-clause-unlink_tree : goal.returns-clause-unlink_tree
returns-clause-unlink_tree c = tree_of_unlink_seen

pub returns-clause-renamed : goal.returns-clause-renamed
returns-clause-renamed c = renames_over_file_seen

pub returns-clause-rename_tree : goal.returns-clause-rename_tree
returns-clause-rename_tree c = tree_of_rename_seen
