use Rattle.world_image_laws.specs.Unseen.{tree_close, tree_rename, tree_unlink}
use Rattle.world_image_laws.proofs.images.a_node_without_a_name_is_in_no_tree.Goals as goal

pub returns-clause-unlink : goal.returns-clause-unlink
returns-clause-unlink c = tree_unlink

pub returns-clause-rename : goal.returns-clause-rename
returns-clause-rename c = tree_rename

pub returns-clause-close : goal.returns-clause-close
returns-clause-close c = tree_close
