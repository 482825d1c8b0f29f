use Rattle.posix_laws.specs.TreeLaws.{tree-start}
use Rattle.posix_laws.proofs.trees.a_tree_begins_as_itself.Goals as goal

pub returns : goal.returns
returns c = tree-start
