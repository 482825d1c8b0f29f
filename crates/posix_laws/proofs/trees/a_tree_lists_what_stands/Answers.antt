use Rattle.posix_laws.specs.TreeOf.{IsTreeOf-tree}
use Rattle.posix_laws.proofs.trees.a_tree_lists_what_stands.Goals as goal

pub returns : goal.returns
returns c = IsTreeOf-tree
