use Rattle.posix_laws.specs.TreeOf.{IsTreeOf-same}
use Rattle.posix_laws.proofs.trees.a_content_has_one_tree.Goals as goal

pub returns : goal.returns
returns c = IsTreeOf-same
