-- The test is true exactly of equal trees.
use Rattle.std.proofs.Common.{◌≡◌, rules}
use Rattle.posix_types.specs.SameNames.{told}
use Rattle.posix_types.specs.SameTrees.{tree_decides, same_tree}
use Rattle.posix_types.proofs.tree.TreePartialEq.eq.Goals as goal

pub returns-clause-exact : goal.returns-clause-exact
returns-clause-exact c =
    let value : c.eq.result ≡ same_tree c.args.self.now c.args.other.now = search rules in
    told tree_decides c.args.self.now c.args.other.now c.eq.result value
