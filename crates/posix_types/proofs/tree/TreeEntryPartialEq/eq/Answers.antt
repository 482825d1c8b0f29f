-- The test is true exactly of equal entries, whichever part answered.
use Rattle.std.proofs.Common.{◌≡◌, rules}
use Rattle.posix_types.specs.SameNames.{told}
use Rattle.posix_types.specs.SameTrees.{entry_decides, same_entry}
use Rattle.posix_types.proofs.tree.TreeEntryPartialEq.eq.Goals as goal

pub returns-then-eq-clause-exact : goal.returns-then-eq-clause-exact
returns-then-eq-clause-exact c =
    let value : c.eq-then-eq.result ≡ same_entry c.args.self.now c.args.other.now = search rules in
    told entry_decides c.args.self.now c.args.other.now c.eq-then-eq.result value

pub returns-else-eq-clause-exact : goal.returns-else-eq-clause-exact
returns-else-eq-clause-exact c =
    let value : c.eq.result ≡ same_entry c.args.self.now c.args.other.now = search rules in
    told entry_decides c.args.self.now c.args.other.now c.eq.result value
