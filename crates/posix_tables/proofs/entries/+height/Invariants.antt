use Rattle.std.proofs.Common.{◌≡◌, ◌-◌, ◌≤◌, drop}
use Rattle.posix_tables.specs.Names.{entries_in, height}
use Rattle.posix_tables.proofs.Heights.{deepest_from}
use Rattle.posix_tables.proofs.entries.+height.Given as goal

abbrev pub decreases-height : goal.decreases-height
decreases-height l = l.most

abbrev pub invariant-loop-entry : goal.invariant-loop-entry
invariant-loop-entry l = record {
  told : deepest_from l.entries (l.most - 1) l.deepest (entries_in (drop l.entry-index l.entries) l.node) ≡ height l.entries l.most l.node;
  bounded : l.deepest ≤ l.most;
}
