use Rattle.std.proofs.Common.{◌≡◌, ◌++◌, drop}
use Rattle.posix_tables.specs.Names.{names_in}
use Rattle.posix_tables.proofs.entries.names_in.Given as goal

abbrev pub invariant-loop-entry : goal.invariant-loop-entry
invariant-loop-entry l = l.names.items ++ names_in (drop l.entry-index l.entries) l.parent ≡ names_in l.entries l.parent
