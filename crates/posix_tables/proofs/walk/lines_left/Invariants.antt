use Rattle.std.proofs.Common.{◌≡◌, ◌-◌, take, sum_by}
use Rattle.posix_tables.specs.Names.{lines_taken}
use Rattle.posix_tables.proofs.walk.lines_left.Given as goal

abbrev pub invariant-loop-entry : goal.invariant-loop-entry
invariant-loop-entry l = l.left ≡ l.lines - sum_by (λ entry. lines_taken entry.name) (take l.entry-index l.entries)
