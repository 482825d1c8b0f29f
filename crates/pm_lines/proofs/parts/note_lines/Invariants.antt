use Rattle.pm_lines.specs.LentLines.{NotesLines}
use Rattle.std.proofs.Common.{◌-◌}
use Rattle.pm_lines.proofs.parts.note_lines.Given as goal

abbrev pub invariant-loop-line : goal.invariant-loop-line
invariant-loop-line l = NotesLines l.first (l.line - l.first) l.out l.fn.lent.items l.lent.items
