use Rattle.std.proofs.Common.{◌≡◌, replicate, None}
use Rattle.k_names.proofs.rows.blank_lines.Given as goal

abbrev pub invariant-loop-line : goal.invariant-loop-line
invariant-loop-line l = l.lines.items ≡ replicate l._line None
