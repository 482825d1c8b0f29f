use Rattle.std.proofs.Common.{◌≡◌, ◌+◌, ◌*◌, ◌<◌, ℕ, length, get_or}
use Rattle.pm_model.specs.Cells.{cell, newest}
use Rattle.pm_lines.proofs.parts.newest_of_line.Given as goal

abbrev pub invariant-loop-k : goal.invariant-loop-k
invariant-loop-k l = record { size : length l.values ≡ 8; words : (j : ℕ) → j < l.k → get_or l.values j 0 ≡ newest (cell l.words (8 * l.line + j)) }
