use Rattle.std.proofs.Common.{◌≡◌, ◌+◌, ◌*◌, ◌<◌, ℕ, length}
use Rattle.pm_model.specs.Cells.{cell, AllHome}
use Rattle.pm_lines.proofs.parts.cells_of_line.Given as goal

abbrev pub invariant-loop-k : goal.invariant-loop-k
invariant-loop-k l = record {
  size : length l.cells ≡ 8;
  home : AllHome l.cells;
  cells : (j : ℕ) → j < l.k → cell l.cells j ≡ cell l.words (8 * l.line + j);
}
