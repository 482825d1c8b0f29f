use Rattle.std.proofs.Common.{◌≡◌, ◌+◌, ◌<◌, ◌≤◌, ℕ, length}
use Rattle.pm_model.specs.Cells.{cell, unmarked}
use Rattle.pm_lines.proofs.parts.put_cells.Given as goal

abbrev pub invariant-loop-k : goal.invariant-loop-k
invariant-loop-k l = record {
  size : length l.words ≡ length l.fn.words;
  inside : (j : ℕ) → j < l.k → cell l.words (l.first + j) ≡ unmarked (cell l.part j);
  below : (i : ℕ) → i < l.first → cell l.words i ≡ cell l.fn.words i;
  above : (i : ℕ) → l.first + l.k ≤ i → cell l.words i ≡ cell l.fn.words i;
}
