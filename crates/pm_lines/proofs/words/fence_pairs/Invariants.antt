use Rattle.std.proofs.Common.{◌≡◌, ◌≤◌, ℕ, length, vec_capacity}
use Rattle.pm_model.specs.Cells.{fenced}
use Rattle.pm_lines.specs.Pairs.{word_cell, IsLinked}
use Rattle.pm_lines.proofs.words.fence_pairs.Given as goal

-- what is left to drop is marked, and a fence of that gives what a fence of all gives
abbrev pub invariant-loop-left : goal.invariant-loop-left
invariant-loop-left l = record {
  in_range : l.left ≤ length l.pairs.items;
  linked : IsLinked l.values.items l.pairs.items;
  capacity : vec_capacity l.pairs ≡ vec_capacity l.fn.pairs;
  size : length l.values.items ≡ length l.fn.values.items;
  cells : (i : ℕ) → fenced (word_cell l.values.items l.pairs.items l.left i) ≡ fenced (word_cell l.fn.values.items l.fn.pairs.items l.fn.marked i);
}

abbrev pub decreases-loop-left : goal.decreases-loop-left
decreases-loop-left l = l.left
