use Rattle.std.proofs.Common.{◌≡◌, ◌≢◌, ◌+◌, ◌*◌, ◌/◌, ◌%◌, ◌<◌, ◌≤◌, ℕ, true, false, length, get_or}
use Rattle.pm_lines.specs.pm_model.declared.Cell.TheVariants.{Single}
use Rattle.pm_lines.specs.pm_model.Cells.{cell, is_lent, flushed, fenced}
use Rattle.pm_lines.specs.pm_model.Powers.{is_on, Steps}
use Rattle.map_chain.proofs.writing.store_line.Given as goal

-- the words before k are stored where they differ, the others are as they were
abbrev pub invariant-loop-k : goal.invariant-loop-k
invariant-loop-k l = record {
  size : length l.pm ≡ length l.fn.pm;
  steps : Steps l.k l.fn.power l.power;
  others : (i : ℕ) → i / 8 ≢ l.line → cell l.pm i ≡ cell l.fn.pm i;
  later : (i : ℕ) → i / 8 ≡ l.line → l.k ≤ i % 8 → cell l.pm i ≡ cell l.fn.pm i;
  lent : (i : ℕ) → is_lent (cell l.pm i) ≡ is_lent (cell l.fn.pm i);
  home : (i : ℕ) → i / 8 ≡ l.line → is_lent (cell l.pm i) ≡ false;
  done : is_on l.power ≡ true → (i : ℕ) → i / 8 ≡ l.line → i % 8 < l.k → fenced (flushed (cell l.pm i)) ≡ Single (get_or l.words (i % 8) 0);
}
