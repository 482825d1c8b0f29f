use Rattle.std.proofs.Common.{◌≡◌, ◌-◌, ◌*◌, ◌/◌, ◌<◌, ◌≤◌, ◌⊎◌, ℕ, true, length}
use Rattle.pm_lines.specs.pm_model.declared.Cell.TheVariants.{Single}
use Rattle.pm_lines.specs.pm_model.Cells.{cell, is_lent, fenced}
use Rattle.pm_lines.specs.pm_model.Powers.{is_on, Steps}
use Rattle.block_io.specs.Overwrites.{GoesToZero}
use Rattle.block_io.proofs.block_bytes.lines.clear_lines.Given as goal

-- the lines so far are flushed, the other words are as they were
abbrev pub invariant-loop-line : goal.invariant-loop-line
invariant-loop-line l = record {
  size : length l.pm ≡ length l.fn.pm;
  steps : Steps (9 * (l.line - l.first)) l.fn.power l.power;
  lent : (i : ℕ) → is_lent (cell l.pm i) ≡ is_lent (cell l.fn.pm i);
  others : (i : ℕ) → (i / 8 < l.first) ⊎ (l.line ≤ i / 8) → cell l.pm i ≡ cell l.fn.pm i;
  going : (i : ℕ) → l.first ≤ i / 8 → i / 8 < l.line → GoesToZero (cell l.fn.pm i) (cell l.pm i);
  done : is_on l.power ≡ true → (i : ℕ) → l.first ≤ i / 8 → i / 8 < l.line → fenced (cell l.pm i) ≡ Single 0;
}
