use Rattle.std.proofs.Common.{◌≡◌, ◌≢◌, ◌/◌, ◌%◌, ◌<◌, ◌≤◌, ℕ, true, false, length}
use Rattle.pm_model.specs.declared.Cell.TheVariants.{Single}
use Rattle.pm_model.specs.Cells.{cell, is_lent, flushed, fenced, MayHold}
use Rattle.pm_model.specs.Powers.{is_on, Steps}
use Rattle.pm_model.specs.Words.{word_at}
use Rattle.pm_lines.proofs.devices.Pm.write_line.Given as goal

-- the words before k are stored, the others are as they were
abbrev pub invariant-loop-k : goal.invariant-loop-k
invariant-loop-k l = record {
  size : length l.self ≡ length l.fn.self;
  steps : Steps l.k l.fn.power l.power;
  others : (i : ℕ) → i / 8 ≢ l.line → cell l.self i ≡ cell l.fn.self i;
  later : (i : ℕ) → i / 8 ≡ l.line → l.k ≤ i % 8 → cell l.self i ≡ cell l.fn.self i;
  lent : (i : ℕ) → is_lent (cell l.self i) ≡ is_lent (cell l.fn.self i);
  home : (i : ℕ) → i / 8 ≡ l.line → is_lent (cell l.self i) ≡ false;
  torn : (i : ℕ) → i / 8 ≡ l.line → MayHold (cell l.fn.self i) (word_at l.bytes (i % 8)) (cell l.self i);
  done : is_on l.power ≡ true → (i : ℕ) → i / 8 ≡ l.line → i % 8 < l.k → fenced (flushed (cell l.self i)) ≡ Single (word_at l.bytes (i % 8));
  off : is_on l.fn.power ≡ false → (l.self ≡ l.fn.self) × (l.power ≡ l.fn.power);
}
