use Rattle.std.proofs.Common.{◌≡◌, ◌+◌, ◌*◌, ◌/◌, ◌%◌, ◌<◌, ◌≤◌, ℕ, true, length}
use Rattle.image_layout.specs.layout_model.Places.{record_line}
use Rattle.k_journal.specs.Batch.{target, content}
use Rattle.pm_lines.specs.pm_model.declared.Cell.TheVariants.{Single}
use Rattle.pm_lines.specs.pm_model.Cells.{cell, is_single, is_lent, fenced}
use Rattle.pm_lines.specs.pm_model.Powers.{is_on, Steps}
use Rattle.k_journal.proofs.records.put_records.Given as goal

-- the records before `index` are flushed, the words behind them are as they were
abbrev pub invariant-loop-index : goal.invariant-loop-index
invariant-loop-index l = record {
  size : length l.pm ≡ length l.fn.pm;
  lent : (i : ℕ) → is_lent (cell l.pm i) ≡ is_lent (cell l.fn.pm i);
  steps : Steps (11 * l.index) l.fn.power l.power;
  below : (i : ℕ) → i < 512 → cell l.pm i ≡ cell l.fn.pm i;
  later : (i : ℕ) → 512 + 16 * l.index ≤ i → cell l.pm i ≡ cell l.fn.pm i;
  targets : is_on l.power ≡ true → (k : ℕ) → k < l.index → fenced (cell l.pm (8 * record_line k)) ≡ Single (target l.entries k);
  contents : is_on l.power ≡ true → (k i : ℕ) → k < l.index → i / 8 ≡ record_line k + 1 → fenced (cell l.pm i) ≡ Single (content l.entries k (i % 8));
  keeps : is_on l.power ≡ true → (i : ℕ) → is_single (cell l.fn.pm i) ≡ true → is_single (fenced (cell l.pm i)) ≡ true;
}
