use Rattle.std.proofs.Common.{◌≡◌, ◌≢◌, ◌*◌, ◌/◌, ◌%◌, ◌<◌, ℕ, true, length}
use Rattle.k_journal.specs.Batch.{target, content}
use Rattle.pm_lines.specs.pm_model.declared.Cell.TheVariants.{Single}
use Rattle.pm_lines.specs.pm_model.Cells.{cell, is_single, is_lent, fenced}
use Rattle.pm_lines.specs.pm_model.Powers.{is_on, Steps}
use Rattle.k_journal.proofs.phases.put_targets.Given as goal

-- the lines before the entry's are flushed, the other words are as they were
abbrev pub invariant-loop-entry : goal.invariant-loop-entry
invariant-loop-entry l = record {
  size : length l.pm ≡ length l.fn.pm;
  lent : (i : ℕ) → is_lent (cell l.pm i) ≡ is_lent (cell l.fn.pm i);
  steps : Steps (9 * l.entry-index) l.fn.power l.power;
  others : (i : ℕ) → ((k : ℕ) → k < l.entry-index → target l.entries k ≢ i / 8) → cell l.pm i ≡ cell l.fn.pm i;
  targets : is_on l.power ≡ true → (k i : ℕ) → k < l.entry-index → i / 8 ≡ target l.entries k → fenced (cell l.pm i) ≡ Single (content l.entries k (i % 8));
  keeps : is_on l.power ≡ true → (i : ℕ) → is_single (cell l.fn.pm i) ≡ true → is_single (fenced (cell l.pm i)) ≡ true;
}
