use Rattle.std.proofs.Common.{◌≡◌, ◌≢◌, ◌*◌, ◌/◌, ◌<◌, ℕ, true, length}
use Rattle.image_layout.specs.layout_model.Journal.{patched, record_target, record_word}
use Rattle.pm_lines.specs.pm_model.declared.Cell.TheVariants.{Single}
use Rattle.pm_lines.specs.pm_model.Cells.{cell, is_lent}
use Rattle.pm_lines.specs.pm_model.Images.{words_of}
use Rattle.pm_lines.specs.pm_model.Powers.{is_on, Steps}
use Rattle.k_journal.proofs.recoveries.replay.Given as goal

-- the words after the records before `index`, as long as there is power
abbrev pub invariant-loop-index : goal.invariant-loop-index
invariant-loop-index l = record {
  size : length l.pm ≡ length l.fn.pm;
  lent : (i : ℕ) → is_lent (cell l.pm i) ≡ is_lent (cell l.fn.pm i);
  steps : Steps (10 * l.index) l.fn.power l.power;
  others : (i : ℕ) → ((r : ℕ) → r < l.index → record_target (words_of l.fn.pm) r ≢ i / 8) → cell l.pm i ≡ cell l.fn.pm i;
  done : is_on l.power ≡ true → (i : ℕ) → cell l.pm i ≡ Single (patched l.index (record_target (words_of l.fn.pm)) (record_word (words_of l.fn.pm)) (words_of l.fn.pm) i);
}
