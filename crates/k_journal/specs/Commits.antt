-- What a commit asks for and what it leaves.
use Rattle.std.specs.Prelude.{◌≡◌, ◌⊎◌, ◌*◌, ◌/◌, ◌<◌, ℕ, true, false, List, length, Some}
use Rattle.image_layout.specs.layout_model.Journal.{is_journal_word, journaled, IsSound}
use Rattle.image_layout.specs.layout_model.Places.{Geometry, commit_word, is_journaled_line}
use Rattle.k_journal.specs.Batch.{target, with_batch, AllLines, IsNew}
use Rattle.k_journal.specs.declared.batches.Record.{Record}
use Rattle.pm_lines.specs.pm_model.declared.Cell.{Cell}
use Rattle.pm_lines.specs.pm_model.declared.Cell.TheVariants.{Single}
use Rattle.pm_lines.specs.pm_model.Cells.{cell, is_single}
use Rattle.pm_lines.specs.pm_model.Frames.{LineIsSingle}
use Rattle.pm_lines.specs.pm_model.Powers.{Supply}
use Rattle.pm_lines.specs.pm_model.Words.{Words}

-- The device has the blocks of the geometry, the batch's lines are journaled ones, the commit word is 0, and the
-- words of blocks 0 to 4 and of the batch's lines have one candidate each.
pub record MayCommit (g : Geometry) (b : List Record) (d : List Cell) : Type 0 where
  pub blocks : length d ≡ 512 * g.blocks
  pub lines : AllLines (is_journaled_line g) b
  pub idle : cell d commit_word ≡ Single 0
  pub journal : (i : ℕ) → i < 2560 → is_single (cell d i) ≡ true
  pub targets : (k : ℕ) → k < length b → LineIsSingle (target b k) d

-- An image after a commit, or after a part of it, beside the image before. Its journaled view has all of the
-- batch's lines or none; outside the journal and these lines no word changed; and its journal can be recovered
-- where the one before could.
pub record IsBeforeOrAfter (g : Geometry) (b : List Record) (before image : Words) : Type 0 where
  pub view : (journaled image ≡ journaled before) ⊎ (journaled image ≡ with_batch b (journaled before))
  pub others : (w : ℕ) → is_journal_word w ≡ false → IsNew b (w / 8) → image w ≡ before w
  pub sound : IsSound g before → IsSound g image

-- An image after a whole commit, beside the image before.
pub record IsAfter (g : Geometry) (b : List Record) (before image : Words) : Type 0 where
  pub view : journaled image ≡ with_batch b (journaled before)
  pub others : (w : ℕ) → is_journal_word w ≡ false → IsNew b (w / 8) → image w ≡ before w
  pub sound : IsSound g image

-- Between the two at least one step was taken. A power that always lasts keeps no count of them.
abbrev pub TakesAStep : Supply → Supply → Type 0
TakesAStep old new = (given : ℕ) → old.given ≡ Some given → old.taken < new.taken
