-- What the phases of a commit leave in the device.
use Rattle.std.specs.Prelude.{◌≡◌, ◌⊎◌, ◌+◌, ◌*◌, ◌/◌, ◌%◌, ◌<◌, ◌≤◌, ℕ, false, List, length}
use Rattle.image_layout.specs.layout_model.Journal.{is_journal_word}
use Rattle.image_layout.specs.layout_model.Places.{commit_word, state_line, inode_line, record_line}
use Rattle.k_journal.specs.Batch.{target, content}
use Rattle.k_journal.specs.declared.batches.Record.{Record}
use Rattle.pm_lines.specs.pm_model.declared.Cell.{Cell}
use Rattle.pm_lines.specs.pm_model.declared.Cell.TheVariants.{Single}
use Rattle.pm_lines.specs.pm_model.Cells.{cell, Settles}
use Rattle.pm_lines.specs.pm_model.Words.{Words}

-- no entry is of a line of the journal
abbrev pub IsApart : List Record → Type 0
IsApart b = (k : ℕ) → k < length b → (target b k ≡ state_line) ⊎ (inode_line 0 ≤ target b k)

-- the first n entries of the batch stand in the journal's records
pub record AreRecorded (b : List Record) (n : ℕ) (d : List Cell) : Type 0 where
  pub targets : (k : ℕ) → k < n → cell d (8 * record_line k) ≡ Single (target b k)
  pub contents : (k i : ℕ) → k < n → i / 8 ≡ record_line k + 1 → cell d i ≡ Single (content b k (i % 8))

-- the first n entries of the batch stand in their lines
abbrev pub AreInPlace : List Record → ℕ → List Cell → Type 0
AreInPlace b n d = (k i : ℕ) → k < n → i / 8 ≡ target b k → cell d i ≡ Single (content b k (i % 8))

-- What an image of the device tells of how far the commit came.
pub data IsStage (b : List Record) (old new : List Cell) (image : Words) : Type 0 where
  -- no record counts, and the lines are as they were
  Unbegun : image commit_word ≡ 0 → ((i : ℕ) → is_journal_word i ≡ false → Settles (cell old i) (cell new i)) → IsStage b old new image
  -- the records count
  Recorded : image commit_word ≡ length b → AreRecorded b (length b) new → IsStage b old new image
  -- no record counts any more, and the lines are set
  Applied : image commit_word ≡ 0 → AreInPlace b (length b) new → IsStage b old new image
