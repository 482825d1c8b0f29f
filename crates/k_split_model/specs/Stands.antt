-- When a device stands at a volume, and what a power loss leaves of a change of volumes.
use Rattle.std.specs.Prelude.{◌≡◌, ◌⊎◌, ℕ, ◌*◌, ◌/◌, ◌<◌, List, length, true, false}
use Rattle.image_model.specs.pm_model.declared.Cell.{Cell}
use Rattle.image_model.specs.pm_model.declared.Cell.TheVariants.{Single}
use Rattle.image_model.specs.pm_model.Cells.{cell, is_single}
use Rattle.image_model.specs.pm_model.Images.{IsImage}
use Rattle.image_model.specs.pm_model.Words.{Words}
use Rattle.image_model.specs.layout_model.Places.{Geometry, commit_word, log_block, is_journaled_line}
use Rattle.image_model.specs.layout_model.Journal.{is_journal_word, journaled, IsSound}
use Rattle.image_model.specs.Placed.{AreSingle, IsOutside}
use Rattle.image_model.specs.Reading.{Reads}
use Rattle.image_model.specs.Volume.{Volume, chain}

-- The device stands at the volume: its journal is empty; each word of the metadata and of the chains has one candidate;
-- and whatever its images are, they read as the volume, whatever words are put back where words are lent. Log lines and
-- data blocks may be lent, or have two candidates.
pub record Stands (g : Geometry) (v : Volume) (d : List Cell) : Type 0 where
  pub size : length d ≡ 512 * g.blocks
  pub idle : cell d commit_word ≡ Single 0
  pub single : (i : ℕ) → i < 512 * log_block g → is_single (cell d i) ≡ true
  pub chains : (ino : ℕ) → AreSingle (chain v ino) d
  pub reads : (image : Words) → IsImage d image → Reads g (journaled image) v

-- An image after a change, or after a part of it, beside the image before: it reads as the old volume or as the new one,
-- and is the same outside the journal, the journaled lines and the blocks that the change writes. That no inode of the old
-- volume has one of those blocks is not said here: a change that writes blocks asks for it.
pub record IsOldOrNew (g : Geometry) (blocks : List ℕ) (v w : Volume) (before image : Words) : Type 0 where
  pub reads : Reads g (journaled image) v ⊎ Reads g (journaled image) w
  pub others : (i : ℕ) → is_journal_word i ≡ false → is_journaled_line g (i / 8) ≡ false → IsOutside blocks i → image i ≡ before i
  pub sound : IsSound g image
