-- A checked image by its parts, each of use alone: the head, what the lines read as, what the volume keeps, and the
-- log. The first three speak of no log line, so that they hold while log lines are out.
use Rattle.std.specs.Prelude.{ℕ, ◌<◌}
use Rattle.layout_model.specs.pm_model.Words.{Words}
use Rattle.layout_model.specs.Journal.{journaled}
use Rattle.image_model.specs.Kept.{AreKept}
use Rattle.image_model.specs.Reading.{Reads}
use Rattle.image_model.specs.Rules.{geometry_of, IsWholeBlocks, HasMagic, HasVersion, HasNumbers, HasTarget, HasState, IsNameSlot, HasInode, HasChain, CanRecover, IsOfNoLater}
use Rattle.image_model.specs.Volume.{Volume, name_at}

-- Rules 1 to 4 and 11: the length, block 0 and the journal.
pub record HasHead (bytes : ℕ) (f : Words) : Type 0 where
  pub whole_blocks : IsWholeBlocks bytes
  pub magic : HasMagic f
  pub version : HasVersion f
  pub numbers : HasNumbers bytes f
  pub records : (r : ℕ) → r < 128 → HasTarget (geometry_of f) f r
  pub state : HasState f

-- Rules 5, 6 and 7, of words that nothing is pending for, line by line.
pub record AreLinesKept (v : Volume) (j : Words) : Type 0 where
  pub inodes : (ino : ℕ) → ino < v.geometry.inodes → HasInode j ino
  pub names : (k : ℕ) → k < v.geometry.names → IsNameSlot v (name_at v.geometry j k)
  pub chains : (ino : ℕ) → ino < v.geometry.inodes → HasChain v j ino

-- Rules 12 and 13: the entries of the log.
pub record IsLogKept (v : Volume) (j : Words) : Type 0 where
  pub recovers : CanRecover v j
  pub no_later : (slot : ℕ) → slot < v.geometry.log → IsOfNoLater v j slot

-- An image is checked, and reads as this volume.
pub record IsCheckedAs (bytes : ℕ) (f : Words) (v : Volume) : Type 0 where
  pub head : HasHead bytes f
  pub reads : Reads (geometry_of f) (journaled f) v
  pub kept : AreKept v
  pub log : IsLogKept v (journaled f)
