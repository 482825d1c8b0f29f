-- What the calls leave that write bytes of a file over in place.
use Rattle.std.specs.Prelude.{◌≡◌, ◌⊎◌, ◌≤◌, ◌<◌, ◌+◌, ◌-◌, ◌/◌, ◌%◌, ℕ, true, false, List, [], length, replicate, Option, Some, None, IsSome, Result, Ok, Err}
use Rattle.block_io.specs.pm_model.declared.Cell.{Cell}
use Rattle.block_io.specs.pm_model.Cells.{cell, Settles}
use Rattle.block_io.specs.pm_model.Frames.{KeepsSingle, SameLent}
use Rattle.block_io.specs.pm_model.Images.{Follows}
use Rattle.block_io.specs.pm_model.Powers.{is_on, Supply}
use Rattle.block_io.specs.pm_model.Words.{Words}
use Rattle.block_io.specs.layout_model.Journal.{IsSound, journaled}
use Rattle.block_io.specs.extent_model.Extents.{disk_at}
use Rattle.layout_model.specs.declared.lines.Kind.TheVariants.{File}
use Rattle.block_io.specs.image_model.Reading.{Reads}
use Rattle.block_io.specs.image_model.Volume.{extents, inode, Volume}
use Rattle.block_io.specs.Overwrites.{IsBesideBlocks, IsOverwritten, IsOverwrittenWhole}
use Rattle.k_tables.specs.k_split_model.View.{View}
use Rattle.k_split.specs.declared.faults.KFault.{KFault}
use Rattle.k_split.specs.Order.{IsInOrder}

-- A file of the volume has a disk block for each byte of the range.
pub record MayWriteBytes (v : Volume) (ino first count : ℕ) : Type 0 where
  pub file : (inode v ino).kind ≡ File
  pub mapped : (p : ℕ) → first ≤ p → p < first + count → IsSome (disk_at (extents v ino) (p / 4096))

-- An image after bytes of a file of the volume v were written over, or some of them, beside the image before: it reads as the
-- volume u that was committed last, each byte of the range is the old one or the new one, and all else is as before.
pub record IsWrittenOver (u v : Volume) (ino first : ℕ) (bytes : List ℕ) (before image : Words) : Type 0 where
  pub reads : Reads u.geometry (journaled image) u
  pub sound : IsSound u.geometry image
  pub bytes_are : IsOverwritten (extents v ino) first bytes before image

-- What it makes of the device, done or cut off.
pub record Overwrites (u v : Volume) (ino first : ℕ) (bytes : List ℕ) (old new : List Cell) : Type 0 where
  pub size : length new ≡ length old
  pub lent : SameLent old new
  pub each_image : Follows (IsWrittenOver u v ino first bytes) old new
  pub others : (i : ℕ) → IsBesideBlocks (extents v ino) first (length bytes) i → Settles (cell old i) (cell new i)

-- Done: both volumes are as they were, and each byte of the range is the new one in each image.
pub record IsOverwriteDone (ino first : ℕ) (bytes : List ℕ) (old new : View) : Type 0 where
  pub kept_on : new.lost ≡ false
  pub same : new ≡ record old { cells = new.cells }
  pub order : IsInOrder new
  pub over : Overwrites old.committed old.volume ino first bytes old.cells new.cells
  pub whole : Follows (IsOverwrittenWhole (extents old.volume ino) first bytes) old.cells new.cells
  pub singles : KeepsSingle old.cells new.cells

-- The power went on the way.
pub record IsOverwriteCut (ino first : ℕ) (bytes : List ℕ) (old new : View) : Type 0 where
  pub same : new ≡ record old { cells = new.cells; lost = true }
  pub over : Overwrites old.committed old.volume ino first bytes old.cells new.cells

-- Only the power stops it.
abbrev pub IsOverwriteAnswer : ℕ → ℕ → List ℕ → View → View → Result (Unit {0}) KFault → Type 0
IsOverwriteAnswer ino first bytes old new (Ok done) = IsOverwriteDone ino first bytes old new
IsOverwriteAnswer ino first bytes old new (Err KFault.PowerLost) = (new ≡ record old { lost = true }) ⊎ IsOverwriteCut ino first bytes old new
IsOverwriteAnswer ino first bytes old new (Err (KFault.Refused errno)) = ⊥
IsOverwriteAnswer ino first bytes old new (Err (KFault.Room room)) = ⊥
IsOverwriteAnswer ino first bytes old new (Err KFault.NoMemory) = ⊥

abbrev pub IsOverwritePaid : Supply → Result (Unit {0}) KFault → Type 0
IsOverwritePaid new (Ok done) = is_on new ≡ true
IsOverwritePaid new (Err fault) = is_on new ≡ false

-- the zeros that clean a file from a byte to the end of its block: none where the block is a hole
abbrev pub zeros_behind : Option ℕ → ℕ → List ℕ
zeros_behind None from = []
zeros_behind (Some b) from = replicate (4096 - from % 4096) 0

abbrev pub tail_zeros : Volume → ℕ → ℕ → List ℕ
tail_zeros v ino from = zeros_behind (disk_at (extents v ino) (from / 4096)) from
