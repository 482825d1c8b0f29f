-- What is asked of a block of a staging file that is lent, or written in place.
use Rattle.std.specs.Prelude.{◌≡◌, ◌≤◌, ◌/◌, ℕ, true, List, Some}
use Rattle.block_io.specs.pm_model.declared.Cell.{Cell}
use Rattle.block_io.specs.pm_model.Cells.{cell, is_single}
use Rattle.block_io.specs.extent_model.Extents.{disk_at}
use Rattle.block_io.specs.image_model.Volume.{extents, Volume}

-- The staging file, inode 1 to 4, has this disk block at its block, and each word of it has one candidate: so none is lent.
pub record MayLend (v : Volume) (d : List Cell) (staging block b : ℕ) : Type 0 where
  pub least : 1 ≤ staging
  pub most : staging ≤ 4
  pub at : disk_at (extents v staging) block ≡ Some b
  pub single : (i : ℕ) → i / 512 ≡ b → is_single (cell d i) ≡ true
