-- What the content rests on beside the volume: the log lines, and the blocks that files have.
use Rattle.std.specs.Prelude.{◌≡◌, ◌≢◌, ℕ, ◌+◌, ◌*◌, ◌/◌, ◌<◌, List, length, true, Some}
use Rattle.image_model.specs.pm_model.Words.{Words}
use Rattle.image_model.specs.layout_model.Places.{Geometry, log_line}
use Rattle.image_model.specs.layout_model.declared.lines.Draft.{Draft}
use Rattle.image_model.specs.Content.{size_of, disk_of}
use Rattle.image_model.specs.Live.{is_file}
use Rattle.image_model.specs.Placed.{block_at}
use Rattle.image_model.specs.Volume.{Volume, inode}

-- the log lines are the same
pub record SameLog (g : Geometry) (f h : Words) : Type 0 where
  pub words : (s w : ℕ) → s < g.log → w / 8 ≡ log_line g s → h w ≡ f w

-- The blocks that files read, in their maps or staged, have the same words; those of staging files, and behind a
-- file's length, may differ.
pub record SameData (v : Volume) (live : List Draft) (f h : Words) : Type 0 where
  pub words : (ino block b j : ℕ) → is_file (inode v ino).kind ≡ true → 4096 * block < size_of v live ino
      → disk_of v live ino block ≡ Some b → j < 512 → h (512 * b + j) ≡ f (512 * b + j)

-- no file reads any of these blocks
pub record AreUnread (v : Volume) (live : List Draft) (blocks : List ℕ) : Type 0 where
  pub apart : (ino block b k : ℕ) → is_file (inode v ino).kind ≡ true → 4096 * block < size_of v live ino
      → disk_of v live ino block ≡ Some b → k < length blocks → block_at blocks k ≢ b
