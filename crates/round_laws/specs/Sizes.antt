-- The sizes of the files of a mounted device.
use Rattle.std.specs.Prelude.{◌≡◌, ℕ, [], length}
use Rattle.world_view_laws.specs.eof_laws.image_model.Volume.{inode, Volume}
use Rattle.world_view_laws.specs.eof_laws.file_table.Files.{Files, runs_in, size_in}

-- THE TABLE HAS THE SIZES OF ALL INODES, and nothing is staged of any.
pub record HasSizesOf (v : Volume) (t : Files) : Type 0 where
  pub count : length t.sizes ≡ length v.inodes
  pub sizes : (ino : ℕ) → size_in t ino ≡ (inode v ino).size
  pub runs : (ino : ℕ) → runs_in t ino ≡ []
