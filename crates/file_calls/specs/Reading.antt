-- When the bytes of an open file can be read.
use Rattle.std.specs.Prelude.{◌≡◌, ◌<◌, ℕ, true, length, Some, IsSome}
use Rattle.live_step_laws.specs.file_reads.Reads.{FileCanBeRead}
use Rattle.eof_laws.specs.file_table.Files.{Files, runs_in}
use Rattle.eof_laws.specs.k_split_model.View.{View}
use Rattle.open_files.specs.declared.files.opened.Opened.{Opened}
use Rattle.open_files.specs.Found.{description_in}
use Rattle.posix_types.specs.declared.call.Who.{Who}
use Rattle.posix_types.specs.declared.handle.Handle.{Handle}
use Rattle.posix_types.specs.declared.handle.Whence.{Whence}
use Rattle.posix_tables.specs.Open.{description_number, key_of, opened, Tables}

-- It is an inode of the volume, something is kept of it, and each of its blocks is readable, by what is staged and by its map.
pub record IsReadableFile (k : View) (f : Files) (ino : ℕ) : Type 0 where
  pub below : ino < length k.volume.inodes
  pub line : ino < length f.sizes
  pub readable : FileCanBeRead k.volume k.cells (runs_in f ino) ino

-- what a seek counts from, by the offset and the size
abbrev pub base_by : ℕ → ℕ → Whence → ℕ
base_by offset size Whence.Set = 0
base_by offset size Whence.Cur = offset
base_by offset size Whence.End = size

-- The handle stands for this description, which may be read, and the key is that of its offset.
pub record IsReadBy (t : Tables) (who : Who) (handle : Handle) (o : Opened) : Type 0 where
  pub known : opened t who handle ≡ Some (description_in o)
  pub may : o.flags.read ≡ true
  pub key : description_number t.descriptors o.key ≡ key_of t who handle
  pub in_use : IsSome (description_number t.descriptors o.key)
