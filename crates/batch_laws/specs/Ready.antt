-- The standing between two calls, with what a commit and the runs that are staged ask for.
use Rattle.std.specs.Prelude.{◌≡◌, ◌≢◌, ◌≤◌, ◌+◌, ℕ, List, [], length}
use Rattle.eof_laws.specs.live_model.layout_model.Places.{Geometry, reserve}
use Rattle.eof_laws.specs.live_model.layout_model.declared.lines.Kind.TheVariants.{File, Staging}
use Rattle.eof_laws.specs.live_model.image_model.Room.{unused_blocks}
use Rattle.eof_laws.specs.live_model.image_model.Volume.{extents, inode, Volume}
use Rattle.eof_laws.specs.live_model.file_table.Files.{Files}
use Rattle.eof_laws.specs.live_model.k_split_model.View.{View}
use Rattle.eof_laws.specs.live_model.commute_laws.posix_types.declared.item.Item.{Item}
use Rattle.eof_laws.specs.live_model.posix_spec.State.{State}
use Rattle.batch_laws.specs.Standing.{PosixGoing, staged_of}

-- what is no file and no staging file has no block
abbrev pub AreUnmapped : Volume → Type 0
AreUnmapped v = (ino : ℕ) → (inode v ino).kind ≢ File → (inode v ino).kind ≢ Staging → extents v ino ≡ []

-- THE DEVICE GOES ON, READY FOR A COMMIT: the batch is of the geometry and of the lap of the medium; what is no file in it has no block;
-- and its free blocks are enough to publish each staged run by itself. No line of the log is looked at.
pub record GoesReady (g : Geometry) (k : View) (files : Files) (count : ℕ) (numbers : List ℕ) (start : State) (history : List Item) : Type 0 where
  pub going : PosixGoing g k files count numbers start history
  pub geometry : k.volume.geometry ≡ k.committed.geometry
  pub base : k.volume.base ≡ k.committed.base
  pub unmapped : AreUnmapped k.volume
  pub room : length (staged_of k.volume files) + reserve k.volume.geometry ≤ unused_blocks k.volume + 3
