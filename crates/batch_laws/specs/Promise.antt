-- The promise of the device between two calls, with its log lines at home, each law as one statement.
use Rattle.std.specs.Prelude.{◌≡◌, ◌≤◌, ◌+◌, ℕ, List, [], length}
use Rattle.eof_laws.specs.live_model.layout_model.Places.{Geometry, reserve}
use Rattle.eof_laws.specs.live_model.image_model.Room.{unused_blocks}
use Rattle.eof_laws.specs.live_model.file_table.Files.{Files}
use Rattle.eof_laws.specs.live_model.k_split_model.View.{View}
use Rattle.eof_laws.specs.live_model.commute_laws.posix_types.declared.item.Item.{Item}
use Rattle.eof_laws.specs.live_model.posix_spec.Run.{Unfinished}
use Rattle.eof_laws.specs.live_model.posix_spec.State.{State}
use Rattle.eof_laws.specs.live_model.crash_spec.Posix.{LastBeforeCut}
use Rattle.eof_laws.specs.live_model.world_image_laws.Images.{HasLogHome}
use Rattle.eof_laws.specs.live_model.world_image_laws.Promised.{KeepsPromise}
use Rattle.posix_mode_laws.specs.Device.{PosixRuns}
use Rattle.batch_laws.specs.Standing.{PosixGoing, sides_of, staged_of}

-- The batch is of the geometry and of the lap of the medium, whose log shows no entry; and once it is committed its free blocks are
-- enough to publish each staged run by itself.
pub record IsAtHome (k : View) (files : Files) : Type 0 where
  pub geometry : k.volume.geometry ≡ k.committed.geometry
  pub base : k.volume.base ≡ k.committed.base
  pub log : HasLogHome k.committed k.cells []
  pub room : length (staged_of k.volume files) + reserve k.volume.geometry ≤ unused_blocks k.volume + 3

-- A device that stands so runs in POSIX mode, by the stronger rule for bytes;
abbrev pub GoingRuns : Type 0
GoingRuns =
    (g : Geometry) (k : View) (files : Files) (count : ℕ) (numbers : List ℕ) (start : State) (history : List Item)
    → (going : PosixGoing g k files count numbers start history) → IsAtHome k files
    → PosixRuns LastBeforeCut (sides_of k files going.old_numbers numbers) k.cells start going.front going.later

-- so it keeps the promise, whatever is unfinished.
abbrev pub GoingIsPromised : Type 0
GoingIsPromised =
    (g : Geometry) (k : View) (files : Files) (count : ℕ) (numbers : List ℕ) (start : State) (history : List Item) (unfinished : List Unfinished)
    → PosixGoing g k files count numbers start history → IsAtHome k files → KeepsPromise g k.cells start history unfinished
