-- Staging files get blocks or give them up, and holes are filled, in the batch, each law as one statement. No call ends.
use Rattle.std.specs.Prelude.{◌≡◌, ◌≢◌, ◌⊎◌, ◌<◌, ◌≤◌, ◌+◌, ℕ, List, length, Some}
use Rattle.live_model.specs.pm_model.Images.{IsImage}
use Rattle.live_model.specs.pm_model.Words.{Words}
use Rattle.live_model.specs.layout_model.Places.{Geometry, reserve}
use Rattle.live_model.specs.layout_model.declared.lines.Draft.{Draft}
use Rattle.live_model.specs.extent_model.Extents.{disk_at}
use Rattle.live_model.specs.image_model.Placed.{block_at}
use Rattle.live_model.specs.image_model.Room.{unused_blocks}
use Rattle.live_model.specs.image_model.Volume.{chain, extents, Volume}
use Rattle.live_model.specs.file_table.Files.{Files}
use Rattle.live_model.specs.k_split_model.View.{View}
use Rattle.live_model.specs.k_split_model.Zeros.{AreZeros}
use Rattle.live_model.specs.list_laws.Members.{In}
use Rattle.live_model.specs.commute_laws.posix_types.declared.item.Item.{Item}
use Rattle.live_model.specs.posix_spec.State.{State}
use Rattle.batch_laws.specs.Ready.{GoesReady}
use Rattle.batch_laws.specs.Standing.{staged_of}
use Rattle.batch_publish_laws.specs.Changes.{IsMapGathered}
use Rattle.world_write_laws.specs.HolesLaws.{FillsHoles}
use Rattle.world_write_laws.specs.Restages.{Restages}

-- Of one inode the map and the chain may be others: what its map has is what it had, or one of these blocks, and its chain is in them. The
-- lap stays, and blocks enough are free behind it to publish each staged run by itself.
pub record TakesForOne (blocks : List ℕ) (v w : Volume) (files : Files) (x : ℕ) : Type 0 where
  pub base : w.base ≡ v.base
  pub chains : (i : ℕ) → i ≢ x → chain w i ≡ chain v i
  pub map : (place b : ℕ) → disk_at (extents w x) place ≡ Some b → (disk_at (extents v x) place ≡ Some b) ⊎ In b blocks
  pub chain_in : (j : ℕ) → j < length (chain w x) → In (block_at (chain w x) j) blocks
  pub room : length (staged_of v files) + reserve v.geometry ≤ unused_blocks w + 3

-- A STAGING FILE in which no run is staged GETS BLOCKS, OR GIVES THEM UP: the device goes on.
abbrev pub RestageGoesOn : Type 0
RestageGoesOn =
    (g : Geometry) (k l : View) (files : Files) (count : ℕ) (numbers : List ℕ) (start : State) (history : List Item) (blocks : List ℕ) (w : Volume) (x : ℕ)
    → GoesReady g k files count numbers start history → IsMapGathered blocks k l w → TakesForOne blocks k.volume w files x → Restages k.volume w x
    → ((d : Draft) → In d (staged_of k.volume files) → d.staging ≢ x) → GoesReady g l files count numbers start history

-- HOLES OF A FILE ARE FILLED with blocks that read zero in each image, whatever volume it reads as: the device goes on.
abbrev pub FillGoesOn : Type 0
FillGoesOn =
    (g : Geometry) (k l : View) (files : Files) (count : ℕ) (numbers : List ℕ) (start : State) (history : List Item) (blocks fresh : List ℕ) (w : Volume) (ino : ℕ)
    → GoesReady g k files count numbers start history → IsMapGathered blocks k l w → TakesForOne blocks k.volume w files ino → FillsHoles k.volume w ino fresh
    → ((b : ℕ) → In b fresh → In b blocks) → ((image : Words) → IsImage l.cells image → AreZeros fresh image) → GoesReady g l files count numbers start history
