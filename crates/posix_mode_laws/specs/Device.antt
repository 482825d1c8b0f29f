-- POSIX mode on a device, between two calls.
use Rattle.std.specs.Prelude.{◌≡◌, ◌≤◌, ◌<◌, ◌+◌, ℕ, List, [], length, map}
use Rattle.world_image_laws.specs.pm_model.declared.Cell.{Cell}
use Rattle.world_image_laws.specs.pm_model.Images.{IsImage}
use Rattle.world_image_laws.specs.pm_model.Words.{Words}
use Rattle.world_image_laws.specs.layout_model.Journal.{journaled}
use Rattle.world_image_laws.specs.layout_model.Places.{data_blocks, IsGeometry, reserve}
use Rattle.world_image_laws.specs.layout_model.declared.lines.Inode.{Inode}
use Rattle.world_image_laws.specs.image_model.Room.{unused_blocks}
use Rattle.world_image_laws.specs.image_model.Rules.{IsOfNoLater}
use Rattle.world_image_laws.specs.image_model.Volume.{Volume}
use Rattle.world_image_laws.specs.k_split_model.Stands.{Stands}
use Rattle.world_image_laws.specs.posix_types.declared.call.Mode.{Mode}
use Rattle.world_image_laws.specs.posix_types.declared.item.Item.{Item}
use Rattle.world_image_laws.specs.posix_tables.Nodes.{bytes_of, node_at, published_of}
use Rattle.world_image_laws.specs.posix_spec.State.{Fits, State}
use Rattle.world_image_laws.specs.crash_spec.Posix.{LaterRule}
use Rattle.world_image_laws.specs.world_model.Rules.{HasFreeBlocks}
use Rattle.world_image_laws.specs.world_step_laws.Counts.{HasShape}
use Rattle.world_image_laws.specs.Images.{HasNoEntry, IsHeaded}
use Rattle.posix_mode_laws.specs.Sides.{PosixWorld, Sides}

-- One image: its head is right, its log has no entry of this lap nor of one to come, and the world in POSIX mode stands with its
-- words. What the files of the medium hold leaves the reserve, and its state has the shape of the volume.
pub record ShowsPosixWorld (rule : LaterRule) (w : Sides) (start : State) (kept later : List Item) (image : Words) : Type 0 where
  pub headed : IsHeaded w.committed.geometry image
  pub world : PosixWorld rule w (journaled image) start kept later
  pub no_entry : HasNoEntry w.committed (journaled image)
  pub no_later : (slot : ℕ) → slot < w.committed.geometry.log → IsOfNoLater w.committed (journaled image) slot
  pub fits : Fits world.medium.state
  pub shape : HasShape w.committed world.medium.state
  pub blocks : world.medium.state.shape.data_blocks ≡ data_blocks w.committed.geometry

-- THE DEVICE RUNS IN POSIX MODE: it stands at the committed volume, whatever the batch is, which is in memory; and each image of it
-- shows the world. Once the batch is committed, its free blocks are enough to publish each staged run by itself.
pub record PosixRuns (rule : LaterRule) (w : Sides) (d : List Cell) (start : State) (kept later : List Item) : Type 0 where
  pub mode : start.mode ≡ Mode.Posix
  pub stands : Stands w.committed.geometry w.committed d
  pub geometry : IsGeometry w.committed.geometry
  pub batch_geometry : w.batch.geometry ≡ w.committed.geometry
  pub batch_base : w.batch.base ≡ w.committed.base
  pub free : HasFreeBlocks w.committed [] []
  pub room : length w.staged + reserve w.batch.geometry ≤ unused_blocks w.batch + 3
  pub images : (image : Words) → IsImage d image → ShowsPosixWorld rule w start kept later image

-- ---- nothing gathered

-- The volume was committed, and nothing has changed since: lengths are those of the inode lines.
abbrev pub at_rest : Volume → List ℕ → Sides
at_rest v numbers = record { committed = v; committed_numbers = numbers; batch = v; numbers = numbers; staged = []; lengths = map (λ (x : Inode). x.size) v.inodes }

-- each file has all of its length published
abbrev pub IsAllPublished : State → Type 0
IsAllPublished s = (n : ℕ) → published_of (node_at s.nodes n) ≡ length (bytes_of (node_at s.nodes n))
