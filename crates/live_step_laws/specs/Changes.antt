-- A change that writes blocks.
use Rattle.std.specs.Prelude.{◌≡◌, ◌≢◌, ◌<◌, ℕ, true, List, length, Some}
use Rattle.fsync_relink.specs.world_write_laws.pm_model.declared.Cell.{Cell}
use Rattle.fsync_relink.specs.world_write_laws.pm_model.Images.{Follows}
use Rattle.fsync_relink.specs.world_write_laws.layout_model.Places.{is_data_block}
use Rattle.fsync_relink.specs.world_write_laws.image_model.Placed.{block_at}
use Rattle.fsync_relink.specs.world_write_laws.image_model.Volume.{extents, Volume}
use Rattle.fsync_relink.specs.world_write_laws.extent_model.Extents.{disk_at}
use Rattle.fsync_relink.specs.world_write_laws.k_split_model.Stands.{IsOldOrNew}

-- Data blocks that no map of the volume has.
pub record AreSpare (blocks : List ℕ) (v : Volume) : Type 0 where
  pub in_data : (k : ℕ) → k < length blocks → is_data_block v.geometry (block_at blocks k) ≡ true
  pub apart : (ino block k : ℕ) → ino < length v.inodes → k < length blocks
      → disk_at (extents v ino) block ≢ Some (block_at blocks k)

-- A device is changed from one volume to another, of one geometry and one lap, whole or in part, by a change that writes blocks:
-- each image comes from one before, reads as the old volume or as the new one, and is the same outside these blocks.
pub record IsChangeWith (blocks : List ℕ) (v w : Volume) (d e : List Cell) : Type 0 where
  pub each_image : Follows (IsOldOrNew v.geometry blocks v w) d e
  pub geometry : w.geometry ≡ v.geometry
  pub base : w.base ≡ v.base
