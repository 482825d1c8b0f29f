-- Chains and maps of a whole volume, list by list, and the pool of its free blocks.
use Rattle.std.proofs.Common.{◌≡◌, ℕ, true, [], arith}
use Rattle.std.proofs.lemmas.List.Elements.{All-from_get_or}
use Rattle.std.specs.Prelude.{All}
use Rattle.k_reading.specs.block_pool.FreeSets.{LiesWithin}
use Rattle.layout_model.specs.Places.{Geometry, IsGeometry, first_data, data_blocks, is_data_block}
use Rattle.k_tables.specs.extent_model.declared.extent_words.Extent.{Extent}
use Rattle.k_tables.specs.image_model.Placed.{no_extent, extent_at}
use Rattle.k_tables.specs.image_model.Rules.{IsInData, file_blocks_of}
use Rattle.k_tables.specs.image_model.Volume.{Volume, inode, extents}
use Rattle.k_reading.specs.Pools.{AreInData}
use Rattle.k_plans.specs.Whole.{IsWhole}

lies : (g : Geometry) (limit : ℕ) (e : Extent) → IsGeometry g → IsInData g limit e
    → LiesWithin (first_data g) (data_blocks g) e
lies g limit e fits is = record { low = is.1; high = omega (arith, is.2, fits.least_data) }

-- a whole volume has its chains and maps in data blocks
pub whole-in_data : (v : Volume) → IsWhole v → AreInData v.geometry v.chains v.maps
whole-in_data v whole = record {
  blocks = All-from_get_or (All (λ b. is_data_block v.geometry b ≡ true)) v.chains [] (λ ino below. whole.chains ino);
  extents = All-from_get_or (All (LiesWithin (first_data v.geometry) (data_blocks v.geometry))) v.maps []
      (λ ino below. All-from_get_or (LiesWithin (first_data v.geometry) (data_blocks v.geometry)) (extents v ino) no_extent
      (λ k within. lies v.geometry (file_blocks_of (inode v ino).kind) (extent_at (extents v ino) k) whole.kept.geometry
      (whole.kept.kept.in_data ino (omega (arith, below, whole.maps.map_count, whole.kept.all.inode_count)) k no_extent within)));
}
