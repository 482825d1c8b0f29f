-- Which data blocks are free: those that no chain and no map names.
use Rattle.std.specs.Prelude.{◌≡◌, ℕ, Bool, true, not, ◌&&◌, ◌||◌, List, ◌++◌, length, map, flat_map, All}
use Rattle.std.specs.List.{list_any}
use Rattle.block_pool.specs.extent_model.declared.extent_words.Extent.{Extent}
use Rattle.block_pool.specs.extent_model.Extents.{covers}
use Rattle.k_inodes.specs.image_layout.layout_model.Places.{Geometry, first_data, data_blocks, is_data_block}
use Rattle.map_chain.specs.image_model.Volume.{Volume}
use Rattle.image_laws.specs.volume_laws.Uses.{HasAllMaps}
use Rattle.block_pool.specs.FreeSets.{FreeSet, is_free_at, is_among, LiesWithin}

-- a chain or an extent of a map names the block
abbrev pub is_named : List (List ℕ) → List (List Extent) → ℕ → Bool
is_named chains maps b = list_any (λ blocks. is_among blocks b) chains || list_any (λ es. covers es b) maps

-- chains stand in data blocks, and maps lie in them
pub record AreInData (g : Geometry) (chains : List (List ℕ)) (maps : List (List Extent)) : Type 0 where
  pub blocks : All (λ blocks. All (λ b. is_data_block g b ≡ true) blocks) chains
  pub extents : All (λ es. All (LiesWithin (first_data g) (data_blocks g)) es) maps

-- the pool has the data blocks, and just those are free that are not named
pub record IsPoolOf (g : Geometry) (chains : List (List ℕ)) (maps : List (List Extent)) (pool : FreeSet) : Type 0 where
  pub first : pool.first ≡ first_data g
  pub count : length pool.marks ≡ data_blocks g
  pub free : (b : ℕ) → is_free_at pool b ≡ (is_data_block g b && not (is_named chains maps b))

-- a volume with this geometry, these chains and these maps, one for each of its inodes
pub record IsOfTables (g : Geometry) (chains : List (List ℕ)) (maps : List (List Extent)) (v : Volume) : Type 0 where
  pub geometry : v.geometry ≡ g
  pub same_chains : v.chains ≡ chains
  pub same_maps : v.maps ≡ maps
  pub all : HasAllMaps v

-- a block as an extent, and all extents of chains and maps
abbrev pub one_block : ℕ → Extent
one_block b = record { file = 0; disk = b; count = 1 }

abbrev pub used_extents : List (List ℕ) → List (List Extent) → List Extent
used_extents chains maps = flat_map (λ blocks. map one_block blocks) chains ++ flat_map (λ es. es) maps
