-- How often a block is used: by a chain, by a map, by an inode; and whether it is free.
use Rattle.std.specs.Prelude.{◌≡◌, ℕ, ◌≤◌, ◌==◌, ◌&&◌, ◌+◌, List, length, sum_by, Bool, true, false}
use Rattle.std.specs.List.{range_with_len, count_by}
use Rattle.image_model.specs.layout_model.Places.{is_data_block}
use Rattle.image_model.specs.extent_model.declared.extent_words.Extent.{Extent}
use Rattle.image_model.specs.extent_model.Extents.{holds_disk, block_count}
use Rattle.image_model.specs.Placed.{block_at}
use Rattle.image_model.specs.Room.{has_none}
use Rattle.image_model.specs.Uses.{uses_by, owners}
use Rattle.image_model.specs.Volume.{Volume, chain, extents}

-- how many places of a chain have the block, and how many extents of a map
abbrev pub in_chain : List ℕ → ℕ → ℕ
in_chain blocks b = count_by (λ k. block_at blocks k == b) (range_with_len 0 (length blocks))

abbrev pub in_map : List Extent → ℕ → ℕ
in_map es b = count_by (λ e. holds_disk e b) es

-- how often an inode uses the block
abbrev pub uses_of : Volume → ℕ → ℕ → ℕ
uses_of v b ino = length (uses_by ino (chain v ino) (extents v ino) b)

-- how many blocks an inode has, those of its chain and those of its file, and how many all inodes have
abbrev pub blocks_of : Volume → ℕ → ℕ
blocks_of v ino = length (chain v ino) + block_count (extents v ino)

abbrev pub blocks_held : Volume → ℕ
blocks_held v = sum_by (blocks_of v) (range_with_len 0 (length v.inodes))

-- whether a block is a data block that nothing names
abbrev pub is_unused : Volume → ℕ → Bool
is_unused v b = is_data_block v.geometry b && has_none (owners v b)

-- The chains and the maps have an entry for each inode.
pub record HasAllMaps (v : Volume) : Type 0 where
  pub chain_count : length v.chains ≡ length v.inodes
  pub map_count : length v.maps ≡ length v.inodes

-- What changes where an inode's chain and map change: a block that the inode has now is used; one that only it had is
-- free; all others are as before.
pub record Freed (v : Volume) (ino : ℕ) (blocks : List ℕ) (es : List Extent) (w : Volume) : Type 0 where
  pub taken : (b : ℕ) → 1 ≤ length (uses_by ino blocks es b) → has_none (owners w b) ≡ false
  pub given : (b : ℕ) → length (uses_by ino blocks es b) ≡ 0 → length (owners v b) ≡ uses_of v b ino
      → has_none (owners w b) ≡ true
  pub others : (b : ℕ) → length (uses_by ino blocks es b) ≡ uses_of v b ino
      → has_none (owners w b) ≡ has_none (owners v b)
