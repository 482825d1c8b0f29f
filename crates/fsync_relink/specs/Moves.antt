-- What a move of blocks that carries out a log entry makes of a volume, in the words of the World.
use Rattle.std.specs.Prelude.{◌≡◌, ◌≢◌, ◌<◌, ◌≤◌, ◌+◌, ℕ, Bool, true, All, List, length}
use Rattle.k_split.specs.block_io.pm_model.Words.{Words}
use Rattle.k_split.specs.block_io.block_counts.Counts.{chains_for}
use Rattle.k_split.specs.block_io.layout_model.Places.{Geometry, is_data_block}
use Rattle.k_split.specs.block_io.extent_model.declared.extent_words.Extent.{Extent}
use Rattle.k_split.specs.block_io.extent_model.Extents.{IsCanonical}
use Rattle.k_split.specs.block_io.layout_model.declared.lines.Draft.{Draft}
use Rattle.k_split.specs.block_io.layout_model.declared.lines.Kind.TheVariants.{Staging}
use Rattle.k_split.specs.block_io.image_model.Reading.{Reads}
use Rattle.k_split.specs.block_io.image_model.Volume.{chain, extents, inode, Volume}
use Rattle.k_split.specs.block_io.k_split_model.declared.map_changes.moves.Move.{Move}
use Rattle.k_split.specs.block_io.k_split_model.MapChangesChanges.{IsMoved}
use Rattle.log_laws.specs.world_write_laws.world_model.Stands.{IsSane}
use Rattle.log_laws.specs.world_write_laws.Relinks.{Relinks}
use Rattle.log_laws.specs.world_write_laws.RoomLaws.{GrowsLittle}

-- the move that carries out an entry, with the size that the file has then
abbrev pub move_for : Draft → ℕ → Move
move_for d size =
    record {
      staging = d.staging;
      staging_block = d.staging_block;
      ino = d.ino;
      file_block = d.file_block;
      count = d.count;
      size = size;
      applied = d.order;
    }

-- The entry names two inodes of the volume.
pub record NamesTwo (v : Volume) (d : Draft) : Type 0 where
  pub file : d.ino < length v.inodes
  pub staging : d.staging < length v.inodes
  pub apart : d.ino ≢ d.staging

-- Each inode has a map in its one spelling, and a chain of data blocks, as many as the map takes.
pub record HasChains (v : Volume) : Type 0 where
  pub full : (ino : ℕ) → ino < length v.inodes → length (chain v ino) ≡ chains_for (length (extents v ino))
  pub canonical : (ino : ℕ) → ino < length v.inodes → IsCanonical (extents v ino)
  pub in_data : (ino : ℕ) → ino < length v.inodes → All (λ b. is_data_block v.geometry b ≡ true) (chain v ino)

-- the move is the relink of the entry
abbrev pub MovesRelink : Type 0
MovesRelink =
    (free : ℕ → Bool) (d : Draft) (size : ℕ) (v w : Volume) (displaced : List Extent) → IsSane v → IsSane w → NamesTwo v d
    → IsMoved free (move_for d size) v w displaced → Relinks v w d displaced

-- the file has the size of the move
abbrev pub MovesSetSizes : Type 0
MovesSetSizes =
    (free : ℕ → Bool) (d : Draft) (size : ℕ) (v w : Volume) (displaced : List Extent) → NamesTwo v d
    → IsMoved free (move_for d size) v w displaced → (inode w d.ino).size ≡ size

-- The chain of the file takes one block more at most, and that of the staging file, which has at most 64 blocks, none.
abbrev pub MovesGrowLittle : Type 0
MovesGrowLittle =
    (free : ℕ → Bool) (d : Draft) (size : ℕ) (v w : Volume) (displaced : List Extent) → IsSane v → HasChains v → HasChains w
    → NamesTwo v d → (inode v d.staging).kind ≡ Staging → d.count ≤ 64 → d.file_block + d.count ≤ 4096
    → IsMoved free (move_for d size) v w displaced → GrowsLittle v w d

-- a volume that is read from words has such chains
abbrev pub ReadsHaveChains : Type 0
ReadsHaveChains = (g : Geometry) (f : Words) (v : Volume) → Reads g f v → HasChains v
