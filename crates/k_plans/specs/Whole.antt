-- What tables keep of their volume.
use Rattle.std.specs.Prelude.{◌≡◌, ◌<◌, ℕ, All, length, true}
use Rattle.layout_model.specs.block_counts.Counts.{chains_for}
use Rattle.layout_model.specs.Lines.{is_inode}
use Rattle.layout_model.specs.Places.{is_data_block}
use Rattle.k_tables.specs.extent_model.Extents.{IsCanonical}
use Rattle.k_tables.specs.image_model.Volume.{Volume, chain, extents, inode}
use Rattle.volume_change_laws.specs.CallLaws.{IsKeptVolume}
use Rattle.map_chain.specs.volume_laws.Uses.{HasAllMaps}

-- The volume keeps the rules, with all its lines and maps and numbers in range; each of its inodes may stand in a line, and
-- each chain is in data blocks.
pub record IsWhole (v : Volume) : Type 0 where
  pub kept : IsKeptVolume v
  pub maps : HasAllMaps v
  pub inodes : (ino : ℕ) → is_inode (inode v ino) ≡ true
  pub chains : (ino : ℕ) → All (λ b. is_data_block v.geometry b ≡ true) (chain v ino)

-- Each map is in its one spelling, and its chain has just the blocks that it takes.
pub record HasFullMaps (v : Volume) : Type 0 where
  pub full : (ino : ℕ) → ino < length v.inodes → length (chain v ino) ≡ chains_for (length (extents v ino))
  pub canonical : (ino : ℕ) → ino < length v.inodes → IsCanonical (extents v ino)
