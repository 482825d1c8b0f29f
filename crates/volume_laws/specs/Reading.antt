-- What two contents of a memory have in common where both read as one volume, and which blocks no chain has.
use Rattle.std.specs.Prelude.{◌≡◌, ◌≢◌, ℕ, ◌+◌, ◌*◌, ◌/◌, ◌<◌, List, length, All, true}
use Rattle.image_model.specs.pm_model.Words.{Words}
use Rattle.image_model.specs.layout_model.Places.{Geometry, is_data_block, is_journaled_line}
use Rattle.image_model.specs.Placed.{block_at}
use Rattle.image_model.specs.Volume.{Volume, chain}

-- the words of the blocks of each chain of the volume are the same
abbrev pub AgreeInChains : Geometry → Volume → Words → Words → Type 0
AgreeInChains g v f h =
    (ino k j : ℕ) → ino < g.inodes → k < length (chain v ino) → j < 512 → h (512 * block_at (chain v ino) k + j) ≡ f (512 * block_at (chain v ino) k + j)

-- The words agree in the journaled lines and in the blocks of the volume's chains: all that its reading looks at.
pub record AgreeFor (g : Geometry) (v : Volume) (f h : Words) : Type 0 where
  pub lines : (w : ℕ) → is_journaled_line g (w / 8) ≡ true → h w ≡ f w
  pub chains : AgreeInChains g v f h

-- the blocks are data blocks that no chain of the volume has
pub record AreUnchained (g : Geometry) (v : Volume) (blocks : List ℕ) : Type 0 where
  pub in_data : All (λ b. is_data_block g b ≡ true) blocks
  pub apart : (ino k j : ℕ) → ino < g.inodes → k < length (chain v ino) → j < length blocks
      → block_at blocks j ≢ block_at (chain v ino) k
