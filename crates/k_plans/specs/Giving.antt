-- Blocks that come free in a pool.
use Rattle.std.specs.Prelude.{◌≡◌, ℕ, ◌+◌, ◌<◌, ◌^◌, Bool, true, false, ◌||◌, List, length}
use Rattle.k_reading.specs.block_pool.FreeSets.{FreeSet, LiesWithin, SameBlocks, has_block, is_among, is_free_at}
use Rattle.k_tables.specs.image_model.Placed.{AreDistinct, block_at, extent_at}
use Rattle.k_tables.specs.extent_model.declared.extent_words.Extent.{Extent}
use Rattle.k_tables.specs.extent_model.Extents.{covers, holds_disk}

-- a block of the chain or of the map
abbrev pub is_held : List ℕ → List Extent → ℕ → Bool
is_held blocks es b = is_among blocks b || covers es b

-- the blocks of a test are free now, and all else is as it was
pub record AreGiven (gives : ℕ → Bool) (old new : FreeSet) : Type 0 where
  pub same : SameBlocks old new
  pub free : (b : ℕ) → is_free_at new b ≡ (is_free_at old b || gives b)

-- the blocks of a chain may be given: each is one of the pool's, and is not free, and none comes twice
pub record MayGiveChain (blocks : List ℕ) (pool : FreeSet) : Type 0 where
  pub within : (k : ℕ) → k < length blocks → has_block pool (block_at blocks k) ≡ true
  pub used : (k : ℕ) → k < length blocks → is_free_at pool (block_at blocks k) ≡ false
  pub distinct : AreDistinct blocks

-- likewise the disk blocks of the extents of a map
pub record MayGiveMap (es : List Extent) (pool : FreeSet) : Type 0 where
  pub fits : pool.first + length pool.marks < 2 ^ 32
  pub within : (k : ℕ) → k < length es → LiesWithin pool.first (length pool.marks) (extent_at es k)
  pub used : (k b : ℕ) → k < length es → holds_disk (extent_at es k) b ≡ true → is_free_at pool b ≡ false
  pub apart : (j k b : ℕ) → j < k → k < length es → holds_disk (extent_at es j) b ≡ true
      → holds_disk (extent_at es k) b ≡ false
