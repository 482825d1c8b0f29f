-- The bits of a list of words, 64 a word.
use Rattle.std.specs.Prelude.{◌≡◌, ℕ, ◌+◌, ◌-◌, ◌*◌, ◌/◌, ◌%◌, ◌^◌, ◌<◌, ◌≤◌, Bool, false, IsTrue, ◌==◌, List, slice_index, map, length, All, AllPairs}
use Rattle.std.specs.List.{range_with_len}
use Rattle.std.specs.Int.{bit_at}
use Rattle.extent_map.specs.extent_model.Counts.{count_below}
use Rattle.block_pool.specs.FreeSets.{is_among}

-- whether the bit at a place is set
abbrev pub is_set : List ℕ → ℕ → Bool
is_set words place = bit_at (slice_index words (place / 64)) (place % 64) == 1

-- the first bits, as marks
abbrev pub marks_of : List ℕ → ℕ → List Bool
marks_of words count = map (λ place. is_set words place) (range_with_len 0 count)

-- the bits between two places are not set
abbrev pub NoneSet : List ℕ → ℕ → ℕ → Type 0
NoneSet words from to = (place : ℕ) → from ≤ place → place < to → is_set words place ≡ false

-- the lowest set bit from one place on and before another
pub record IsNext (words : List ℕ) (from to place : ℕ) : Type 0 where
  pub behind : from ≤ place
  pub before : place < to
  pub set : IsTrue (is_set words place)
  pub none : NoneSet words from place

-- what a pool keeps: a bit for each of `count` blocks from `first` on, set where it is free, and the number of those that are set
pub record IsKept (first count free : ℕ) (bits : List ℕ) : Type 0 where
  pub words : count ≤ 64 * length bits
  pub fits : first + count < 2 ^ 32
  pub counted : free ≡ count_below (is_set bits) count

-- the block's bit is one of the first `count`, and is set
pub record IsSetBlock (words : List ℕ) (first count block : ℕ) : Type 0 where
  pub low : first ≤ block
  pub high : block < first + count
  pub set : IsTrue (is_set words (block - first))

-- `blocks` are those of the n lowest set bits, in rising order
pub record AreLowest (words : List ℕ) (first count n : ℕ) (blocks : List ℕ) : Type 0 where
  pub size : length blocks ≡ n
  pub rising : AllPairs ◌<◌ blocks
  pub set : All (IsSetBlock words first count) blocks
  pub lowest : (b : ℕ) → IsSetBlock words first count b → is_among blocks b ≡ false → All (λ t. t < b) blocks
