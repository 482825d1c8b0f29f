-- A chain seen from its blocks: which extents stand in block k, and which block comes next.
use Rattle.std.specs.Prelude.{◌≡◌, ◌≢◌, ℕ, ◌+◌, ◌*◌, ◌/◌, ◌<◌, ◌≤◌, true, false, List, length, take, drop, slice_index, slice_index_or}
use Rattle.layout_model.specs.pm_model.declared.Cell.{Cell}
use Rattle.layout_model.specs.pm_model.Cells.{cell, is_single, is_lent}
use Rattle.layout_model.specs.pm_model.Words.{Words}
use Rattle.extent_model.specs.declared.extent_words.Extent.{Extent}
use Rattle.image_model.specs.Chains.{extents_per_block, chain_word}

-- an extent of no block, whose words are zero
abbrev pub no_extent : Extent
no_extent = record { file = 0; disk = 0; count = 0 }

-- extent k of a list; past its end none
abbrev pub extent_at : List Extent → ℕ → Extent
extent_at es k = slice_index_or es k no_extent

-- block k of a chain; past its last block 0
abbrev pub block_at : List ℕ → ℕ → ℕ
block_at blocks k = slice_index blocks k

-- the extents that stand in block k of a chain
abbrev pub part_at : List Extent → ℕ → List Extent
part_at es k = take extents_per_block (drop (extents_per_block * k) es)

-- The extents stand in the blocks: each word of each block is as the spelling has it, and there is room for all.
pub record StandsIn (f : Words) (blocks : List ℕ) (es : List Extent) : Type 0 where
  pub words : (k j : ℕ) → k < length blocks → j < 512 → f (512 * block_at blocks k + j) ≡ chain_word (block_at blocks (k + 1)) (part_at es k) j
  pub room : length es ≤ extents_per_block * length blocks

-- no block comes twice
abbrev pub AreDistinct : List ℕ → Type 0
AreDistinct blocks = (j k : ℕ) → j < k → k < length blocks → block_at blocks j ≢ block_at blocks k

-- each block lies in a device of so many words
abbrev pub AreInDevice : ℕ → List ℕ → Type 0
AreInDevice size blocks = (k : ℕ) → k < length blocks → block_at blocks k < size / 512

-- each word of the blocks has one candidate
abbrev pub AreSingle : List ℕ → List Cell → Type 0
AreSingle blocks d = (k i : ℕ) → k < length blocks → i / 512 ≡ block_at blocks k → is_single (cell d i) ≡ true

-- no word of the block is lent; of none of the blocks is one
abbrev pub BlockIsHome : ℕ → List Cell → Type 0
BlockIsHome block d = (i : ℕ) → i / 512 ≡ block → is_lent (cell d i) ≡ false

abbrev pub AreHome : List ℕ → List Cell → Type 0
AreHome blocks d = (k : ℕ) → k < length blocks → BlockIsHome (block_at blocks k) d

-- no block has the word
abbrev pub IsOutside : List ℕ → ℕ → Type 0
IsOutside blocks i = (k : ℕ) → k < length blocks → block_at blocks k ≢ i / 512
