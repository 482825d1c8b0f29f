-- What stands as a chain in the words of a device.
use Rattle.std.specs.Prelude.{◌≡◌, ℕ, ◌^◌, ◌<◌, List, length}
use Rattle.layout_model.specs.pm_model.Words.{Words}
use Rattle.layout_model.specs.block_counts.Counts.{chains_for}
use Rattle.extent_model.specs.declared.extent_words.Extent.{Extent}
use Rattle.extent_model.specs.Extents.{IsCanonical}
use Rattle.image_model.specs.Chains.{SpellsChain, blocks_from, first_or_zero}
use Rattle.image_model.specs.Placed.{block_at, AreInDevice}

-- The blocks spell a map of so many extents, the one spelling of it, with all their other words zero.
pub record IsMapIn (f : Words) (blocks : List ℕ) (count : ℕ) (es : List Extent) : Type 0 where
  pub spelled : SpellsChain f blocks es
  pub counted : length es ≡ count
  pub canonical : IsCanonical es

-- The blocks from `root` on, as many as `count` extents take, are in a device of so many words, and a map of `count`
-- extents stands in them.
pub record IsChain (f : Words) (size root count : ℕ) (blocks : List ℕ) (es : List Extent) : Type 0 where
  pub linked : blocks ≡ blocks_from f root (chains_for count)
  pub in_device : AreInDevice size blocks
  pub map : IsMapIn f blocks count es

-- no map of so many extents stands in the blocks
abbrev pub HasNoMap : Words → List ℕ → ℕ → Type 0
HasNoMap f blocks count = (es : List Extent) → ¬ IsMapIn f blocks count es

-- no map of so many extents stands in the blocks from `root` on
abbrev pub HasNoChain : Words → ℕ → ℕ → ℕ → Type 0
HasNoChain f size root count = (blocks : List ℕ) (es : List Extent) → ¬ IsChain f size root count blocks es

-- each block number fits half a word
abbrev pub FitHalves : List ℕ → Type 0
FitHalves blocks = (k : ℕ) → block_at blocks k < 2 ^ 32

-- The law of a chain that was written: the blocks that spell a map are the chain that a read from the first of them
-- finds, with that map.
abbrev pub ReadsBack : Type 0
ReadsBack =
    (f : Words) (size : ℕ) (blocks : List ℕ) (es : List Extent) → length blocks ≡ chains_for (length es) → FitHalves blocks → AreInDevice size blocks → IsCanonical es
    → SpellsChain f blocks es → IsChain f size (first_or_zero blocks) (length es) blocks es

-- A root and a number of extents lead to one chain and one map at most.
abbrev pub HasOneChain : Type 0
HasOneChain =
    (f : Words) (size root count : ℕ) (blocks others : List ℕ) (es fs : List Extent) → root < 2 ^ 32
    → IsChain f size root count blocks es → IsChain f size root count others fs → (others ≡ blocks) × (fs ≡ es)
