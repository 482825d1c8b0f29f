-- What it takes to write a chain, and what the images are while it is written.
use Rattle.std.specs.Prelude.{◌≡◌, ℕ, ◌+◌, ◌/◌, ◌%◌, ◌<◌, List, length}
use Rattle.pm_lines.specs.pm_model.declared.Cell.{Cell}
use Rattle.pm_lines.specs.pm_model.declared.Cell.TheVariants.{Single}
use Rattle.pm_lines.specs.pm_model.Cells.{cell}
use Rattle.pm_lines.specs.pm_model.Words.{Words}
use Rattle.block_counts.specs.Counts.{chains_for}
use Rattle.extent_map.specs.extent_model.declared.extent_words.Extent.{Extent}
use Rattle.volume_laws.specs.image_model.Chains.{chain_word, first_or_zero}
use Rattle.volume_laws.specs.image_model.Standing.{IsChain}
use Rattle.volume_laws.specs.image_model.Placed.{block_at, part_at, AreDistinct, AreInDevice, AreSingle, IsOutside}

-- As many blocks as the extents take, no two the same, all in the device, and each of their words has one candidate.
pub record MayWrite (es : List Extent) (blocks : List ℕ) (d : List Cell) : Type 0 where
  pub count : length blocks ≡ chains_for (length es)
  pub distinct : AreDistinct blocks
  pub in_device : AreInDevice (length d) blocks
  pub single : AreSingle blocks d

-- The blocks have the words of the chain of these extents, and no other candidates.
abbrev pub HasChainWords : List ℕ → List Extent → List Cell → Type 0
HasChainWords blocks es d =
    (k i : ℕ) → k < length blocks → i / 512 ≡ block_at blocks k → cell d i ≡ Single (chain_word (block_at blocks (k + 1)) (part_at es k) (i % 512))

-- two images that differ at most in words of the blocks
abbrev pub SameOutside : List ℕ → Words → Words → Type 0
SameOutside blocks before image = (i : ℕ) → IsOutside blocks i → image i ≡ before i

-- An image after a chain was written, beside the image before: from its first block on a read finds the map, and the
-- blocks.
pub record IsWritten (size : ℕ) (es : List Extent) (blocks : List ℕ) (before image : Words) : Type 0 where
  pub chain : IsChain image size (first_or_zero blocks) (length es) blocks es
  pub others : SameOutside blocks before image
