-- Bytes of a file that are written over in place, in the blocks of its map.
use Rattle.std.specs.Prelude.{◌≡◌, ◌≢◌, ◌⊎◌, ◌≤◌, ◌<◌, ℕ, ◌+◌, ◌-◌, ◌*◌, ◌/◌, ◌%◌, true, IsSome, List, length, max, min, take, drop, Some, slice_index}
use Rattle.pm_lines.specs.pm_model.declared.Cell.{Cell}
use Rattle.pm_lines.specs.pm_model.declared.Cell.TheVariants.{Single}
use Rattle.pm_lines.specs.pm_model.Cells.{cell, has_two, is_single, newest, oldest}
use Rattle.pm_lines.specs.pm_model.Words.{byte_of, Words}
use Rattle.extent_map.specs.extent_model.declared.extent_words.Extent.{Extent}
use Rattle.extent_map.specs.extent_model.Extents.{disk_at}
use Rattle.k_split_model.specs.image_model.Placed.{AreDistinct, AreInDevice, AreSingle, IsOutside}
use Rattle.k_split_model.specs.Zeros.{AreZeros}
use Rattle.block_io.specs.Puts.{with_bytes}

-- ---- the range

-- Byte p of the range of `count` bytes from `first` on stands in disk block b.
pub record StandsIn (es : List Extent) (first count p b : ℕ) : Type 0 where
  pub from : first ≤ p
  pub below : p < first + count
  pub at : disk_at es (p / 4096) ≡ Some b

-- byte k of the device is none of the range
abbrev pub IsBeside : List Extent → ℕ → ℕ → ℕ → Type 0
IsBeside es first count k = (p b : ℕ) → StandsIn es first count p b → k ≢ 4096 * b + p % 4096

-- word i of the device is in no block of the range
abbrev pub IsBesideBlocks : List Extent → ℕ → ℕ → ℕ → Type 0
IsBesideBlocks es first count i = (p b : ℕ) → StandsIn es first count p b → i / 512 ≢ b

-- The range may be written over: each block of it has a disk block of the device, no two have the same, and each word of
-- these has one candidate.
pub record MayOverwrite (es : List Extent) (first count : ℕ) (d : List Cell) : Type 0 where
  pub mapped : (p : ℕ) → first ≤ p → p < first + count → IsSome (disk_at es (p / 4096))
  pub in_device : (p b : ℕ) → StandsIn es first count p b → 512 * b + 512 ≤ length d
  pub apart : (p q b : ℕ) → StandsIn es first count p b → StandsIn es first count q b → p / 4096 ≡ q / 4096
  pub single : (p b i : ℕ) → StandsIn es first count p b → i / 512 ≡ b → is_single (cell d i) ≡ true

-- ---- what is left

-- An image after a write, or a part of it, beside the image before: each byte of the range is the old one or the new one, and
-- all else is as before.
pub record IsOverwritten (es : List Extent) (first : ℕ) (bytes : List ℕ) (before image : Words) : Type 0 where
  pub each : (p b : ℕ) → StandsIn es first (length bytes) p b
      → (byte_of image (4096 * b + p % 4096) ≡ byte_of before (4096 * b + p % 4096)) ⊎ (byte_of image (4096 * b + p % 4096) ≡ slice_index bytes (p - first))
  pub others : (k : ℕ) → IsBeside es first (length bytes) k → byte_of image k ≡ byte_of before k
  pub words : (i : ℕ) → IsBesideBlocks es first (length bytes) i → image i ≡ before i

-- and after the whole write
pub record IsOverwrittenWhole (es : List Extent) (first : ℕ) (bytes : List ℕ) (before image : Words) : Type 0 where
  pub each : (p b : ℕ) → StandsIn es first (length bytes) p b → byte_of image (4096 * b + p % 4096) ≡ slice_index bytes (p - first)
  pub others : (k : ℕ) → IsBeside es first (length bytes) k → byte_of image k ≡ byte_of before k
  pub words : (i : ℕ) → IsBesideBlocks es first (length bytes) i → image i ≡ before i

-- how many blocks the range reaches
abbrev pub blocks_reached : ℕ → ℕ → ℕ
blocks_reached first count = (first + count + 4095) / 4096 - first / 4096

-- ---- one block of the range

-- Block m of the file has the range's bytes from `piece_from` up to `piece_to`, counted from the start of the file.
abbrev pub piece_from : ℕ → ℕ → ℕ
piece_from first m = max first (4096 * m)

abbrev pub piece_to : ℕ → ℕ → ℕ → ℕ
piece_to first count m = min (first + count) (4096 * m + 4096)

abbrev pub piece : ℕ → List ℕ → ℕ → List ℕ
piece first bytes m = take (piece_to first (length bytes) m - piece_from first m) (drop (piece_from first m - first) bytes)

-- word i, which is one of its disk block, with them
abbrev pub word_with : ℕ → List ℕ → ℕ → Words → ℕ → ℕ
word_with first bytes m f i = with_bytes (4096 * (i / 512) + (piece_from first m - 4096 * m)) (piece first bytes m) f i

-- the block is one of the range
abbrev pub IsReached : ℕ → ℕ → ℕ → Type 0
IsReached first count m = (4096 * m < first + count) × (first < 4096 * m + 4096)

-- ---- blocks of zeros

-- The blocks may be zeroed: no block comes twice, all are in the device, and each word of them has one candidate.
pub record MayZero (blocks : List ℕ) (d : List Cell) : Type 0 where
  pub distinct : AreDistinct blocks
  pub in_device : AreInDevice (length d) blocks
  pub single : AreSingle blocks d

-- two images that differ at most in words of the blocks
abbrev pub SameBeside : List ℕ → Words → Words → Type 0
SameBeside blocks before image = (i : ℕ) → IsOutside blocks i → image i ≡ before i

-- an image after the blocks were zeroed, beside the image before
pub record IsZeroed (blocks : List ℕ) (before image : Words) : Type 0 where
  pub zero : AreZeros blocks image
  pub others : SameBeside blocks before image

-- ---- lines of zeros

-- word i is in one of `count` lines from `first` on
pub record IsInLines (first count i : ℕ) : Type 0 where
  pub from : first ≤ i / 8
  pub below : i / 8 < first + count

-- The lines may be zeroed: they are in the device, and each word of them has one candidate.
pub record MayZeroLines (first count : ℕ) (d : List Cell) : Type 0 where
  pub in_device : 8 * (first + count) ≤ length d
  pub single : (i : ℕ) → IsInLines first count i → is_single (cell d i) ≡ true

-- two images that differ at most in words of the lines
abbrev pub SameBesideLines : ℕ → ℕ → Words → Words → Type 0
SameBesideLines first count before image = (i : ℕ) → ¬ IsInLines first count i → image i ≡ before i

-- an image after the lines were zeroed, beside the image before
pub record AreLinesZeroed (first count : ℕ) (before image : Words) : Type 0 where
  pub zero : (i : ℕ) → IsInLines first count i → image i ≡ 0
  pub others : SameBesideLines first count before image

-- the word has two candidates: the one that it had, and then 0
pub record HasZeroToo (old new : Cell) : Type 0 where
  pub two : has_two new ≡ true
  pub older : oldest new ≡ oldest old
  pub newer : newest new ≡ 0

-- a word on its way to zero: it is as it was, or 0 stands behind it
abbrev pub GoesToZero : Cell → Cell → Type 0
GoesToZero old new = (new ≡ old) ⊎ HasZeroToo old new

-- How far lines have come that are set to zero: each of their words is on its way; or all have come, and are durable.
abbrev pub AreGoingToZero : ℕ → ℕ → List Cell → List Cell → Type 0
AreGoingToZero first count old new =
    ((i : ℕ) → IsInLines first count i → GoesToZero (cell old i) (cell new i)) ⊎ ((i : ℕ) → IsInLines first count i → cell new i ≡ Single 0)
