-- New maps that are written one after the other beside what stands.
use Rattle.std.specs.Prelude.{◌≡◌, ◌≢◌, ℕ, ◌+◌, ◌*◌, ◌<◌, true, false, List, length, take, sum_by}
use Rattle.k_inodes.specs.pm_model.declared.Cell.{Cell}
use Rattle.k_inodes.specs.pm_model.Cells.{cell, Settles}
use Rattle.k_inodes.specs.pm_model.Frames.{SameLent, KeepsSingle}
use Rattle.k_inodes.specs.pm_model.Images.{IsImage, Follows}
use Rattle.k_inodes.specs.pm_model.Powers.{Supply, Steps, is_on}
use Rattle.k_inodes.specs.pm_model.Words.{Words}
use Rattle.volume_change_laws.specs.k_split_model.image_model.Chains.{first_or_zero}
use Rattle.volume_change_laws.specs.k_split_model.image_model.Placed.{block_at, IsOutside}
use Rattle.volume_change_laws.specs.k_split_model.image_model.Standing.{IsChain}
use Rattle.map_chain.specs.Writes.{MayWrite, SameOutside, IsWritten}
use Rattle.k_plans.specs.LandingsPlans.{NewChain, new_at}

-- the two have no block in common
abbrev pub AreApart : List ℕ → List ℕ → Type 0
AreApart blocks others = (j k : ℕ) → j < length blocks → k < length others → block_at blocks j ≢ block_at others k

-- Each of the maps can be written into its blocks, and no two have a block in common.
pub record MayWriteAll (news : List NewChain) (d : List Cell) : Type 0 where
  pub each : (k : ℕ) → k < length news → MayWrite (new_at news k).extents (new_at news k).blocks d
  pub apart : (j k : ℕ) → j < k → k < length news → AreApart (new_at news j).blocks (new_at news k).blocks

-- the most steps that their writes take
abbrev pub write_steps : List NewChain → ℕ
write_steps news = sum_by (λ (c : NewChain). 577 * length c.blocks + 1) news

-- the map stands in the words, from its first block on
abbrev pub StandsAt : ℕ → NewChain → Words → Type 0
StandsAt size c f = IsChain f size (first_or_zero c.blocks) (length c.extents) c.blocks c.extents

-- What the write of one map leaves.
pub record Writes (c : NewChain) (d e : List Cell) (p q : Supply) : Type 0 where
  pub size : length e ≡ length d
  pub lent : SameLent d e
  pub steps : Steps (577 * length c.blocks + 1) p q
  pub off : is_on p ≡ false → (e ≡ d) × (q ≡ p)
  pub each_image : Follows (SameOutside c.blocks) d e
  pub others : (i : ℕ) → IsOutside c.blocks i → Settles (cell d i) (cell e i)
  pub durable : is_on q ≡ true → Follows (IsWritten (length d) c.extents c.blocks) d e
  pub keeps : is_on q ≡ true → KeepsSingle d e

-- the word is in no block of the first n maps
abbrev pub IsOutsideFirst : List NewChain → ℕ → ℕ → Type 0
IsOutsideFirst news n i = (k : ℕ) → k < n → IsOutside (new_at news k).blocks i

abbrev pub SameOutsideFirst : List NewChain → ℕ → Words → Words → Type 0
SameOutsideFirst news n before image = (i : ℕ) → IsOutsideFirst news n i → image i ≡ before i

-- What the writes of the first n maps leave. Wherever the power goes, each image is one of those before, but for words
-- of their blocks; with power left each of these maps stands in each image.
pub record WritesFirst (news : List NewChain) (n : ℕ) (d e : List Cell) (p q : Supply) : Type 0 where
  pub size : length e ≡ length d
  pub lent : SameLent d e
  pub steps : Steps (write_steps (take n news)) p q
  pub off : is_on p ≡ false → (e ≡ d) × (q ≡ p)
  pub each_image : Follows (SameOutsideFirst news n) d e
  pub others : (i : ℕ) → IsOutsideFirst news n i → Settles (cell d i) (cell e i)
  pub stand : is_on q ≡ true → (image : Words) → IsImage e image → (k : ℕ) → k < n → StandsAt (length d) (new_at news k) image
  pub keeps : is_on q ≡ true → KeepsSingle d e
