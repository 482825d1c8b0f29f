-- The extents that the words of a chain's blocks tell of, one by one.
use Rattle.std.specs.Prelude.{◌≡◌, ℕ, ◌+◌, ◌*◌, ◌/◌, ◌%◌, ◌^◌, ◌<◌, List, length}
use Rattle.layout_model.specs.pm_model.Words.{Words}
use Rattle.extent_model.specs.declared.extent_words.Extent.{Extent}
use Rattle.image_model.specs.Placed.{extent_at, block_at}

-- the words of extent k of a chain
abbrev pub first_word : List ℕ → ℕ → ℕ
first_word blocks k = 512 * block_at blocks (k / 255) + (2 + 2 * (k % 255))

abbrev pub second_word : List ℕ → ℕ → ℕ
second_word blocks k = 512 * block_at blocks (k / 255) + (3 + 2 * (k % 255))

-- what they say of it, as far as it fits an extent
abbrev pub listed_at : Words → List ℕ → ℕ → Extent
listed_at f blocks k =
    record { file = f (first_word blocks k) % 2 ^ 32; disk = f (first_word blocks k) / 2 ^ 32; count = f (second_word blocks k) % 2 ^ 32 }

-- the list has them
abbrev pub AreListed : Words → List ℕ → List Extent → Type 0
AreListed f blocks es = (k : ℕ) → k < length es → extent_at es k ≡ listed_at f blocks k
