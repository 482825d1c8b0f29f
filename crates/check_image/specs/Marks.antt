-- Marks: of each place whether it has no use, one, or more.
use Rattle.std.specs.Prelude.{◌≡◌, ℕ, ◌+◌, ◌<◌, ◌≤◌, ◌==◌, min, List, length, slice_index, sum_by}
use Rattle.std.specs.List.{count_by}
use Rattle.k_reading.specs.extent_model.declared.extent_words.Extent.{Extent}
use Rattle.k_reading.specs.extent_model.Extents.{holds_disk}

-- the marks are those of places with so many uses
pub record AreMarks (marks : List ℕ) (uses : ℕ → ℕ) : Type 0 where
  pub each : (i : ℕ) → i < length marks → slice_index marks i ≡ min 2 (uses i)

-- the block is one of `count` blocks from the first on
pub record LiesAt (first count b : ℕ) : Type 0 where
  pub low : first ≤ b
  pub high : b < first + count

-- none of the first n places has more than one use; and the first that has more
abbrev pub AreFew : List ℕ → ℕ → Type 0
AreFew marks n = (i : ℕ) → i < n → slice_index marks i ≤ 1

pub record IsFirstTwice (marks : List ℕ) (place : ℕ) : Type 0 where
  pub within : place < length marks
  pub before : AreFew marks place
  pub twice : 2 ≤ slice_index marks place

-- how often chains and maps name a block
abbrev pub chain_uses : List (List ℕ) → ℕ → ℕ
chain_uses chains b = sum_by (λ blocks. count_by (λ x. x == b) blocks) chains

abbrev pub map_uses : List (List Extent) → ℕ → ℕ
map_uses maps b = sum_by (λ es. count_by (λ e. holds_disk e b) es) maps

abbrev pub uses_in : List (List ℕ) → List (List Extent) → ℕ → ℕ
uses_in chains maps b = chain_uses chains b + map_uses maps b
