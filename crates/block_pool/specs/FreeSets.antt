-- A set of free blocks among `length marks` blocks from `first` on, and what the calls make of it.
use Rattle.std.specs.Prelude.{◌≡◌, ℕ, ◌+◌, ◌-◌, ◌<◌, ◌≤◌, Bool, true, false, ◌&&◌, ◌==◌, not, nat_le, if◌then◌else◌, List, length, slice_index_or, All, AllPairs, count_by}
use Rattle.std.specs.List.{filter, list_any, range_with_len}
use Rattle.extent_map.specs.extent_model.declared.extent_words.Extent.{Extent}
use Rattle.extent_map.specs.extent_model.Extents.{is_within, covers}

-- mark i says whether block `first + i` is free
pub record FreeSet : Type 0 where
  pub first : ℕ
  pub marks : List Bool

-- whether the block is one of those that the set speaks of, and whether it is free
abbrev pub has_block : FreeSet → ℕ → Bool
has_block s block = is_within s.first (length s.marks) block

abbrev pub is_free_at : FreeSet → ℕ → Bool
is_free_at s block = nat_le s.first block && slice_index_or s.marks (block - s.first) false

-- how many blocks are free
abbrev pub free_count : FreeSet → ℕ
free_count s = count_by (λ mark. mark) s.marks

-- the free blocks, in rising order
abbrev pub free_list : FreeSet → List ℕ
free_list s = filter (is_free_at s) (range_with_len s.first (length s.marks))

-- whether the block is one of the list
abbrev pub is_among : List ℕ → ℕ → Bool
is_among blocks block = list_any (λ b. b == block) blocks

-- the two sets speak of the same blocks
pub record SameBlocks (old new : FreeSet) : Type 0 where
  pub first : new.first ≡ old.first
  pub length : length new.marks ≡ length old.marks

-- whether the extent's disk blocks are among `count` blocks from `first` on
pub record LiesWithin (first count : ℕ) (e : Extent) : Type 0 where
  pub low : first ≤ e.disk
  pub high : e.disk + e.count ≤ first + count

-- `count` blocks from `start` on, of which those are free that no used extent has
pub record IsUnused (start count : ℕ) (used : List Extent) (new : FreeSet) : Type 0 where
  pub first : new.first ≡ start
  pub length : length new.marks ≡ count
  pub free : (b : ℕ) → is_free_at new b ≡ (is_within start count b && not (covers used b))

-- `taken` are the n lowest free blocks, in rising order, and are no longer free
pub record Takes (n : ℕ) (taken : List ℕ) (old new : FreeSet) : Type 0 where
  pub same : SameBlocks old new
  pub count : length taken ≡ n
  pub rising : AllPairs ◌<◌ taken
  pub were_free : All (λ b. is_free_at old b ≡ true) taken
  pub lowest : (b : ℕ) → is_free_at old b ≡ true → is_among taken b ≡ false → All (λ t. t < b) taken
  pub free : (b : ℕ) → is_free_at new b ≡ (is_free_at old b && not (is_among taken b))
  pub left : free_count new + n ≡ free_count old

-- the block is free now, and else all is as it was
pub record Gives (block : ℕ) (old new : FreeSet) : Type 0 where
  pub same : SameBlocks old new
  pub free : (b : ℕ) → is_free_at new b ≡ (if b == block then true else is_free_at old b)
  pub more : free_count new ≡ free_count old + 1
