-- How a memory holds its words: a number for each word, and a pair for each word that has two candidates.
use Rattle.std.specs.Prelude.{◌≡◌, ◌≢◌, ◌+◌, ◌-◌, ◌<◌, ◌≤◌, ◌==◌, ◌&&◌, ℕ, Bool, true, false, List, length, map, slice_index, slice_index_or, nat_lt, if◌then◌else◌}
use Rattle.std.specs.List.{range_with_len}
use Rattle.pm_model.specs.declared.Cell.{Cell}
use Rattle.pm_model.specs.declared.Cell.TheVariants.{Single, Two, Marked}
use Rattle.pm_model.specs.Cells.{cell, is_single, has_two, oldest, newest, AllHome}
use Rattle.pm_lines.specs.declared.pairs.Pair.{Pair}

abbrev pub pair_at : List Pair → ℕ → Pair
pair_at pairs k = slice_index_or pairs k (record { word = 0; old = 0; new = 0 })

-- the greatest number that a word can hold
abbrev pub greatest : ℕ
greatest = 18446744073709551615

-- the place that the word's number leads to: places count down from the greatest number
abbrev pub place_of : List ℕ → ℕ → ℕ
place_of values i = greatest - slice_index values i

-- whether the word has a pair, which is then at that place
abbrev pub has_pair : List ℕ → List Pair → ℕ → Bool
has_pair values pairs i = nat_lt (place_of values i) (length pairs) && ((pair_at pairs (place_of values i)).word == i)

-- the cell of a pair by its place, where the first `marked` pairs are marked
abbrev pub pair_cell : ℕ → ℕ → Pair → Cell
pair_cell marked place pair = if nat_lt place marked then Marked pair.old pair.new else Two pair.old pair.new

-- the cell of a word: by its pair if it has one, else the number is its only candidate
unfoldable pub word_cell : List ℕ → List Pair → ℕ → ℕ → Cell
word_cell values pairs marked i =
    if has_pair values pairs i then pair_cell marked (place_of values i) (pair_at pairs (place_of values i))
    else Single (slice_index values i)

unfoldable pub cells_of : List ℕ → List Pair → ℕ → List Cell
cells_of values pairs marked = map (word_cell values pairs marked) (range_with_len 0 (length values))

-- each pair is that of a word, whose number leads to it
pub record IsLinked (values : List ℕ) (pairs : List Pair) : Type 0 where
  pub within : (k : ℕ) → k < length pairs → (pair_at pairs k).word < length values
  pub leads : (k : ℕ) → k < length pairs → slice_index values (pair_at pairs k).word + k ≡ greatest

-- the word has its pair at place k
pub record IsPlace (pairs : List Pair) (i k : ℕ) : Type 0 where
  pub below : k < length pairs
  pub names : (pair_at pairs k).word ≡ i

-- no pair is the word's
abbrev pub HasNoPair : List Pair → ℕ → Type 0
HasNoPair pairs i = (k : ℕ) → k < length pairs → (pair_at pairs k).word ≢ i

-- word w is the next from a word on that has a pair
pub record IsNextPair (values : List ℕ) (pairs : List Pair) (from w : ℕ) : Type 0 where
  pub after : from ≤ w
  pub below : w < length values
  pub place : (k : ℕ) × IsPlace pairs w k
  pub none : (i : ℕ) → from ≤ i → i < w → HasNoPair pairs i

-- The three changes of words and pairs, from old numbers and pairs to new ones.

-- The word gets a pair, behind the others.
pub record AddsPair (word value : ℕ) (values : List ℕ) (pairs : List Pair) (numbers : List ℕ) (new : List Pair) : Type 0 where
  pub size : length numbers ≡ length values
  pub count : length new ≡ length pairs + 1
  pub others : (i : ℕ) → i ≢ word → slice_index numbers i ≡ slice_index values i
  pub number : slice_index numbers word + length pairs ≡ greatest
  pub before : (k : ℕ) → k < length pairs → pair_at new k ≡ pair_at pairs k
  pub last : pair_at new (length pairs) ≡ record { word = word; old = slice_index values word; new = value }

-- Numbers from the first on are replaced.
pub record CopiesNumbers (first : ℕ) (part values numbers : List ℕ) : Type 0 where
  pub size : length numbers ≡ length values
  pub inside : (k : ℕ) → k < length part → slice_index numbers (first + k) ≡ slice_index part k
  pub below : (i : ℕ) → i < first → slice_index numbers i ≡ slice_index values i
  pub above : (i : ℕ) → first + length part ≤ i → slice_index numbers i ≡ slice_index values i

-- The pairs at two places change places.
pub record SwapsPairs (j k : ℕ) (values : List ℕ) (pairs : List Pair) (numbers : List ℕ) (new : List Pair) : Type 0 where
  pub size : length numbers ≡ length values
  pub count : length new ≡ length pairs
  pub others : (i : ℕ) → i ≢ (pair_at pairs j).word → i ≢ (pair_at pairs k).word
      → slice_index numbers i ≡ slice_index values i
  pub first_number : slice_index numbers (pair_at pairs j).word + k ≡ greatest
  pub second_number : slice_index numbers (pair_at pairs k).word + j ≡ greatest
  pub rest : (i : ℕ) → i ≢ j → i ≢ k → pair_at new i ≡ pair_at pairs i
  pub first : pair_at new k ≡ pair_at pairs j
  pub second : pair_at new j ≡ pair_at pairs k

-- The pair at a place goes, its word keeps the newer candidate, and the last pair comes to that place.
pub record DropsPair (place : ℕ) (values : List ℕ) (pairs : List Pair) (numbers : List ℕ) (new : List Pair) : Type 0 where
  pub size : length numbers ≡ length values
  pub count : length new + 1 ≡ length pairs
  pub others : (i : ℕ) → i ≢ (pair_at pairs place).word → i ≢ (pair_at pairs (length new)).word
      → slice_index numbers i ≡ slice_index values i
  pub kept : slice_index numbers (pair_at pairs place).word ≡ (pair_at pairs place).new
  pub number : place < length new → slice_index numbers (pair_at pairs (length new)).word + place ≡ greatest
  pub rest : (k : ℕ) → k ≢ place → k < length new → pair_at new k ≡ pair_at pairs k
  pub moved : place < length new → pair_at new place ≡ pair_at pairs (length new)

-- What always holds of a memory's words. There is room for a pair of each word, so that no store takes memory.
pub record IsHeld (values : List ℕ) (pairs : List Pair) (marked capacity : ℕ) : Type 0 where
  pub linked : IsLinked values pairs
  pub marks : marked ≤ length pairs
  pub room : length values ≤ capacity

-- the words from one on, up to an end, have one candidate each
abbrev pub AreSingle : List Cell → ℕ → ℕ → Type 0
AreSingle d from end = (i : ℕ) → from ≤ i → i < end → is_single (cell d i) ≡ true

-- word w is the next from a word on that has two candidates
pub record IsNextTwo (d : List Cell) (from w : ℕ) : Type 0 where
  pub after : from ≤ w
  pub below : w < length d
  pub two : has_two (cell d w) ≡ true
  pub none : AreSingle d from w

-- The words with two candidates are those with a pair, which has the two.
pub record ArePairsOf (d : List Cell) (pairs : List Pair) : Type 0 where
  pub within : (k : ℕ) → k < length pairs → (pair_at pairs k).word < length d
  pub oldest_of : (k : ℕ) → k < length pairs → oldest (cell d (pair_at pairs k).word) ≡ (pair_at pairs k).old
  pub newest_of : (k : ℕ) → k < length pairs → newest (cell d (pair_at pairs k).word) ≡ (pair_at pairs k).new
  pub distinct : (j k : ℕ) → j < length pairs → k < length pairs → j ≢ k → (pair_at pairs j).word ≢ (pair_at pairs k).word
  pub home : AllHome d
  pub none : (i : ℕ) → is_single (cell d i) ≡ true → HasNoPair pairs i
  pub some : (i : ℕ) → is_single (cell d i) ≡ false → (k : ℕ) × IsPlace pairs i k
