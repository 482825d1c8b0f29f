-- A device of which some lines are lent: its words as they would be with none lent, and which lines are.
use Rattle.std.specs.Prelude.{◌≡◌, ◌+◌, ◌*◌, ◌/◌, ◌%◌, ◌<◌, ◌≤◌, ℕ, Bool, true, false, List, length, map, slice_index_or, if◌then◌else◌}
use Rattle.std.specs.List.{range_with_len}
use Rattle.pm_model.specs.declared.Cell.{Cell}
use Rattle.pm_model.specs.declared.Cell.TheVariants.{Lent}
use Rattle.pm_model.specs.Cells.{cell, is_single, is_lent, unmarked, AllHome}

-- whether the line of word i is lent
abbrev pub is_out : List Bool → ℕ → Bool
is_out lent i = slice_index_or lent (i / 8) false

unfoldable pub with_lent : List Bool → List Cell → List Cell
with_lent lent d = map (λ i. if is_out lent i then Lent else cell d i) (range_with_len 0 (length d))

-- What always holds of a device: it has whole blocks, and what is lent went out with one candidate.
pub record HasLines (lent : List Bool) (d : List Cell) : Type 0 where
  pub size : length d ≡ 8 * length lent
  pub blocks : length d % 512 ≡ 0
  pub single : (i : ℕ) → is_out lent i ≡ true → is_single (cell d i) ≡ true
  pub home : AllHome d

-- Of `count` lines from the first on it is noted whether they are lent.
pub record NotesLines (first count : ℕ) (out : Bool) (old new : List Bool) : Type 0 where
  pub size : length new ≡ length old
  pub inside : (line : ℕ) → first ≤ line → line < first + count → slice_index_or new line false ≡ out
  pub below : (line : ℕ) → line < first → slice_index_or new line false ≡ slice_index_or old line false
  pub above : (line : ℕ) → first + count ≤ line → slice_index_or new line false ≡ slice_index_or old line false

-- Words from the first on got the cells of a part, none of them lent, without marks.
pub record PutsPart (first : ℕ) (part old new : List Cell) : Type 0 where
  pub size : length new ≡ length old
  pub inside : (k : ℕ) → k < length part → cell new (first + k) ≡ unmarked (cell part k)
  pub home : (k : ℕ) → k < length part → is_lent (cell part k) ≡ false
  pub below : (i : ℕ) → i < first → cell new i ≡ cell old i
  pub above : (i : ℕ) → first + length part ≤ i → cell new i ≡ cell old i
