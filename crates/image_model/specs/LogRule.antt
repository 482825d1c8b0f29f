-- What the lines of a log hold while threads fill it.
use Rattle.std.specs.Prelude.{◌≡◌, ℕ, ◌+◌, ◌<◌, List, [], slice_index_or, length, Contains, true}
use Rattle.layout_model.specs.pm_model.declared.Cell.{Cell}
use Rattle.layout_model.specs.pm_model.declared.Cell.TheVariants.{Single}
use Rattle.layout_model.specs.pm_model.Cells.{cell, is_single, newest}
use Rattle.layout_model.specs.pm_model.Words.{Words, line_bytes}
use Rattle.layout_model.specs.declared.lines.Draft.{Draft}
use Rattle.layout_model.specs.Entries.{encode_entry}

-- the cells of line n of those that were taken out
abbrev pub cells_of_line : List (List Cell) → ℕ → List Cell
cells_of_line lines n = slice_index_or lines n []

-- the eight words of a line that is out
abbrev pub words_of_line : List Cell → Words
words_of_line cells j = newest (cell cells j)

-- the line is the entry, whole and with one candidate a word
pub record HoldsEntry (cells : List Cell) (d : Draft) (seq : ℕ) : Type 0 where
  pub single : (j : ℕ) → j < 8 → is_single (cell cells j) ≡ true
  pub spelled : line_bytes (words_of_line cells) 0 ≡ encode_entry d seq

-- the line has the words of the beginning of the lap
abbrev pub IsAsAtFirst : List Cell → Words → Type 0
IsAsAtFirst cells first = (j : ℕ) → j < 8 → cell cells j ≡ Single (first j)

-- For each pair of a claimed number and an entry there is a line of that number, and it is that entry with the
-- number's sequence number: a claim past the last line is held by no lines. A line whose number nobody claimed has
-- the words that it had when the lap began.
pub record HoldsClaims (base : ℕ) (lines : List (List Cell)) (claims : List (ℕ × Draft)) (first : ℕ → Words) : Type 0 where
  pub claimed : (n : ℕ) (d : Draft) → Contains claims (n, d) → (n < length lines) × HoldsEntry (cells_of_line lines n) d (base + n)
  pub unclaimed : (n : ℕ) → n < length lines → ((d : Draft) → ¬ Contains claims (n, d)) → IsAsAtFirst (cells_of_line lines n) (first n)
