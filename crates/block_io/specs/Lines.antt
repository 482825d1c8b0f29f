-- Lines of a device, taken out in order and put back.
use Rattle.std.specs.Prelude.{◌≡◌, ◌<◌, ℕ, ◌+◌, ◌*◌, List, [], length, slice_index_or}
use Rattle.pm_lines.specs.pm_model.declared.Cell.{Cell}
use Rattle.pm_lines.specs.pm_model.declared.Cell.TheVariants.{Lent}
use Rattle.pm_lines.specs.pm_model.Cells.{cell, unmarked}
use Rattle.pm_lines.specs.pm_model.Parts.{Part}
use Rattle.block_io.specs.Overwrites.{IsInLines}

-- line n of these
abbrev pub line_at : List Part → ℕ → Part
line_at lines n = slice_index_or lines n (record { place = 0; cells = [] })

-- they are the lines from `first` on, in order
abbrev pub AreFrom : ℕ → List Part → Type 0
AreFrom first lines = (n : ℕ) → n < length lines → (line_at lines n).place ≡ first + n

-- The lines from `first` on went out: each has the words that the device had there, and nothing else changed.
pub record LinesGoOut (first : ℕ) (old new : List Cell) (lines : List Part) : Type 0 where
  pub places : AreFrom first lines
  pub words : (n j : ℕ) → n < length lines → j < 8 → cell (line_at lines n).cells j ≡ cell old (8 * (first + n) + j)
  pub out : (i : ℕ) → IsInLines first (length lines) i → cell new i ≡ Lent
  pub others : (i : ℕ) → ¬ IsInLines first (length lines) i → cell new i ≡ cell old i

-- They came back, without their marks, and nothing else changed.
pub record LinesComeBack (first : ℕ) (lines : List Part) (old new : List Cell) : Type 0 where
  pub words : (n j : ℕ) → n < length lines → j < 8 → cell new (8 * (first + n) + j) ≡ unmarked (cell (line_at lines n).cells j)
  pub others : (i : ℕ) → ¬ IsInLines first (length lines) i → cell new i ≡ cell old i
