-- The lines of a log, by their numbers.
use Rattle.std.specs.Prelude.{ℕ, List, [], map, slice_index_or}
use Rattle.pm_lines.specs.pm_model.declared.Cell.{Cell}
use Rattle.pm_lines.specs.pm_model.Parts.{Part}

-- line n of a log
abbrev pub line_at : List Part → ℕ → Part
line_at lines n = slice_index_or lines n (record { place = 0; cells = [] })

-- the cells of each line
abbrev pub cells_of : List Part → List (List Cell)
cells_of lines = map (λ line. line.cells) lines
