-- The row of a line that a look-up found.
use Rattle.std.specs.Prelude.{◌≡◌, ℕ, List, Some}
use Rattle.layout_model.specs.Names.{Rows, row}

-- line k has this parent, this name and this child
abbrev pub IsRow : Rows → ℕ → List ℕ → ℕ → ℕ → Type 0
IsRow rows parent name k child = row rows k ≡ Some (record { parent = parent; child = child; name = name })
