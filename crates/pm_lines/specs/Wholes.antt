-- What always holds of a part that is out.
use Rattle.std.specs.Prelude.{◌≡◌, ℕ, List, length}
use Rattle.pm_model.specs.declared.Cell.{Cell}
use Rattle.pm_model.specs.Cells.{AllHome}

-- it has so many words, none of them lent
pub record IsWhole (size : ℕ) (cells : List Cell) : Type 0 where
  pub count : length cells ≡ size
  pub home : AllHome cells
