-- A block that is lent.
use Rattle.std.specs.Prelude.{◌≡◌, ℕ, ◌/◌, true, List, Option, Some, None, Result, Ok, Err}
use Rattle.k_map_tests.specs.pm_model.declared.Cell.{Cell}
use Rattle.k_map_tests.specs.pm_model.Cells.{AllHome, cell, is_lent}
use Rattle.k_map_tests.specs.pm_model.Parts.{Part}
use Rattle.test_kit.specs.declared.faults.RowError.{RowError}

-- just the words of the block are lent
pub record IsOutAt (d : List Cell) (block : ℕ) : Type 0 where
  pub out : (i : ℕ) → i / 512 ≡ block → is_lent (cell d i) ≡ true
  pub others : (i : ℕ) → is_lent (cell d i) ≡ true → i / 512 ≡ block

-- so it is where a loan was given, and without one no word is lent
abbrev pub IsOut : List Cell → Result (Option Part) RowError → Type 0
IsOut d (Ok (Some loan)) = IsOutAt d loan.place
IsOut d (Ok None) = AllHome d
IsOut d (Err fault) = Unit {0}
