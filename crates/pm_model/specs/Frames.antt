-- What stays of a device, and facts of one of its lines.
use Rattle.std.specs.Prelude.{◌≡◌, ◌/◌, ℕ, true, false, List}
use Rattle.pm_model.specs.declared.Cell.{Cell}
use Rattle.pm_model.specs.Cells.{cell, is_single, is_lent}

-- the same words are lent
abbrev pub SameLent : List Cell → List Cell → Type 0
SameLent old new = (i : ℕ) → is_lent (cell new i) ≡ is_lent (cell old i)

-- each word of one candidate has one again
abbrev pub KeepsSingle : List Cell → List Cell → Type 0
KeepsSingle old new = (i : ℕ) → is_single (cell old i) ≡ true → is_single (cell new i) ≡ true

-- each word of the line has one candidate
abbrev pub LineIsSingle : ℕ → List Cell → Type 0
LineIsSingle line d = (i : ℕ) → i / 8 ≡ line → is_single (cell d i) ≡ true

-- no word of the line is lent
abbrev pub LineIsHome : ℕ → List Cell → Type 0
LineIsHome line d = (i : ℕ) → i / 8 ≡ line → is_lent (cell d i) ≡ false
