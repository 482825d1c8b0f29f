-- What the three steps of a memory do, for a power that is on or off before the step. Each speaks of the cells
-- of a device, of a loan or of a line alike.
use Rattle.std.specs.Prelude.{◌≡◌, ◌≢◌, ◌+◌, ◌-◌, ◌/◌, ℕ, Bool, false, List, Option, None, Some, length, min, if◌then◌else◌}
use Rattle.pm_model.specs.declared.Cell.{Cell}
use Rattle.pm_model.specs.Cells.{cell, stored, flushed, fenced}
use Rattle.pm_model.specs.Powers.{Supply}

-- A store: the word has the value as a second candidate.
pub record StoresWord (on : Bool) (word value : ℕ) (old new : List Cell) : Type 0 where
  pub size : length new ≡ length old
  pub stored_at : cell new word ≡ (if on then stored value (cell old word) else cell old word)
  pub others : (i : ℕ) → i ≢ word → cell new i ≡ cell old i
  pub off : on ≡ false → new ≡ old

-- A flush: the candidates of the line's words are marked.
pub record FlushesLine (on : Bool) (line : ℕ) (old new : List Cell) : Type 0 where
  pub size : length new ≡ length old
  pub words : (i : ℕ) → i / 8 ≡ line → cell new i ≡ (if on then flushed (cell old i) else cell old i)
  pub others : (i : ℕ) → i / 8 ≢ line → cell new i ≡ cell old i
  pub off : on ≡ false → new ≡ old

-- A fence: each candidate that is older than a marked one is dropped.
pub record Fences (on : Bool) (old new : List Cell) : Type 0 where
  pub size : length new ≡ length old
  pub words : (i : ℕ) → cell new i ≡ (if on then fenced (cell old i) else cell old i)
  pub off : on ≡ false → new ≡ old

-- A power after so many steps: as many are taken as are left.
abbrev pub taken_by : ℕ → Option ℕ → ℕ → ℕ
taken_by n None taken = taken
taken_by n (Some given) taken = taken + min n (given - taken)

abbrev pub stepped_by : ℕ → Supply → Supply
stepped_by n p = record { given = p.given; taken = taken_by n p.given p.taken }
