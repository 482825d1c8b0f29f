-- Parts of a device that are lent: a loan of a block, a line taken out. A part is the cells of `size` words,
-- of which word i of the device is word `i % size` of part `i / size`.
use Rattle.std.specs.Prelude.{◌≡◌, ◌≢◌, ◌/◌, ◌%◌, ℕ, List, length, if◌then◌else◌}
use Rattle.pm_model.specs.declared.Cell.{Cell}
use Rattle.pm_model.specs.declared.Cell.TheVariants.{Lent}
use Rattle.pm_model.specs.Cells.{cell, is_lent, unmarked, IsCandidate}
use Rattle.pm_model.specs.Words.{Words}

-- what is lent: its place, a block's or a line's number, and its cells
pub record Part : Type 0 where
  pub place : ℕ
  pub cells : List Cell

-- part n of the old device went out: its words are the part's, and lent in the new device
pub record GoesOut (size n : ℕ) (old new part : List Cell) : Type 0 where
  pub count : length part ≡ size
  pub words : (i : ℕ) → i / size ≡ n → cell part (i % size) ≡ cell old i
  pub out : (i : ℕ) → i / size ≡ n → cell new i ≡ Lent
  pub others : (i : ℕ) → i / size ≢ n → cell new i ≡ cell old i

-- part n came back into the device; its marks ended with it
pub record ComesBack (size n : ℕ) (part old new : List Cell) : Type 0 where
  pub words : (i : ℕ) → i / size ≡ n → cell new i ≡ unmarked (cell part (i % size))
  pub others : (i : ℕ) → i / size ≢ n → cell new i ≡ cell old i

-- a device with any cells put back where words are lent
abbrev pub put_back : List Cell → (ℕ → Cell) → ℕ → Cell
put_back d w i = if is_lent (cell d i) then w i else cell d i

-- an image of the device with these cells put back
abbrev pub IsImageWith : List Cell → (ℕ → Cell) → Words → Type 0
IsImageWith d w image = (i : ℕ) → IsCandidate (put_back d w i) (image i)
