-- Honest images: those in which no torn log line passes its check by chance. The cells are those of a device with
-- its lines and loans put back, a function from word number to cell: on the device itself a lent line has no two
-- candidates, so that it would never count as torn.
use Rattle.std.specs.Prelude.{◌≡◌, ℕ, ◌+◌, ◌*◌, ◌<◌, true, false, List}
use Rattle.layout_model.specs.pm_model.declared.Cell.{Cell}
use Rattle.layout_model.specs.pm_model.Cells.{has_two, oldest, newest}
use Rattle.layout_model.specs.pm_model.Parts.{put_back}
use Rattle.layout_model.specs.pm_model.Words.{Words, line_bytes}
use Rattle.layout_model.specs.Places.{Geometry, log_line}
use Rattle.layout_model.specs.Entries.{is_self_valid}

-- the words of a line are its older candidates, or its newer ones
abbrev pub HasOlder : (ℕ → Cell) → Words → ℕ → Type 0
HasOlder cells image line = (j : ℕ) → j < 8 → image (8 * line + j) ≡ oldest (cells (8 * line + j))

abbrev pub HasNewer : (ℕ → Cell) → Words → ℕ → Type 0
HasNewer cells image line = (j : ℕ) → j < 8 → image (8 * line + j) ≡ newest (cells (8 * line + j))

-- some word of the line has two candidates, or each has
abbrev pub SomeHasTwo : (ℕ → Cell) → ℕ → Type 0
SomeHasTwo cells line = (j : ℕ) × (j < 8) × (has_two (cells (8 * line + j)) ≡ true)

abbrev pub EachHasTwo : (ℕ → Cell) → ℕ → Type 0
EachHasTwo cells line = (j : ℕ) → j < 8 → has_two (cells (8 * line + j)) ≡ true

-- A line is torn in an image where one of its words has two candidates, and its words are neither the eight older
-- ones nor, where each has two, the eight newer ones. So a line of which only some words were stored is torn unless
-- it reads as before.
pub record IsTorn (cells : ℕ → Cell) (image : Words) (line : ℕ) : Type 0 where
  pub some : SomeHasTwo cells line
  pub not_older : ¬ HasOlder cells image line
  pub not_newer : EachHasTwo cells line → ¬ HasNewer cells image line

-- no torn log line is a valid entry for the sequence number that it holds
abbrev pub IsHonest : Geometry → (ℕ → Cell) → Words → Type 0
IsHonest g cells image =
    (slot : ℕ) → slot < g.log → IsTorn cells image (log_line g slot) → is_self_valid (line_bytes image (log_line g slot)) ≡ false

-- an image of a device with these cells put back where its words are lent is honest
abbrev pub IsHonestWith : Geometry → List Cell → (ℕ → Cell) → Words → Type 0
IsHonestWith g d back image = IsHonest g (put_back d back) image
