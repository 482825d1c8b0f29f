-- The image that a crash leaves of a device, by a choice.
use Rattle.std.specs.Prelude.{◌≡◌, ◌≢◌, ◌⊎◌, ℕ, ◌+◌, ◌*◌, ◌/◌, ◌<◌, true, List}
use Rattle.oplog_entry.specs.pm_model.declared.Cell.{Cell}
use Rattle.oplog_entry.specs.pm_model.Cells.{cell}
use Rattle.oplog_entry.specs.pm_model.Words.{Words, line_bytes}
use Rattle.oplog_entry.specs.layout_model.Places.{Geometry, log_line}
use Rattle.oplog_entry.specs.layout_model.Entries.{is_self_valid}
use Rattle.check_image.specs.image_model.Honest.{HasOlder, IsTorn}
use Rattle.pm_lines.specs.Choices.{chosen}
use Rattle.pm_lines.specs.declared.choices.Choice.{Choice}

-- In the image that the choice takes the line is torn, and yet a valid entry for the sequence number that it holds.
pub record IsChance (choice : Choice) (d : List Cell) (line : ℕ) : Type 0 where
  pub torn : IsTorn (cell d) (chosen choice d) line
  pub valid : is_self_valid (line_bytes (chosen choice d) line) ≡ true

-- the line is as the choice takes it
abbrev pub IsAsChosen : Choice → List Cell → Words → ℕ → Type 0
IsAsChosen choice d image line = (j : ℕ) → j < 8 → image (8 * line + j) ≡ chosen choice d (8 * line + j)

-- The line has its older candidates where it would pass its check by chance, and is as the choice takes it else.
abbrev pub IsSettled : Choice → List Cell → Words → ℕ → Type 0
IsSettled choice d image line =
    (IsChance choice d line × HasOlder (cell d) image line) ⊎ ((¬ IsChance choice d line) × IsAsChosen choice d image line)

-- Each log line of the first n slots is settled; all other words are as the choice takes them.
pub record IsCrashImage (g : Geometry) (choice : Choice) (d : List Cell) (n : ℕ) (image : Words) : Type 0 where
  pub lines : (slot : ℕ) → slot < n → IsSettled choice d image (log_line g slot)
  pub others : (i : ℕ) → ((slot : ℕ) → slot < n → i / 8 ≢ log_line g slot) → image i ≡ chosen choice d i
