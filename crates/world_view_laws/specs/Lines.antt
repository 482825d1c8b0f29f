-- The lines of the log of a World, as a round hands them out and takes them back.
use Rattle.std.specs.Prelude.{◌≡◌, ◌<◌, ◌+◌, ◌*◌, ℕ, true, List, length}
use Rattle.in_flight.specs.pm_model.Parts.{Part}
use Rattle.in_flight.specs.pm_model.Words.{Words}
use Rattle.in_flight.specs.layout_model.declared.lines.Draft.{Draft}
use Rattle.in_flight.specs.layout_model.Places.{log_line}
use Rattle.in_flight.specs.image_model.LogRule.{HoldsClaims, IsAsAtFirst}
use Rattle.in_flight.specs.block_io.Lines.{AreFrom, line_at}
use Rattle.write_end.specs.oplog_entry.LogLines.{cells_of}
use Rattle.in_flight.specs.write_jobs.Jobs.{FilledView}
use Rattle.write_end.specs.Lines as ended
use Rattle.world_view_laws.specs.Views.{first_by, WorldView}

-- the words that line n of the log had when the lap began
abbrev pub first_of : WorldView → ℕ → Words
first_of w n j = first_by w.geometry w.first (8 * log_line w.geometry n + j)

-- THE LINES ARE THE ROUND'S: as many as the log has, by rising slot, while they are out.
pub record AreRoundLines (w : WorldView) (lines : List Part) : Type 0 where
  pub out : w.lines_out ≡ true
  pub count : length lines ≡ w.geometry.log
  pub places : AreFrom (log_line w.geometry 0) lines

-- as they are handed out: each has the words of the beginning of the lap, each alone
pub record AreFresh (w : WorldView) (lines : List Part) : Type 0 where
  pub are : AreRoundLines w lines
  pub words : (n : ℕ) → n < length lines → IsAsAtFirst (line_at lines n).cells (first_of w n)

-- THEY HOLD THE CLAIMS: each claim stands whole in the line of its number, and the other lines are as at the beginning of the lap. This is
-- `HoldsClaims`, which speaks of the cells of any lines, of the lines of this World; `HoldsRound` is another fact: it speaks of a log that is
-- open, with entries on their way into other lines.
pub record HoldTheClaims (w : WorldView) (lines : List Part) : Type 0 where
  pub are : AreRoundLines w lines
  pub holds : HoldsClaims w.base (cells_of lines) w.claims (first_of w)

-- the lines of a crash, in this lap
abbrev pub AreCrashLines : WorldView → List FilledView → List (ℕ × Draft) → List Part → Type 0
AreCrashLines w filled taken lines = ended.AreCrashLines w.geometry w.base (first_by w.geometry w.first) w.claims filled taken lines
