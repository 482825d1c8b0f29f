-- The log lines go out when a round begins, and come home at its end: each law as one statement.
use Rattle.std.specs.Prelude.{◌≡◌, ℕ, Bool, true, false, List, []}
use Rattle.live_step_laws.specs.pm_model.declared.Cell.{Cell}
use Rattle.live_step_laws.specs.pm_model.Cells.{cell, is_lent}
use Rattle.live_step_laws.specs.pm_model.Images.{words_of}
use Rattle.live_step_laws.specs.pm_model.Parts.{Part, put_back}
use Rattle.live_step_laws.specs.pm_model.Words.{Words}
use Rattle.live_step_laws.specs.layout_model.Places.{Geometry, log_line}
use Rattle.live_step_laws.specs.k_split_model.View.{View}
use Rattle.log_checkpoint.specs.k_split.Laps.{IsLogWord}
use Rattle.log_checkpoint.specs.k_split.LogLines.{AreLogLines}
use Rattle.log_checkpoint.specs.k_split.Order.{IsInOrder}
use Rattle.log_checkpoint.specs.block_io.Lines.{LinesComeBack, LinesGoOut}
use Rattle.live_step_laws.specs.posix_tables.Open.{Tables}
use Rattle.live_step_laws.specs.posix_spec.State.{State}
use Rattle.live_step_laws.specs.world_model.Lines.{AreLinesOut}
use Rattle.live_step_laws.specs.live_model.Standing.{Kept, StandsAt}
use Rattle.live_step_laws.specs.world_image_laws.Images.{HasOldLines}

-- K-Split with this device
abbrev pub with_cells : View → List Cell → View
with_cells k e = record k { cells = e }

-- what the World keeps, with these words of the log lines as those of the beginning
abbrev pub with_first : Kept → Words → Kept
with_first kept first = record kept { first = first }

-- K-Split stands with this device, in the same state, with the same jobs and nodes.
pub record HasTurned (g : Geometry) (k : View) (t : Tables) (kept then : Kept) (before after : Bool) (n : ℕ)
    (s : State) (e : List Cell) (stands : StandsAt g k t kept before n s) : Type 0 where
  pub now : StandsAt g (with_cells k e) t then after n s
  pub jobs_are : now.jobs ≡ stands.jobs
  pub numbers_are : now.numbers ≡ stands.numbers

-- THE LOG LINES GO OUT where a lap began, so that each line that is an entry is one of an earlier lap. They stand together
-- with the lines out, of which the words of the beginning are kept.
abbrev pub StandsOut : Type 0
StandsOut =
    (g : Geometry) (k : View) (t : Tables) (kept : Kept) (n : ℕ) (s : State) (e : List Cell) (lines : List Part)
    (first : Words) → ((i : ℕ) → IsLogWord k.volume i → first i ≡ words_of k.cells i)
    → (stands : StandsAt g k t kept false n s) → HasOldLines k.volume (words_of k.cells)
    → IsInOrder (with_cells k e) → AreLogLines k.volume lines
    → LinesGoOut (log_line k.volume.geometry 0) k.cells e lines
    → HasTurned g k t kept (with_first kept first) false true n s e stands

-- THEY COME HOME, no job out: the lines hold the claims, and else the words of the beginning. They stand together with
-- the lines at home.
abbrev pub StandsHome : Type 0
StandsHome =
    (g : Geometry) (k : View) (t : Tables) (kept : Kept) (n : ℕ) (s : State) (e : List Cell) (lines : List Part)
    (back : ℕ → Cell)
    → (stands : StandsAt g k t kept true n s) → kept.pending ≡ []
    → IsInOrder (with_cells k e) → AreLogLines k.volume lines
    → LinesComeBack (log_line k.volume.geometry 0) lines k.cells e
    → ((i : ℕ) → IsLogWord k.volume i → is_lent (cell e i) ≡ false)
    → AreLinesOut k.volume (put_back e back) kept.first kept.claims [] []
    → HasTurned g k t kept kept true false n s e stands
