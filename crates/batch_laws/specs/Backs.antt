-- What a crash finds of the device while its log lines are out, each law as one statement.
use Rattle.std.specs.Prelude.{ℕ, Bool, List, [], Option}
use Rattle.eof_laws.specs.live_model.pm_model.Words.{Words}
use Rattle.eof_laws.specs.live_model.layout_model.Places.{Geometry}
use Rattle.eof_laws.specs.live_model.file_table.Files.{Files}
use Rattle.eof_laws.specs.live_model.k_split_model.View.{View}
use Rattle.eof_laws.specs.live_model.commute_laws.posix_types.declared.item.Item.{Item}
use Rattle.eof_laws.specs.live_model.posix_tables.Open.{Tables}
use Rattle.eof_laws.specs.live_model.posix_spec.Run.{Unfinished}
use Rattle.eof_laws.specs.live_model.posix_spec.State.{State}
use Rattle.eof_laws.specs.live_model.world_image_laws.Back.{IsKeptBack}
use Rattle.eof_laws.specs.live_model.Standing.{Kept}
use Rattle.batch_laws.specs.Losses.{IsLostIn}
use Rattle.batch_laws.specs.Ready.{GoesReady}
use Rattle.batch_laws.specs.Together.{PosixStandsAt}

-- BETWEEN TWO CALLS the device keeps the promise once its log lines are put back with the words that they had when the lap began, whatever is
-- unfinished.
abbrev pub ReadyKeepsBack : Type 0
ReadyKeepsBack =
    (g : Geometry) (k : View) (files : Files) (count : ℕ) (numbers : List ℕ) (start : State) (history : List Item) (first : Words) (unfinished : List Unfinished)
    → GoesReady g k files count numbers start history → IsKeptBack k.volume k.cells first [] [] start history unfinished

-- So does the device where all stands together, by the words that are kept of its lines.
abbrev pub PosixKeepsBack : Type 0
PosixKeepsBack =
    (g : Geometry) (k : View) (t : Tables) (kept : Kept) (lines_out : Bool) (n : ℕ) (start : State) (history : List Item) (unfinished : List Unfinished)
    → PosixStandsAt g k t kept lines_out n start history → IsKeptBack k.volume k.cells kept.first [] [] start history unfinished

-- THE POWER WENT IN A CALL THAT GATHERS, with the log lines out: the device keeps the promise once they are put back, this call unfinished
-- and whatever others.
abbrev pub LossKeepsBack : Type 0
LossKeepsBack =
    (g : Geometry) (k l : View) (files : Files) (count : ℕ) (numbers : List ℕ) (start : State) (history : List Item) (first : Words) (unfinished : List Unfinished)
    → GoesReady g k files count numbers start history → IsLostIn k l → IsKeptBack k.volume l.cells first [] [] start history unfinished
