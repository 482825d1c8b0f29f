-- The log's lines go out in POSIX mode, and come home, each law as one statement.
use Rattle.std.specs.Prelude.{◌≡◌, ℕ, true, false, List, []}
use Rattle.file_calls.specs.batch_laws.Together.{PosixStandsAt}
use Rattle.in_flight.specs.pm_model.declared.Cell.{Cell}
use Rattle.in_flight.specs.pm_model.Cells.{cell, is_lent}
use Rattle.in_flight.specs.pm_model.Images.{words_of}
use Rattle.in_flight.specs.pm_model.Parts.{Part, put_back}
use Rattle.in_flight.specs.pm_model.Words.{Words}
use Rattle.in_flight.specs.layout_model.Places.{Geometry, log_line}
use Rattle.in_flight.specs.posix_tables.Open.{Tables}
use Rattle.in_flight.specs.block_io.Lines.{LinesComeBack, LinesGoOut}
use Rattle.in_flight.specs.k_split.Laps.{IsLogWord}
use Rattle.in_flight.specs.k_split.LogLines.{AreLogLines}
use Rattle.in_flight.specs.k_split.Order.{IsInOrder}
use Rattle.in_flight.specs.k_split_model.View.{View}
use Rattle.in_flight.specs.live_model.Standing.{Kept}
use Rattle.in_flight.specs.posix_spec.State.{State}
use Rattle.in_flight.specs.posix_types.declared.item.Item.{Item}
use Rattle.in_flight.specs.world_image_laws.Images.{HasOldLines}
use Rattle.in_flight.specs.world_model.Lines.{AreLinesOut}

-- THE LOG LINES GO OUT where a lap began, so that each line that is an entry is one of an earlier lap: in POSIX mode too they stand together
-- with the lines out, of which the words of the beginning are kept.
abbrev pub PosixLinesOut : Type 0
PosixLinesOut =
    (g : Geometry) (k : View) (t : Tables) (kept : Kept) (n : ℕ) (start : State) (history : List Item) (e : List Cell) (lines : List Part)
    (first : Words) → ((i : ℕ) → IsLogWord k.volume i → first i ≡ words_of k.cells i)
    → PosixStandsAt g k t kept false n start history → HasOldLines k.volume (words_of k.cells)
    → IsInOrder (record k { cells = e }) → AreLogLines k.volume lines
    → LinesGoOut (log_line k.volume.geometry 0) k.cells e lines
    → PosixStandsAt g (record k { cells = e }) t (record kept { first = first }) true n start history

-- THEY COME HOME, with the words of the beginning, and hold what is claimed, which is nothing. They stand together with the lines at home.
abbrev pub PosixLinesHome : Type 0
PosixLinesHome =
    (g : Geometry) (k : View) (t : Tables) (kept : Kept) (n : ℕ) (start : State) (history : List Item) (e : List Cell) (lines : List Part)
    (back : ℕ → Cell) → PosixStandsAt g k t kept true n start history
    → IsInOrder (record k { cells = e }) → AreLogLines k.volume lines
    → LinesComeBack (log_line k.volume.geometry 0) lines k.cells e
    → ((i : ℕ) → IsLogWord k.volume i → is_lent (cell e i) ≡ false)
    → AreLinesOut k.volume (put_back e back) kept.first kept.claims [] []
    → PosixStandsAt g (record k { cells = e }) t kept false n start history
