-- A World that gathers in POSIX mode loses its power, each law as one statement.
use Rattle.std.specs.Prelude.{true, false, List, [], ℕ}
use Rattle.file_calls.specs.batch_laws.Together.{PosixStandsAt}
use Rattle.in_flight.specs.pm_model.declared.Cell.{Cell}
use Rattle.in_flight.specs.layout_model.Places.{Geometry}
use Rattle.in_flight.specs.posix_tables.Open.{Tables}
use Rattle.write_end.specs.in_place.k_split_laws.Left.{IsLeftOf}
use Rattle.in_flight.specs.k_split_model.View.{View}
use Rattle.in_flight.specs.live_model.Standing.{Kept}
use Rattle.in_flight.specs.posix_spec.Run.{Unfinished}
use Rattle.in_flight.specs.posix_spec.State.{State}
use Rattle.in_flight.specs.posix_types.declared.item.Item.{Item}
use Rattle.in_flight.specs.world_image_laws.Back.{IsKeptBack}
use Rattle.in_flight.specs.world_image_laws.Promised.{KeepsPromise}
use Rattle.write_end.specs.Lost.{IsLostWith}

-- THE POWER WENT in a call of a World that stood together in POSIX mode: its device is left of that before, and the promise is kept.
abbrev pub PosixIsLost : Type 0
PosixIsLost =
    (g : Geometry) (k : View) (t : Tables) (kept : Kept) (n : ℕ) (start : State) (history : List Item) (last : List Unfinished) (e : List Cell)
    → PosixStandsAt g k t kept true n start history → IsLeftOf g k.cells e → IsKeptBack k.volume e kept.first [] [] start history last
    → IsLostWith k.volume e kept start history last

-- It was found off, or lost elsewhere, whatever is unfinished.
abbrev pub PosixIsFoundLost : Type 0
PosixIsFoundLost =
    (g : Geometry) (k : View) (t : Tables) (kept : Kept) (n : ℕ) (start : State) (history : List Item) (last : List Unfinished)
    → PosixStandsAt g k t kept true n start history → IsLostWith k.volume k.cells kept start history last

-- With the lines at home, and the power on still, the device keeps the promise, whatever is unfinished.
abbrev pub PosixKeepsHome : Type 0
PosixKeepsHome =
    (g : Geometry) (k : View) (t : Tables) (kept : Kept) (n : ℕ) (start : State) (history : List Item) (unfinished : List Unfinished)
    → PosixStandsAt g k t kept false n start history → KeepsPromise g k.cells start history unfinished
