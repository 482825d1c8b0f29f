-- What the World keeps of files says the numbers of the state.
use Rattle.std.specs.Prelude.{◌≡◌, ℕ, Bool}
use Rattle.file_table.specs.layout_model.Places.{data_blocks, Geometry}
use Rattle.live_model.specs.k_split_model.View.{View}
use Rattle.posix_tables.specs.Open.{Tables}
use Rattle.open_files.specs.posix_spec.State.{room, State}
use Rattle.live_model.specs.world_model.Stands.{number}
use Rattle.live_model.specs.Standing.{Kept, StandsAt}
use Rattle.write_plan.specs.Asks.{HaveLines, room_in}
use Rattle.write_plan.specs.AsksLaws.{AreOfState}

-- Where the World stands together, tables and sizes are those of the state,
abbrev pub StandsAsKept : Type 0
StandsAsKept =
    (g : Geometry) (k : View) (t : Tables) (kept : Kept) (lines : Bool) (n : ℕ) (s : State) → (stands : StandsAt g k t kept lines n s) → AreOfState s (number stands.numbers) t kept.files

-- each open file has its line,
abbrev pub OpenHaveLines : Type 0
OpenHaveLines = (g : Geometry) (k : View) (t : Tables) (kept : Kept) (lines : Bool) (n : ℕ) (s : State) → StandsAt g k t kept lines n s → HaveLines t kept.files

-- and the room that all sizes leave is that of the state.
abbrev pub RoomIsKept : Type 0
RoomIsKept =
    (g : Geometry) (k : View) (t : Tables) (kept : Kept) (lines : Bool) (n : ℕ) (s : State) → StandsAt g k t kept lines n s → room s ≡ room_in (data_blocks k.volume.geometry) kept.files
