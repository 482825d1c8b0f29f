-- A log as contracts see it, and what is always true of one.
use Rattle.std.specs.Prelude.{◌≡◌, ◌≤◌, ◌<◌, ◌^◌, ℕ, List, [], length, None}
use Rattle.atomic_table.specs.Seated.{TableId}
use Rattle.oplog_entry.specs.image_model.pm_model.Parts.{Part}
use Rattle.oplog_tail.specs.declared.views.Start.{Start}
use Rattle.oplog_tail.specs.Seats.{SeatView}

-- which log it is, its base, how many seats it has, and the lines that it was opened with
pub record LogView : Type 0 where
  pub id : TableId
  pub base : ℕ
  pub seats : ℕ
  pub lines : List Part

-- how many lines it has
abbrev pub capacity : LogView → ℕ
capacity log = length log.lines

-- the seat is one of the log
abbrev pub IsSeatOf : LogView → SeatView → Type 0
IsSeatOf log seat = seat.log ≡ log.id

-- a seat that claimed nothing
abbrev pub fresh_seat : TableId → SeatView
fresh_seat id = record { log = id; claims = []; full = None }

abbrev pub at_first : LogView → SeatView
at_first log = fresh_seat log.id

-- The table has two words and a slot for each line, the base is that which the log was opened with, and there is room for the
-- lines that the log is closed with.
pub record IsLog (id : TableId) (key : Start) (base : ℕ) (spare : List Part) (room : ℕ) : Type 0 where
  pub words : id.words ≡ 2
  pub slots : length key.lines.value.items ≡ id.slots
  pub some_seat : 0 < key.seats
  pub base_is : base ≡ key.base
  pub base_small : base ≤ 2 ^ 63
  pub lines_few : id.slots ≤ 4096
  pub unused : spare ≡ []
  pub roomy : id.slots ≤ room
