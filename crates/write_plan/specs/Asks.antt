-- Where a write begins, what it finds, and the offset behind it, by the tables of open files and what is kept of files.
use Rattle.block_counts.specs.declared.TheConstants.{LONGEST_FILE, LONGEST_WRITE}
use Rattle.std.specs.Prelude.{◌≡◌, ◌≤◌, ◌<◌, ◌+◌, ◌-◌, ◌^◌, ℕ, length, Option, Some, None, sum_by, unwrap_or, if◌then◌else◌}
use Rattle.open_files.specs.block_counts.Counts.{held_by, reserve_for}
use Rattle.file_table.specs.Files.{Files, size_in}
use Rattle.posix_types.specs.declared.call.Call.{Call}
use Rattle.posix_types.specs.declared.call.Mode.{Mode}
use Rattle.posix_types.specs.declared.call.Who.{Who}
use Rattle.posix_types.specs.declared.handle.Handle.{Handle}
use Rattle.posix_types.specs.declared.item.Outcome.{Outcome}
use Rattle.posix_tables.specs.declared.open.Description.{Description}
use Rattle.posix_tables.specs.Open.{key_of, may_write, opened, Tables, with_offset}
use Rattle.posix_tables.specs.Room.{write_need}
use Rattle.open_files.specs.posix_spec.FileRows.{appends, file_number, offset_of}
use Rattle.write_plan.specs.declared.asks.asking.Asked.{Asked}
use Rattle.write_plan.specs.declared.asks.asking.Target.{Target}
use Rattle.open_files.specs.declared.files.opened.Opened.{Opened}
use Rattle.write_plan.specs.Rows.{write_row_by}

-- ---- where it begins

-- at the end of a file that was opened with `a`, else at the offset
abbrev pub start_in : Tables → Files → Who → Handle → ℕ
start_in t files who h = if appends t who h then size_in files (file_number t who h) else offset_of t who h

-- or at a place that is given
abbrev pub start_at : Tables → Files → Who → Handle → Option ℕ → ℕ
start_at t files who h None = start_in t files who h
start_at t files who h (Some place) = place

-- the same by what a look-up finds
abbrev pub start_by : Files → Opened → Option ℕ → ℕ
start_by files o None = if o.flags.append then size_in files o.ino else o.offset
start_by files o (Some place) = place

-- ---- the offset behind it

-- the tables then: the offset of a `write` moves behind its bytes, that of a `pwrite` stays
abbrev pub moved_by : Tables → Files → Who → Call → Tables
moved_by t files who (Call.Write h x) = with_offset t (unwrap_or (key_of t who h) 0) (start_in t files who h + length x)
moved_by t files who call = t

-- The handle is open, and the offset behind so many bytes that are written there fits 64 bits.
pub record CanMove (t : Tables) (files : Files) (who : Who) (h : Handle) (len : ℕ) : Type 0 where
  pub file : Description
  pub known : opened t who h ≡ Some file
  pub below : file.node < length files.sizes
  pub fits : start_in t files who h + len < 2 ^ 64

abbrev pub CanMoveBy : Tables → Files → Who → Call → Type 0
CanMoveBy t files who (Call.Write h x) = CanMove t files who h (length x)
CanMoveBy t files who call = Unit {0}

-- ---- what it asks for

-- each open file has its line among those that are kept
abbrev pub HaveLines : Tables → Files → Type 0
HaveLines t files = (who : Who) (h : Handle) (d : Description) → opened t who h ≡ Some d → d.node < length files.sizes

-- how much room all files leave, in an image of so many data blocks
abbrev pub room_in : ℕ → Files → ℕ
room_in data_blocks files = data_blocks - reserve_for data_blocks - sum_by held_by files.sizes

-- the row that fits a write of so many bytes
abbrev pub row_in : Mode → Tables → Files → Who → Handle → Option ℕ → ℕ → ℕ → Option Outcome
row_in mode t files who h at len data_blocks = write_row_by mode (may_write t who h) (start_at t files who h at) len (size_in files (file_number t who h)) (room_in data_blocks files)

-- the blocks that it needs
abbrev pub need_in : Mode → Tables → Files → Who → Handle → Option ℕ → ℕ → ℕ
need_in mode t files who h at len = write_need mode (size_in files (file_number t who h)) (start_at t files who h at) (start_at t files who h at + len)

-- It is the file of the handle, with its size by what is staged, and the write begins there; the bytes end within the longest file.
pub record IsTarget (t : Tables) (files : Files) (who : Who) (h : Handle) (at : Option ℕ) (len : ℕ) (target : Target) : Type 0 where
  pub file : Description
  pub known : opened t who h ≡ Some file
  pub ino_is : target.ino ≡ file.node
  pub start_is : target.start ≡ start_at t files who h at
  pub size_is : target.size ≡ size_in files target.ino
  pub some : 1 ≤ len
  pub most : len ≤ LONGEST_WRITE
  pub fits : target.start + len ≤ LONGEST_FILE

-- the room that other writes leave, and the target
abbrev pub IsBeside : Mode → Target → ℕ → ℕ → ℕ → Asked → Type 0
IsBeside mode target len room needs (Asked.Answered outcome) = ⊥
IsBeside mode target len room needs (Asked.Full need left) = (need ≡ write_need mode target.size target.start (target.start + len)) × (left ≡ room - needs) × (left < need)
IsBeside mode target len room needs (Asked.Goes goal) = (write_need mode target.size target.start (target.start + len) ≤ room - needs) × (goal ≡ target)

-- WHAT A WRITE ASKS FOR, beside writes that are out and need so many blocks: the row that fits answers it; or no row fits, and the
-- others leave less than it needs; or it goes on to its target.
abbrev pub IsAsked : Mode → Tables → Files → Who → Handle → Option ℕ → ℕ → ℕ → ℕ → Asked → Type 0
IsAsked mode t files who h at len data_blocks needs (Asked.Answered outcome) = row_in mode t files who h at len data_blocks ≡ Some outcome
IsAsked mode t files who h at len data_blocks needs (Asked.Full need left) =
    (row_in mode t files who h at len data_blocks ≡ None) × (need ≡ need_in mode t files who h at len) × (left ≡ room_in data_blocks files - needs) × (left < need)
IsAsked mode t files who h at len data_blocks needs (Asked.Goes target) =
    (row_in mode t files who h at len data_blocks ≡ None) × (need_in mode t files who h at len ≤ room_in data_blocks files - needs) × IsTarget t files who h at len target
