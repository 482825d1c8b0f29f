-- What a write asks for by numbers is what its call does in a state with these tables and sizes, each law as one statement.
use Rattle.std.specs.Prelude.{◌≡◌, ◌<◌, ℕ, true, List, length, Option, Some, None}
use Rattle.file_table.specs.Files.{Files, size_in}
use Rattle.open_files.specs.Numbered.{numbered_as}
use Rattle.posix_types.specs.declared.call.Call.{Call}
use Rattle.posix_types.specs.declared.call.Who.{Who}
use Rattle.posix_types.specs.declared.handle.Handle.{Handle}
use Rattle.posix_tables.specs.Nodes.{bytes_of, node_at}
use Rattle.posix_tables.specs.Open.{is_open, may_write, Tables}
use Rattle.posix_tables.specs.Outcomes.{first}
use Rattle.open_files.specs.posix_laws.Views.{need_of}
use Rattle.open_files.specs.posix_spec.FileRows.{write_rows, write_start}
use Rattle.open_files.specs.posix_spec.Put.{Put, put_by}
use Rattle.open_files.specs.posix_spec.Run.{after_call}
use Rattle.open_files.specs.posix_spec.State.{room, State}
use Rattle.write_plan.specs.Asks.{CanMoveBy, moved_by, need_in, room_in, row_in, start_at}

-- The tables and the file table are those of the state, of which f says the node of each inode: open files have the sizes that are
-- kept.
pub record AreOfState (s : State) (f : ℕ → ℕ) (t : Tables) (files : Files) : Type 0 where
  pub tables : s.tables ≡ numbered_as f t
  pub sizes : (ino : ℕ) → is_open t ino ≡ true → length (bytes_of (node_at s.nodes (f ino))) ≡ size_in files ino

-- a write at the place of the handle, or at a given one, and where it begins
abbrev pub call_of : Handle → Option ℕ → List ℕ → Call
call_of h None x = Call.Write h x
call_of h (Some place) x = Call.Pwrite h place x

abbrev pub start_of : State → Who → Handle → Option ℕ → ℕ
start_of s who h None = write_start s who h
start_of s who h (Some place) = place

-- It begins where the call does;
abbrev pub StartsAsCall : Type 0
StartsAsCall =
    (s : State) (f : ℕ → ℕ) (t : Tables) (files : Files) (who : Who) (h : Handle) (at : Option ℕ) → AreOfState s f t files → may_write s.tables who h ≡ true
    → start_of s who h at ≡ start_at t files who h at

-- the row is the one that fits the call, whatever the handle stands for, where the room is that of the state;
abbrev pub RowsAsCall : Type 0
RowsAsCall =
    (s : State) (f : ℕ → ℕ) (t : Tables) (files : Files) (who : Who) (h : Handle) (at : Option ℕ) (x : List ℕ) (data_blocks : ℕ) → AreOfState s f t files → room s ≡ room_in data_blocks files
    → first (write_rows s who h (start_of s who h at) x) ≡ row_in s.mode t files who h at (length x) data_blocks

-- it needs what the call needs;
abbrev pub NeedsAsCall : Type 0
NeedsAsCall =
    (s : State) (f : ℕ → ℕ) (t : Tables) (files : Files) (who : Who) (h : Handle) (at : Option ℕ) (x : List ℕ) → AreOfState s f t files → may_write s.tables who h ≡ true
    → need_of s who (call_of h at x) ≡ need_in s.mode t files who h at (length x)

-- and where the call puts something, the tables behind it are those with the moved offset, which may be moved.
abbrev pub MovesAsCall : Type 0
MovesAsCall =
    (s : State) (f : ℕ → ℕ) (t : Tables) (files : Files) (who : Who) (call : Call) (p : Put) → AreOfState s f t files → put_by s who call ≡ Some p
    → (after_call s (who, call)).tables ≡ numbered_as f (moved_by t files who call)

abbrev pub MayMove : Type 0
MayMove =
    (s : State) (f : ℕ → ℕ) (t : Tables) (files : Files) (who : Who) (call : Call) (p : Put) → AreOfState s f t files → ((ino : ℕ) → is_open t ino ≡ true → ino < length files.sizes) → put_by s who call ≡ Some p
    → CanMoveBy t files who call

-- No file is opened or closed by it.
abbrev pub OpensNothing : Type 0
OpensNothing = (t : Tables) (files : Files) (who : Who) (call : Call) (ino : ℕ) → is_open (moved_by t files who call) ino ≡ is_open t ino
