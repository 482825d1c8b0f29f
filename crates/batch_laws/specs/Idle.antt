-- The calls of POSIX mode behind which K-Split and what is kept of files are as they were, each law as one statement.
use Rattle.std.specs.Prelude.{◌≡◌, ◌⊎◌, ℕ, true, false, List, [], ◌∷◌, ◌++◌, length, Option, Some}
use Rattle.eof_laws.specs.live_model.layout_model.Places.{Geometry}
use Rattle.eof_laws.specs.live_model.layout_model.declared.lines.Kind.TheVariants.{File}
use Rattle.eof_laws.specs.live_model.image_model.Volume.{inode}
use Rattle.eof_laws.specs.live_model.file_table.Files.{Files, size_in}
use Rattle.eof_laws.specs.live_model.k_split_model.View.{View}
use Rattle.eof_laws.specs.live_model.commute_laws.posix_types.declared.call.Call.{Call}
use Rattle.eof_laws.specs.live_model.commute_laws.posix_types.declared.call.Who.{Who}
use Rattle.eof_laws.specs.live_model.commute_laws.posix_types.declared.handle.Flags.{Flags}
use Rattle.eof_laws.specs.live_model.commute_laws.posix_types.declared.handle.Handle.{Handle}
use Rattle.eof_laws.specs.live_model.commute_laws.posix_types.declared.item.Item.{Item}
use Rattle.eof_laws.specs.live_model.commute_laws.posix_types.declared.item.Outcome.{Outcome}
use Rattle.eof_laws.specs.live_model.posix_tables.NameRows.{list_rows, mkdir_rows, open_rows, rename_rows, rmdir_rows, stat_rows, unlink_rows}
use Rattle.eof_laws.specs.live_model.posix_tables.Names.{exists_at, is_named}
use Rattle.eof_laws.specs.live_model.posix_tables.Nodes.{bytes_of, node_at, published_of}
use Rattle.eof_laws.specs.live_model.posix_tables.Open.{closed, is_full, is_open}
use Rattle.eof_laws.specs.live_model.posix_tables.Outcomes.{first}
use Rattle.eof_laws.specs.live_model.posix_spec.FileRows.{close_rows, dup_rows, file_number, fsync_rows, read_rows, seek_rows, truncate_rows, write_rows, write_start}
use Rattle.eof_laws.specs.live_model.posix_spec.Run.{after_call, begun, run}
use Rattle.eof_laws.specs.live_model.posix_spec.State.{alone, space, State}
use Rattle.eof_laws.specs.live_model.posix_spec.Step.{is_busy}
use Rattle.eof_laws.specs.live_model.world_model.Stands.{number}
use Rattle.batch_laws.specs.Changes.{PutsNone}
use Rattle.batch_laws.specs.Ready.{GoesReady}

-- A CALL BEHIND WHICH ALL NODES AND ENTRIES ARE AS THEY WERE, and which puts no byte: the device goes on as it is.
abbrev pub StillGoesOn : Type 0
StillGoesOn =
    (g : Geometry) (k : View) (files : Files) (count : ℕ) (numbers : List ℕ) (start : State) (history : List Item) (item : Item)
    → GoesReady g k files count numbers start history → PutsNone (run start history) item → (after_call (run start history) (begun item)).nodes ≡ (run start history).nodes
    → (after_call (run start history) (begun item)).entries ≡ (run start history).entries → GoesReady g k files count numbers start (history ++ item ∷ [])

-- ---- calls that only look

-- `stat`, `list`, `read`, `pread`, `seek` and `dup`
abbrev pub Looks : Call → Type 0
Looks (Call.Mkdir p) = ⊥
Looks (Call.Rmdir p) = ⊥
Looks (Call.Unlink p) = ⊥
Looks (Call.Rename p q) = ⊥
Looks (Call.Open h p f) = ⊥
Looks (Call.Close h) = ⊥
Looks (Call.Dup h g) = Unit {0}
Looks (Call.Read h n) = Unit {0}
Looks (Call.Pread h o n) = Unit {0}
Looks (Call.Write h x) = ⊥
Looks (Call.Pwrite h o x) = ⊥
Looks (Call.Seek h w by) = Unit {0}
Looks (Call.Truncate h n) = ⊥
Looks (Call.Fsync h) = ⊥
Looks (Call.Stat p) = Unit {0}
Looks (Call.List p) = Unit {0}

-- whatever they answer
abbrev pub LookGoesOn : Type 0
LookGoesOn =
    (g : Geometry) (k : View) (files : Files) (count : ℕ) (numbers : List ℕ) (start : State) (history : List Item) (item : Item)
    → GoesReady g k files count numbers start history → Looks item.call → GoesReady g k files count numbers start (history ++ item ∷ [])

-- an `open` of a file that is there, without `t`
abbrev pub OpenGoesOn : Type 0
OpenGoesOn =
    (g : Geometry) (k : View) (files : Files) (count : ℕ) (numbers : List ℕ) (start : State) (history : List Item) (item : Item) (h : Handle) (p : List (List ℕ)) (flags : Flags)
    → GoesReady g k files count numbers start history → item.call ≡ Call.Open h p flags → exists_at (space (run start history)) p ≡ true → flags.truncate ≡ false
    → GoesReady g k files count numbers start (history ++ item ∷ [])

-- a `close` of a file that has a name or is open still, all of which is published
abbrev pub CloseGoesOn : Type 0
CloseGoesOn =
    (g : Geometry) (k : View) (files : Files) (count : ℕ) (numbers : List ℕ) (start : State) (history : List Item) (item : Item) (h : Handle) (n : ℕ)
    → GoesReady g k files count numbers start history → item.call ≡ Call.Close h → file_number (run start history).tables item.who h ≡ n
    → (is_named (run start history).entries n ≡ true) ⊎ (is_open (closed (run start history).tables item.who h) n ≡ true)
    → published_of (node_at (run start history).nodes n) ≡ length (bytes_of (node_at (run start history).nodes n)) → GoesReady g k files count numbers start (history ++ item ∷ [])

-- The published length of a file is the size in its inode line, and its length the one that is kept.
abbrev pub LengthsAreKept : Type 0
LengthsAreKept =
    (g : Geometry) (k : View) (files : Files) (count : ℕ) (numbers : List ℕ) (start : State) (history : List Item) (ino : ℕ)
    → GoesReady g k files count numbers start history → (inode k.volume ino).kind ≡ File
    → (published_of (node_at (run start history).nodes (number numbers ino)) ≡ (inode k.volume ino).size)
    × (length (bytes_of (node_at (run start history).nodes (number numbers ino))) ≡ size_in files ino)

-- ---- calls that a row refuses

-- the row that a call meets
abbrev pub row_met : State → Who → Call → Option Outcome
row_met s who (Call.Mkdir p) = first (mkdir_rows (space s) p)
row_met s who (Call.Rmdir p) = first (rmdir_rows (space s) p)
row_met s who (Call.Unlink p) = first (unlink_rows (space s) p)
row_met s who (Call.Rename p q) = first (rename_rows (space s) p q)
row_met s who (Call.Open h p f) = first (open_rows (space s) (is_full s.tables) (is_busy alone s p) p f)
row_met s who (Call.Close h) = first (close_rows s.tables who h)
row_met s who (Call.Dup h g) = first (dup_rows s.tables who h)
row_met s who (Call.Read h n) = first (read_rows s.tables who h)
row_met s who (Call.Pread h o n) = first (read_rows s.tables who h)
row_met s who (Call.Write h x) = first (write_rows s who h (write_start s who h) x)
row_met s who (Call.Pwrite h o x) = first (write_rows s who h o x)
row_met s who (Call.Seek h w by) = first (seek_rows s who h w by)
row_met s who (Call.Truncate h n) = first (truncate_rows s who h n)
row_met s who (Call.Fsync h) = first (fsync_rows s.tables who h)
row_met s who (Call.Stat p) = first (stat_rows (space s) p)
row_met s who (Call.List p) = first (list_rows (space s) p)

-- a call that a row answers, a rename from a path to itself and a write of no byte among them
abbrev pub RefusalGoesOn : Type 0
RefusalGoesOn =
    (g : Geometry) (k : View) (files : Files) (count : ℕ) (numbers : List ℕ) (start : State) (history : List Item) (item : Item) (outcome : Outcome)
    → GoesReady g k files count numbers start history → row_met (run start history) item.who item.call ≡ Some outcome → item.reply ≡ outcome.reply
    → GoesReady g k files count numbers start (history ++ item ∷ [])
