-- What each call does: the first of its rows that fits gives the outcome and changes nothing, and where none fits the last row acts.
use Rattle.std.specs.Prelude.{◌≡◌, ℕ, Bool, ◌+◌, ◌&&◌, List, [], length, Option, Some, None, unwrap_or, ℤ, if◌then◌else◌}
use Rattle.posix_types.specs.declared.item.Outcome.{Outcome}
use Rattle.posix_types.specs.declared.call.Who.{Who}
use Rattle.posix_types.specs.declared.call.Call.{Call}
use Rattle.posix_types.specs.declared.handle.Handle.{Handle}
use Rattle.posix_types.specs.declared.handle.Flags.{Flags}
use Rattle.posix_types.specs.declared.handle.Whence.{Whence}
use Rattle.posix_types.specs.declared.reply.Reply.{Reply}
use Rattle.posix_types.specs.declared.reply.Stat.{Stat}
use Rattle.posix_tables.specs.declared.nodes.Node.{Node}
use Rattle.posix_tables.specs.declared.nodes.DirEntry.{DirEntry}
use Rattle.posix_tables.specs.declared.open.Description.{Description}
use Rattle.posix_tables.specs.Open.{closed, is_full, key_of, next_descriptor, with_descriptor, with_offset, with_opened}
use Rattle.posix_tables.specs.Nodes.{node_at, published_of}
use Rattle.posix_tables.specs.Names.{directory_stands, exists_at, file_stands, last_name, names_in, number_at, parent_at, with_entry, without_entry}
use Rattle.posix_tables.specs.Bytes.{bytes_from, overwritten, resized}
use Rattle.posix_spec.specs.State.{alone, Instance, made, space, State, swept, unnamed, with_file, with_node, with_published}
use Rattle.posix_tables.specs.Outcomes.{answer, first}
use Rattle.posix_tables.specs.NameRows.{list_rows, mkdir_rows, open_rows, rename_rows, rmdir_rows, stat_rows, unlink_rows}
use Rattle.posix_spec.specs.FileRows.{close_rows, content, dup_rows, file_number, fsync_rows, offset_of, read_rows, seek_rows, seek_target, truncate_rows, write_rows, write_start}

-- the state after a call, and what the call answered
pub record Stepped : Type 0 where
  pub state : State
  pub outcome : Outcome

-- the last row of a call
abbrev pub done : State → Reply → Stepped
done s reply = record { state = s; outcome = answer reply }

-- the outcome of the row that fits, with the state as it is, or else the last row
abbrev pub stepped : State → Option Outcome → Stepped → Stepped
stepped s (Some outcome) last = record { state = s; outcome = outcome }
stepped s None last = last

-- a call with these rows and this last row takes a state to a state with an outcome
abbrev pub Gives : State → List (Option Outcome) → Stepped → State → Outcome → Type 0
Gives old rows last new outcome = record { state = new; outcome = outcome } ≡ stepped old (first rows) last

-- Names.

-- an empty directory is made
unfoldable pub mkdir_done : State → List (List ℕ) → Stepped
mkdir_done s p = done (made s p Node.Directory) Reply.Ok

-- name and node go
unfoldable pub rmdir_done : State → List (List ℕ) → Stepped
rmdir_done s p = done (with_node (unnamed s p) (number_at (space s) p) Node.Gone) Reply.Ok

-- the name goes; the file stays while it has a further name or a description
unfoldable pub unlink_done : Instance → State → List (List ℕ) → Stepped
unlink_done i s p = done (swept i (unnamed s p) (number_at (space s) p)) Reply.Ok

-- Q's entry, if there is one, and P's are gone, and Q leads to P's node
unfoldable pub renamed : State → List (List ℕ) → List (List ℕ) → State
renamed s p q =
    let moved : DirEntry = record { parent = parent_at (space s) q; name = last_name q; child = number_at (space s) p } in
    record s { entries = with_entry (without_entry (unnamed s p).entries moved.parent moved.name) moved }

-- what stood at Q loses this name: a directory goes, and a file stays while it has a further name or a description
unfoldable pub rename_done : Instance → State → List (List ℕ) → List (List ℕ) → Stepped
rename_done i s p q =
    done (if directory_stands (space s) q then with_node (renamed s p q) (number_at (space s) q) Node.Gone
    else if file_stands (space s) q then swept i (renamed s p q) (number_at (space s) q)
    else renamed s p q) Reply.Ok

-- Open files.

abbrev pub empty_file : Node
empty_file = Node.File (record { bytes = []; published = 0 })

-- the file is made empty where it was missing, and cut to 0 where the flags say so
unfoldable pub opening : State → List (List ℕ) → Bool → State
opening s p truncate =
    if exists_at (space s) p then (if truncate then with_node s (number_at (space s) p) empty_file else s)
    else made s p empty_file

-- P is a file that another instance has open
abbrev pub is_busy : Instance → State → List (List ℕ) → Bool
is_busy i s p = i.open_elsewhere (number_at (space s) p) && file_stands (space s) p

-- the number of the file that is opened: a new one where it was missing
abbrev pub opening_number : State → List (List ℕ) → ℕ
opening_number s p = if exists_at (space s) p then number_at (space s) p else length s.nodes

-- a new description with offset 0 has the lowest free descriptor
unfoldable pub open_done : State → Who → Handle → List (List ℕ) → Flags → Stepped
open_done s who h p f =
    let description : Description = record { node = opening_number s p; offset = 0; flags = f } in
    done (record (opening s p f.truncate) { tables = with_opened s.tables who h description }) (Reply.Fd (next_descriptor s.tables))

-- the length is published; handle and descriptor go, a description with its last descriptor, and a file without name and description
unfoldable pub close_done : Instance → State → Who → Handle → Stepped
close_done i s who h =
    let file : ℕ = file_number s.tables who h in
    done (swept i (record (with_published s file) { tables = closed s.tables who h }) file) Reply.Ok

-- the lowest free descriptor has the same description
unfoldable pub dup_done : State → Who → Handle → Handle → Stepped
dup_done s who h g =
    done (record s { tables = with_descriptor s.tables who g (unwrap_or (key_of s.tables who h) 0) }) (Reply.Fd (next_descriptor s.tables))

-- the description of a handle has another offset
abbrev pub moved_offset : State → Who → Handle → ℕ → State
moved_offset s who h offset = record s { tables = with_offset s.tables (unwrap_or (key_of s.tables who h) 0) offset }

-- the offset rises by the number of the bytes that are read
unfoldable pub read_done : State → Who → Handle → ℕ → Stepped
read_done s who h n =
    let bytes : List ℕ = bytes_from (content s who h) (offset_of s.tables who h) n in
    done (moved_offset s who h (offset_of s.tables who h + length bytes)) (Reply.Bytes bytes)

-- the offset stays
unfoldable pub pread_done : State → Who → Handle → ℕ → ℕ → Stepped
pread_done s who h place n = done s (Reply.Bytes (bytes_from (content s who h) place n))

-- the bytes are set from a start on, a gap being filled with zeros; the published length stays, unless the write publishes
unfoldable pub written : Instance → State → Who → Handle → ℕ → List ℕ → State
written i s who h start x =
    let file : ℕ = file_number s.tables who h in
    let bytes : List ℕ = overwritten (content s who h) start x in
    with_file s file bytes (if i.write_publishes then length bytes else published_of (node_at s.nodes file))

-- the offset becomes start plus length
unfoldable pub write_done : Instance → State → Who → Handle → List ℕ → Stepped
write_done i s who h x =
    done (moved_offset (written i s who h (write_start s who h) x) who h (write_start s who h + length x)) (Reply.Count (length x))

-- the offset stays
unfoldable pub pwrite_done : Instance → State → Who → Handle → ℕ → List ℕ → Stepped
pwrite_done i s who h start x = done (written i s who h start x) (Reply.Count (length x))

-- the offset is set
unfoldable pub seek_done : State → Who → Handle → Whence → ℤ → Stepped
seek_done s who h w i =
    let place : ℕ = unwrap_or (seek_target s who h w i) 0 in
    done (moved_offset s who h place) (Reply.Offset place)

-- the file is cut, or lengthened with zeros, and its length published; offsets stay
unfoldable pub truncate_done : State → Who → Handle → ℕ → Stepped
truncate_done s who h n = done (with_file s (file_number s.tables who h) (resized (content s who h) n) n) Reply.Ok

-- the length is published
unfoldable pub fsync_done : State → Who → Handle → Stepped
fsync_done s who h = done (with_published s (file_number s.tables who h)) Reply.Ok

-- what `stat` says of a node
abbrev pub stat_of : Node → Stat
stat_of Node.Gone = Stat.Directory
stat_of Node.Directory = Stat.Directory
stat_of (Node.File file) = Stat.File (length file.bytes)

unfoldable pub stat_done : State → List (List ℕ) → Stepped
stat_done s p = done s (Reply.Stat (stat_of (node_at s.nodes (number_at (space s) p))))

-- the names in byte order
unfoldable pub list_done : State → List (List ℕ) → Stepped
list_done s p = done s (Reply.Names (names_in s.entries (number_at (space s) p)))

-- the meaning of a call of an instance, whose tables and mode the state has
abbrev pub step_of : Instance → State → Who → Call → Stepped
step_of i s who (Call.Mkdir p) = stepped s (first (mkdir_rows (space s) p)) (mkdir_done s p)
step_of i s who (Call.Rmdir p) = stepped s (first (rmdir_rows (space s) p)) (rmdir_done s p)
step_of i s who (Call.Unlink p) = stepped s (first (unlink_rows (space s) p)) (unlink_done i s p)
step_of i s who (Call.Rename p q) = stepped s (first (rename_rows (space s) p q)) (rename_done i s p q)
step_of i s who (Call.Open h p f) = stepped s (first (open_rows (space s) (is_full s.tables) (is_busy i s p) p f)) (open_done s who h p f)
step_of i s who (Call.Close h) = stepped s (first (close_rows s.tables who h)) (close_done i s who h)
step_of i s who (Call.Dup h g) = stepped s (first (dup_rows s.tables who h)) (dup_done s who h g)
step_of i s who (Call.Read h n) = stepped s (first (read_rows s.tables who h)) (read_done s who h n)
step_of i s who (Call.Pread h o n) = stepped s (first (read_rows s.tables who h)) (pread_done s who h o n)
step_of i s who (Call.Write h x) = stepped s (first (write_rows s who h (write_start s who h) x)) (write_done i s who h x)
step_of i s who (Call.Pwrite h o x) = stepped s (first (write_rows s who h o x)) (pwrite_done i s who h o x)
step_of i s who (Call.Seek h w by) = stepped s (first (seek_rows s who h w by)) (seek_done s who h w by)
step_of i s who (Call.Truncate h n) = stepped s (first (truncate_rows s who h n)) (truncate_done s who h n)
step_of i s who (Call.Fsync h) = stepped s (first (fsync_rows s.tables who h)) (fsync_done s who h)
step_of i s who (Call.Stat p) = stepped s (first (stat_rows (space s) p)) (stat_done s p)
step_of i s who (Call.List p) = stepped s (first (list_rows (space s) p)) (list_done s p)

-- the meaning of a call where there is one instance
abbrev pub step : State → Who → Call → Stepped
step s who call = step_of alone s who call
