-- A state with each file cut to its published length, as a commit of POSIX mode leaves it; and which calls do to it what they do to
-- the state: those of names.
use Rattle.std.specs.Prelude.{◌≡◌, ◌⊎◌, ℕ, Bool, false, ◌||◌, map, take}
use Rattle.posix_spec.specs.posix_types.declared.call.Call.{Call}
use Rattle.posix_spec.specs.posix_types.declared.call.Who.{Who}
use Rattle.posix_spec.specs.posix_types.declared.handle.Handle.{Handle}
use Rattle.posix_spec.specs.posix_tables.declared.nodes.Node.{Node}
use Rattle.posix_spec.specs.posix_tables.Names.{exists_at, is_named}
use Rattle.posix_spec.specs.posix_tables.Open.{closed, is_open}
use Rattle.posix_spec.specs.FileRows.{file_number}
use Rattle.posix_spec.specs.Run.{after_call, Unfinished}
use Rattle.posix_spec.specs.State.{alone, space, State, swept}

-- a file has the bytes up to its published length
abbrev pub cut_node : Node → Node
cut_node Node.Gone = Node.Gone
cut_node Node.Directory = Node.Directory
cut_node (Node.File file) = Node.File (record file { bytes = take file.published file.bytes })

-- THE STATE THAT WOULD BE COMMITTED: each file is cut to its published length.
abbrev pub cut_of : State → State
cut_of s = record s { nodes = map cut_node s.nodes }

-- behind a close of this handle its file is without a name and not open: it goes
abbrev pub goes_behind : State → Who → Handle → Bool
goes_behind s who h = is_named s.entries (file_number s.tables who h) || is_open (closed s.tables who h) (file_number s.tables who h)

-- A CALL OF NAMES: it makes, takes or moves a name, opens a file and does not cut it, or is a close behind which the file goes.
abbrev pub IsNaming : State → Who → Call → Type 0
IsNaming s who (Call.Mkdir p) = Unit {0}
IsNaming s who (Call.Rmdir p) = Unit {0}
IsNaming s who (Call.Unlink p) = Unit {0}
IsNaming s who (Call.Rename p q) = Unit {0}
IsNaming s who (Call.Open h p f) = (exists_at (space s) p ≡ false) ⊎ (f.truncate ≡ false)
IsNaming s who (Call.Close h) = goes_behind s who h ≡ false
IsNaming s who call = ⊥

abbrev pub IsOfNames : State → Unfinished → Type 0
IsOfNames s c = IsNaming s c.0 c.1

-- Such a call does to the cut state what it does to the state. (Its rows look at names, kinds and open files alone; a file that is
-- made has no byte, and one that goes has none.)
abbrev pub CutCommutes : Type 0
CutCommutes = (s : State) (c : Unfinished) → IsOfNames s c → cut_of (after_call s c) ≡ after_call (cut_of s) c

-- And so does what sweeps a file that nothing names and nobody has open.
abbrev pub CutSweeps : Type 0
CutSweeps = (s : State) (n : ℕ) → cut_of (swept alone s n) ≡ swept alone (cut_of s) n
