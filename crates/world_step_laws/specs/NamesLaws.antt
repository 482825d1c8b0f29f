-- The laws of the changes of names and nodes, each as one statement. `IsWorld v claims jobs f numbers s count`: the World is
-- valid, `count` nodes were made since the lap began, and `numbers` has the node of each inode.
use Rattle.std.specs.Prelude.{◌≡◌, ◌⊎◌, ◌<◌, ◌+◌, ◌^◌, ℕ, true, false, List, length, None, Some}
use Rattle.volume_change_laws.specs.pm_model.Words.{Words}
use Rattle.volume_change_laws.specs.layout_model.declared.lines.Draft.{Draft}
use Rattle.volume_change_laws.specs.layout_model.declared.lines.Kind.TheVariants.{Directory, File}
use Rattle.volume_change_laws.specs.layout_model.Lines.{is_name}
use Rattle.volume_change_laws.specs.layout_model.Names.{free_line}
use Rattle.volume_change_laws.specs.image_model.Volume.{inode, Volume}
use Rattle.volume_change_laws.specs.k_split_model.ChangesChanges.{dropped, made, removed, renamed, renamed_over_directory, renamed_over_file, unnamed}
use Rattle.volume_change_laws.specs.k_split_model.Spaces.{volume_space}
use Rattle.volume_change_laws.specs.CallLaws.{row_to}
use Rattle.volume_change_laws.specs.FoundLaws.{IsLowestFree}
use Rattle.world_model.specs.name_laws.Paths.{CanReplace, IsNewAt, MayGo}
use Rattle.commute_laws.specs.posix_types.declared.call.Call.{Call}
use Rattle.commute_laws.specs.posix_types.declared.call.Who.{Who}
use Rattle.commute_laws.specs.posix_types.declared.handle.Flags.{Flags}
use Rattle.commute_laws.specs.posix_types.declared.handle.Handle.{Handle}
use Rattle.commute_laws.specs.posix_tables.NameRows.{mkdir_rows, open_rows, rename_rows, rmdir_rows, unlink_rows}
use Rattle.commute_laws.specs.posix_tables.Names.{exists_at, has_entries as has_entries_in, is_named, last_name}
use Rattle.commute_laws.specs.posix_tables.Open.{closed, is_full, is_open}
use Rattle.commute_laws.specs.posix_tables.Outcomes.{first}
use Rattle.commute_laws.specs.posix_spec.FileRows.{close_rows, file_number}
use Rattle.commute_laws.specs.posix_spec.Run.{after_call}
use Rattle.commute_laws.specs.posix_spec.State.{alone, space, State, unnamed as unnamed_state}
use Rattle.commute_laws.specs.posix_spec.Step.{is_busy, renamed as renamed_state}
use Rattle.world_model.specs.Jobs.{Job}
use Rattle.world_model.specs.Stands.{number}
use Rattle.world_step_laws.specs.Makers.{renumbered}
use Rattle.world_step_laws.specs.Nameless.{IsNameless}
use Rattle.world_step_laws.specs.Steps.{LetsJobsBe}
use Rattle.world_step_laws.specs.Worlds.{IsFound, IsIdle, IsWorld}

-- `mkdir`
abbrev pub KeepsMkdir : Type 0
KeepsMkdir =
    (v : Volume) (claims : List (ℕ × Draft)) (jobs : List Job) (f : Words) (numbers : List ℕ) (s : State)
    (count : ℕ) (who : Who) (p : List (List ℕ)) (parent ino line : ℕ)
    → IsWorld v claims jobs f numbers s count → count + 1 < 2 ^ 31 → LetsJobsBe s (who, Call.Mkdir p) numbers jobs
    → first (mkdir_rows (volume_space v) p) ≡ None → IsNewAt (volume_space v) p parent → IsLowestFree v.inodes ino
    → free_line v.names ≡ Some line → is_name (last_name p) ≡ true
    → IsWorld (made Directory ino line (row_to p parent ino) v) claims jobs f (renumbered numbers ino (length s.nodes)) (after_call s (who, Call.Mkdir p)) (count + 1)

-- an `open` that makes the file
abbrev pub KeepsCreated : Type 0
KeepsCreated =
    (v : Volume) (claims : List (ℕ × Draft)) (jobs : List Job) (f : Words) (numbers : List ℕ) (s : State)
    (count : ℕ) (who : Who) (h : Handle) (p : List (List ℕ)) (flags : Flags) (parent ino line : ℕ)
    → IsWorld v claims jobs f numbers s count → count + 1 < 2 ^ 31
    → LetsJobsBe s (who, Call.Open h p flags) numbers jobs
    → first (open_rows (volume_space v) (is_full s.tables) (is_busy alone s p) p flags) ≡ None
    → IsNewAt (volume_space v) p parent → IsLowestFree v.inodes ino → free_line v.names ≡ Some line
    → is_name (last_name p) ≡ true
    → IsWorld (made File ino line (row_to p parent ino) v) claims jobs f (renumbered numbers ino (length s.nodes)) (after_call s (who, Call.Open h p flags)) (count + 1)

-- `unlink` of a file that is open, which stays
abbrev pub KeepsUnlinkOpen : Type 0
KeepsUnlinkOpen =
    (v : Volume) (claims : List (ℕ × Draft)) (jobs : List Job) (f : Words) (numbers : List ℕ) (s : State)
    (count : ℕ) (who : Who) (p : List (List ℕ)) (parent line child : ℕ)
    → IsWorld v claims jobs f numbers s count → LetsJobsBe s (who, Call.Unlink p) numbers jobs
    → IsFound v p parent line child → (volume_space v).directory child ≡ false
    → first (unlink_rows (volume_space v) p) ≡ None → is_open s.tables (number numbers child) ≡ true
    → IsWorld (unnamed line v) claims jobs f numbers (after_call s (who, Call.Unlink p)) count

-- `unlink` of a file that nobody has open: where its name is gone and the file is not yet, the volume stands for the state without the name
abbrev pub KeepsUnlinkMidway : Type 0
KeepsUnlinkMidway =
    (v : Volume) (claims : List (ℕ × Draft)) (jobs : List Job) (f : Words) (numbers : List ℕ) (s : State)
    (count : ℕ) (p : List (List ℕ)) (parent line child : ℕ)
    → IsWorld v claims jobs f numbers s count → IsFound v p parent line child
    → (volume_space v).directory child ≡ false
    → IsWorld (unnamed line v) claims jobs f numbers (unnamed_state s p) count

-- and then the file goes
abbrev pub KeepsUnlinkClosed : Type 0
KeepsUnlinkClosed =
    (v : Volume) (claims : List (ℕ × Draft)) (jobs : List Job) (f : Words) (numbers : List ℕ) (s : State)
    (count : ℕ) (who : Who) (p : List (List ℕ)) (parent line child : ℕ)
    → IsWorld v claims jobs f numbers s count → LetsJobsBe s (who, Call.Unlink p) numbers jobs
    → IsFound v p parent line child → (volume_space v).directory child ≡ false
    → first (unlink_rows (volume_space v) p) ≡ None → is_open s.tables (number numbers child) ≡ false
    → IsWorld (dropped child (unnamed line v)) claims jobs f numbers (after_call s (who, Call.Unlink p)) count

-- `rmdir`
abbrev pub KeepsRmdir : Type 0
KeepsRmdir =
    (v : Volume) (claims : List (ℕ × Draft)) (jobs : List Job) (f : Words) (numbers : List ℕ) (s : State)
    (count : ℕ) (who : Who) (p : List (List ℕ)) (parent line child : ℕ)
    → IsWorld v claims jobs f numbers s count → LetsJobsBe s (who, Call.Rmdir p) numbers jobs
    → IsFound v p parent line child → (volume_space v).directory child ≡ true
    → has_entries_in (volume_space v).entries child ≡ false → first (rmdir_rows (volume_space v) p) ≡ None
    → IsWorld (removed line child v) claims jobs f numbers (after_call s (who, Call.Rmdir p)) count

-- `rename` to a path where nothing stands
abbrev pub KeepsRenamed : Type 0
KeepsRenamed =
    (v : Volume) (claims : List (ℕ × Draft)) (jobs : List Job) (f : Words) (numbers : List ℕ) (s : State)
    (count : ℕ) (who : Who) (p q : List (List ℕ)) (from line child to : ℕ)
    → IsWorld v claims jobs f numbers s count → LetsJobsBe s (who, Call.Rename p q) numbers jobs
    → first (rename_rows (volume_space v) p q) ≡ None → IsFound v p from line child
    → MayGo (volume_space v) p q from child to → IsNewAt (volume_space v) q to → is_name (last_name q) ≡ true
    → IsWorld (renamed line (row_to q to child) v) claims jobs f numbers (after_call s (who, Call.Rename p q)) count

-- `rename` over a file that is open, which stays
abbrev pub KeepsRenameOpen : Type 0
KeepsRenameOpen =
    (v : Volume) (claims : List (ℕ × Draft)) (jobs : List Job) (f : Words) (numbers : List ℕ) (s : State)
    (count : ℕ) (who : Who) (p q : List (List ℕ)) (from line child to target ino : ℕ)
    → IsWorld v claims jobs f numbers s count → LetsJobsBe s (who, Call.Rename p q) numbers jobs
    → first (rename_rows (volume_space v) p q) ≡ None → IsFound v p from line child
    → MayGo (volume_space v) p q from child to → IsFound v q to target ino → CanReplace (volume_space v) child ino
    → (volume_space v).directory child ≡ false → is_name (last_name q) ≡ true
    → is_open s.tables (number numbers ino) ≡ true
    → IsWorld (renamed_over_file line (row_to q to child) target v) claims jobs f numbers (after_call s (who, Call.Rename p q)) count

-- `rename` over a file that nobody has open: where its name is gone and the file is not yet
abbrev pub KeepsRenameMidway : Type 0
KeepsRenameMidway =
    (v : Volume) (claims : List (ℕ × Draft)) (jobs : List Job) (f : Words) (numbers : List ℕ) (s : State)
    (count : ℕ) (p q : List (List ℕ)) (from line child to target ino : ℕ)
    → IsWorld v claims jobs f numbers s count → IsFound v p from line child → MayGo (volume_space v) p q from child to
    → IsFound v q to target ino → CanReplace (volume_space v) child ino → (volume_space v).directory child ≡ false
    → is_name (last_name q) ≡ true
    → IsWorld (renamed_over_file line (row_to q to child) target v) claims jobs f numbers (record s { entries = (renamed_state s p q).entries }) count

-- and then the file goes
abbrev pub KeepsRenameClosed : Type 0
KeepsRenameClosed =
    (v : Volume) (claims : List (ℕ × Draft)) (jobs : List Job) (f : Words) (numbers : List ℕ) (s : State)
    (count : ℕ) (who : Who) (p q : List (List ℕ)) (from line child to target ino : ℕ)
    → IsWorld v claims jobs f numbers s count → LetsJobsBe s (who, Call.Rename p q) numbers jobs
    → first (rename_rows (volume_space v) p q) ≡ None → IsFound v p from line child
    → MayGo (volume_space v) p q from child to → IsFound v q to target ino → CanReplace (volume_space v) child ino
    → (volume_space v).directory child ≡ false → is_name (last_name q) ≡ true
    → is_open s.tables (number numbers ino) ≡ false
    → IsWorld (dropped ino (renamed_over_file line (row_to q to child) target v)) claims jobs f numbers (after_call s (who, Call.Rename p q)) count

-- `rename` over an empty directory, which goes
abbrev pub KeepsRenameDirectory : Type 0
KeepsRenameDirectory =
    (v : Volume) (claims : List (ℕ × Draft)) (jobs : List Job) (f : Words) (numbers : List ℕ) (s : State)
    (count : ℕ) (who : Who) (p q : List (List ℕ)) (from line child to target ino : ℕ)
    → IsWorld v claims jobs f numbers s count → LetsJobsBe s (who, Call.Rename p q) numbers jobs
    → first (rename_rows (volume_space v) p q) ≡ None → IsFound v p from line child
    → MayGo (volume_space v) p q from child to → IsFound v q to target ino → CanReplace (volume_space v) child ino
    → (volume_space v).directory child ≡ true → is_name (last_name q) ≡ true
    → IsWorld (renamed_over_directory line (row_to q to child) target ino v) claims jobs f numbers (after_call s (who, Call.Rename p q)) count

-- the calls that change tables and published lengths alone
abbrev pub KeepsIdle : Type 0
KeepsIdle =
    (v : Volume) (claims : List (ℕ × Draft)) (jobs : List Job) (f : Words) (numbers : List ℕ) (s : State)
    (count : ℕ) (who : Who) (call : Call)
    → IsWorld v claims jobs f numbers s count → LetsJobsBe s (who, call) numbers jobs → IsIdle call
    → IsWorld v claims jobs f numbers (after_call s (who, call)) count

-- an `open` of a file that is there, and is not cut
abbrev pub KeepsOpened : Type 0
KeepsOpened =
    (v : Volume) (claims : List (ℕ × Draft)) (jobs : List Job) (f : Words) (numbers : List ℕ) (s : State)
    (count : ℕ) (who : Who) (h : Handle) (p : List (List ℕ)) (flags : Flags)
    → IsWorld v claims jobs f numbers s count → LetsJobsBe s (who, Call.Open h p flags) numbers jobs
    → exists_at (space s) p ≡ true → flags.truncate ≡ false
    → IsWorld v claims jobs f numbers (after_call s (who, Call.Open h p flags)) count

-- a `close` of a file that has a name, or is open still
abbrev pub KeepsClosed : Type 0
KeepsClosed =
    (v : Volume) (claims : List (ℕ × Draft)) (jobs : List Job) (f : Words) (numbers : List ℕ) (s : State)
    (count : ℕ) (who : Who) (h : Handle)
    → IsWorld v claims jobs f numbers s count → LetsJobsBe s (who, Call.Close h) numbers jobs
    → first (close_rows s.tables who h) ≡ None
    → (is_named s.entries (file_number s.tables who h) ≡ true) ⊎ (is_open (closed s.tables who h) (file_number s.tables who h) ≡ true)
    → IsWorld v claims jobs f numbers (after_call s (who, Call.Close h)) count

-- the last `close` of a file without a name, which goes
abbrev pub KeepsCloseGone : Type 0
KeepsCloseGone =
    (v : Volume) (claims : List (ℕ × Draft)) (jobs : List Job) (f : Words) (numbers : List ℕ) (s : State)
    (count : ℕ) (who : Who) (h : Handle) (c : ℕ)
    → IsWorld v claims jobs f numbers s count → LetsJobsBe s (who, Call.Close h) numbers jobs
    → first (close_rows s.tables who h) ≡ None → (inode v c).kind ≡ File
    → number numbers c ≡ file_number s.tables who h → IsNameless v.names c
    → is_open (closed s.tables who h) (file_number s.tables who h) ≡ false
    → IsWorld (dropped c v) claims jobs f numbers (after_call s (who, Call.Close h)) count
