-- The calls of names of POSIX mode that gather with no commit, each law as one statement: the device goes on behind the call.
use Rattle.std.specs.Prelude.{◌≡◌, ◌<◌, ◌+◌, ◌^◌, ℕ, true, false, List, [], ◌∷◌, ◌++◌, length, Option, Some, None}
use Rattle.eof_laws.specs.live_model.layout_model.Places.{Geometry}
use Rattle.eof_laws.specs.live_model.image_model.Volume.{Volume}
use Rattle.eof_laws.specs.live_model.file_table.Files.{ChangesFile, Files}
use Rattle.eof_laws.specs.live_model.k_split_model.ChangesChanges.{dropped}
use Rattle.eof_laws.specs.live_model.k_split_model.Spaces.{volume_space}
use Rattle.eof_laws.specs.live_model.k_split_model.View.{View}
use Rattle.eof_laws.specs.live_model.commute_laws.posix_types.declared.call.Call.{Call}
use Rattle.eof_laws.specs.live_model.commute_laws.posix_types.declared.handle.Flags.{Flags}
use Rattle.eof_laws.specs.live_model.commute_laws.posix_types.declared.handle.Handle.{Handle}
use Rattle.eof_laws.specs.live_model.commute_laws.posix_types.declared.item.Item.{Item}
use Rattle.eof_laws.specs.live_model.posix_tables.NameRows.{mkdir_rows, open_rows, rename_rows, rmdir_rows, unlink_rows}
use Rattle.eof_laws.specs.live_model.posix_tables.Open.{closed, is_full, is_open}
use Rattle.eof_laws.specs.live_model.posix_tables.Outcomes.{first}
use Rattle.eof_laws.specs.live_model.posix_spec.FileRows.{close_rows, file_number}
use Rattle.eof_laws.specs.live_model.posix_spec.Run.{run}
use Rattle.eof_laws.specs.live_model.posix_spec.State.{alone, State}
use Rattle.eof_laws.specs.live_model.posix_spec.Step.{is_busy}
use Rattle.eof_laws.specs.live_model.world_model.Stands.{number}
use Rattle.eof_laws.specs.live_model.world_step_laws.Makers.{renumbered}
use Rattle.k_split_laws.specs.k_plans.Making.{IsMade}
use Rattle.k_split_laws.specs.k_plans.Removing.{IsRemoved, IsUnlinked}
use Rattle.k_split_laws.specs.k_plans.Renaming.{IsRenamed}
use Rattle.k_split_laws.specs.layout_model.Spelling.{AreSpelled}
use Rattle.k_split_laws.specs.volume_change_laws.Changes.{MayDrop}
use Rattle.batch_laws.specs.Changes.{IsGathered}
use Rattle.batch_laws.specs.Ready.{GoesReady}

-- ---- a node is made

-- `mkdir`
abbrev pub MkdirGoesOn : Type 0
MkdirGoesOn =
    (g : Geometry) (k l : View) (files : Files) (count : ℕ) (numbers : List ℕ) (start : State) (history : List Item) (item : Item) (p : List (List ℕ)) (w : Volume) (ino : ℕ)
    → GoesReady g k files count numbers start history → item.call ≡ Call.Mkdir p → count + 1 < 2 ^ 31 → AreSpelled p → first (mkdir_rows (volume_space k.volume) p) ≡ None
    → IsMade true p k.volume w ino → IsGathered k l w
    → GoesReady g l files (count + 1) (renumbered numbers ino (length (run start history).nodes)) start (history ++ item ∷ [])

-- an `open` that makes the file
abbrev pub CreationGoesOn : Type 0
CreationGoesOn =
    (g : Geometry) (k l : View) (files : Files) (count : ℕ) (numbers : List ℕ) (start : State) (history : List Item) (item : Item) (h : Handle) (p : List (List ℕ)) (flags : Flags) (w : Volume) (ino : ℕ)
    → GoesReady g k files count numbers start history → item.call ≡ Call.Open h p flags → count + 1 < 2 ^ 31 → AreSpelled p
    → first (open_rows (volume_space k.volume) (is_full (run start history).tables) (is_busy alone (run start history) p) p flags) ≡ None → IsMade false p k.volume w ino → IsGathered k l w
    → GoesReady g l files (count + 1) (renumbered numbers ino (length (run start history).nodes)) start (history ++ item ∷ [])

-- ---- a name goes

-- `rmdir`
abbrev pub RmdirGoesOn : Type 0
RmdirGoesOn =
    (g : Geometry) (k l : View) (files : Files) (count : ℕ) (numbers : List ℕ) (start : State) (history : List Item) (item : Item) (p : List (List ℕ)) (w : Volume)
    → GoesReady g k files count numbers start history → item.call ≡ Call.Rmdir p → first (rmdir_rows (volume_space k.volume) p) ≡ None → IsRemoved p k.volume w → IsGathered k l w
    → GoesReady g l files count numbers start (history ++ item ∷ [])

-- `unlink` of a file that is open, which stays
abbrev pub UnlinkGoesOn : Type 0
UnlinkGoesOn =
    (g : Geometry) (k l : View) (files : Files) (count : ℕ) (numbers : List ℕ) (start : State) (history : List Item) (item : Item) (p : List (List ℕ)) (w : Volume) (ino : ℕ)
    → GoesReady g k files count numbers start history → item.call ≡ Call.Unlink p → first (unlink_rows (volume_space k.volume) p) ≡ None → IsUnlinked p k.volume w ino
    → is_open (run start history).tables (number numbers ino) ≡ true → IsGathered k l w → GoesReady g l files count numbers start (history ++ item ∷ [])

-- and of one that nobody has open, which goes in the same call, with no commit between the two changes: its staged runs go with it
abbrev pub UnlinkDropGoesOn : Type 0
UnlinkDropGoesOn =
    (g : Geometry) (k l : View) (files e : Files) (count : ℕ) (numbers : List ℕ) (start : State) (history : List Item) (item : Item) (p : List (List ℕ)) (u : Volume) (ino : ℕ)
    → GoesReady g k files count numbers start history → item.call ≡ Call.Unlink p → first (unlink_rows (volume_space k.volume) p) ≡ None → IsUnlinked p k.volume u ino
    → is_open (run start history).tables (number numbers ino) ≡ false → ChangesFile ino [] 0 files e → IsGathered k l (dropped ino u) → GoesReady g l e count numbers start (history ++ item ∷ [])

-- the last `close` of a file without a name, which goes with its staged runs
abbrev pub CloseDropGoesOn : Type 0
CloseDropGoesOn =
    (g : Geometry) (k l : View) (files e : Files) (count : ℕ) (numbers : List ℕ) (start : State) (history : List Item) (item : Item) (h : Handle) (ino : ℕ)
    → GoesReady g k files count numbers start history → item.call ≡ Call.Close h → first (close_rows (run start history).tables item.who h) ≡ None → MayDrop ino k.volume
    → number numbers ino ≡ file_number (run start history).tables item.who h
    → is_open (closed (run start history).tables item.who h) (file_number (run start history).tables item.who h) ≡ false → ChangesFile ino [] 0 files e → IsGathered k l (dropped ino k.volume)
    → GoesReady g l e count numbers start (history ++ item ∷ [])

-- ---- a name moves

-- a file that lost its name by a rename, if one did, is open, and stays
abbrev pub IsOpenIfLost : Option ℕ → State → List ℕ → Type 0
IsOpenIfLost None s numbers = Unit {0}
IsOpenIfLost (Some ino) s numbers = is_open s.tables (number numbers ino) ≡ true

-- `rename`: to a path where nothing stands, over an empty directory, which goes, or over a file that is open
abbrev pub RenameGoesOn : Type 0
RenameGoesOn =
    (g : Geometry) (k l : View) (files : Files) (count : ℕ) (numbers : List ℕ) (start : State) (history : List Item) (item : Item) (p q : List (List ℕ)) (w : Volume) (lost : Option ℕ)
    → GoesReady g k files count numbers start history → item.call ≡ Call.Rename p q → first (rename_rows (volume_space k.volume) p q) ≡ None → AreSpelled q → IsRenamed p q k.volume w lost
    → IsOpenIfLost lost (run start history) numbers → IsGathered k l w → GoesReady g l files count numbers start (history ++ item ∷ [])

-- and over a file that nobody has open, which goes in the same call, with no commit between the two changes
abbrev pub RenameDropGoesOn : Type 0
RenameDropGoesOn =
    (g : Geometry) (k l : View) (files e : Files) (count : ℕ) (numbers : List ℕ) (start : State) (history : List Item) (item : Item) (p q : List (List ℕ)) (u : Volume) (ino : ℕ)
    → GoesReady g k files count numbers start history → item.call ≡ Call.Rename p q → first (rename_rows (volume_space k.volume) p q) ≡ None → AreSpelled q → IsRenamed p q k.volume u (Some ino)
    → is_open (run start history).tables (number numbers ino) ≡ false → ChangesFile ino [] 0 files e → IsGathered k l (dropped ino u) → GoesReady g l e count numbers start (history ++ item ∷ [])
