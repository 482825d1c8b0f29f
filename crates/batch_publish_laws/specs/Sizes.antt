-- A file gets a size in the batch: what the change is, and the calls whose change it is.
use Rattle.batch_laws.specs.Ready.{GoesReady}
use Rattle.batch_laws.specs.Standing.{PosixGoing}
use Rattle.batch_publish_laws.specs.Changes.{IsMapGathered, LeavesBatch}
use Rattle.batch_publish_laws.specs.Moves.{AreStagedStill, runs_of}
use Rattle.live_model.specs.commute_laws.posix_types.declared.call.Call.{Call}
use Rattle.live_model.specs.commute_laws.posix_types.declared.handle.Flags.{Flags}
use Rattle.live_model.specs.commute_laws.posix_types.declared.handle.Handle.{Handle}
use Rattle.live_model.specs.commute_laws.posix_types.declared.item.Item.{Item}
use Rattle.live_model.specs.extent_model.Extents.{disk_at}
use Rattle.live_model.specs.file_table.Files.{ChangesFile, Files, size_in}
use Rattle.live_model.specs.image_model.Room.{unused_blocks}
use Rattle.live_model.specs.image_model.Volume.{Volume, extents, inode}
use Rattle.live_model.specs.k_split.k_plans.Whole.{HasFullMaps, IsWhole}
use Rattle.live_model.specs.k_split.k_split_model.MapChangesChanges.{IsSized}
use Rattle.live_model.specs.k_split_model.MapChangesChanges.{WritesChain}
use Rattle.live_model.specs.k_split_model.View.{View}
use Rattle.live_model.specs.layout_model.Journal.{journaled}
use Rattle.live_model.specs.layout_model.Places.{Geometry}
use Rattle.live_model.specs.layout_model.declared.lines.Kind.TheVariants.{File}
use Rattle.live_model.specs.pm_model.Images.{IsImage}
use Rattle.live_model.specs.pm_model.Words.{Words}
use Rattle.live_model.specs.posix_spec.FileRows.{file_number, truncate_rows}
use Rattle.live_model.specs.posix_spec.Run.{after_call, begun, run}
use Rattle.live_model.specs.posix_spec.State.{State, alone, space, with_published}
use Rattle.live_model.specs.posix_spec.Step.{is_busy}
use Rattle.live_model.specs.posix_tables.NameRows.{open_rows}
use Rattle.live_model.specs.posix_tables.Names.{exists_at, number_at}
use Rattle.live_model.specs.posix_tables.Open.{is_full}
use Rattle.live_model.specs.posix_tables.Outcomes.{first}
use Rattle.live_model.specs.world_image_laws.image_model.Content.{byte_in}
use Rattle.live_model.specs.world_model.Stands.{number}
use Rattle.std.specs.Prelude.{Bool, List, None, Some, [], length, true, ℕ, ◌++◌, ◌+◌, ◌/◌, ◌<◌, ◌∷◌, ◌≡◌, ◌≤◌}

-- K-Split gathered a change of the size of a file; what was staged of it is gone, and its length in memory is the size. One free block
-- at most is taken for each run that goes.
pub record IsSetSize (blocks : List ℕ) (k l : View) (w : Volume) (files e : Files) (ino size : ℕ) : Type 0 where
  pub gathered : IsMapGathered blocks k l w
  pub file : (inode k.volume ino).kind ≡ File
  pub free : ℕ → Bool
  pub set : IsSized free ino size k.volume w
  pub written : WritesChain ino k.volume w blocks
  pub changes : ChangesFile ino [] size files e
  pub frees : unused_blocks k.volume ≤ unused_blocks w + length (runs_of k.volume files ino)

-- Where a file gets longer: what its own blocks have behind its end is zeros up to the new one, in each image; and if there is such a block
-- nothing gathered since the last commit (which came when its tail was cleaned), so that no byte of it was cut off since.
pub record IsCleanTo (g : Geometry) (k : View) (files : Files) (count : ℕ) (numbers : List ℕ) (start : State) (history : List Item) (going : PosixGoing g k files count numbers start history) (ino size : ℕ) : Type 0 where
  pub zeros : (image : Words) → IsImage k.cells image → (i : ℕ) → size_in files ino ≤ i → i < size → byte_in (journaled image) (disk_at (extents k.volume ino) (i / 4096)) i ≡ 0
  pub uncut : (i b : ℕ) → size_in files ino ≤ i → i < size → disk_at (extents k.volume ino) (i / 4096) ≡ Some b → going.later ≡ []

-- `truncate`: it shortens the file, lengthens it or leaves it, no run of which is staged any more; its length is published.
abbrev pub TruncateGoesOn : Type 0
TruncateGoesOn =
    (g : Geometry) (k l : View) (files e : Files) (count : ℕ) (numbers : List ℕ) (start : State) (history : List Item) (item : Item) (h : Handle) (size : ℕ) (blocks : List ℕ) (w : Volume) (ino : ℕ)
    → (ready : GoesReady g k files count numbers start history) → item.call ≡ Call.Truncate h size → first (truncate_rows (run start history) item.who h size) ≡ None
    → number numbers ino ≡ file_number (run start history).tables item.who h → runs_of k.volume files ino ≡ [] → IsCleanTo g k files count numbers start history ready.going ino size
    → IsSetSize blocks k l w files e ino size → GoesReady g l e count numbers start (history ++ item ∷ [])

-- an `open` with `t` of a file that is there: its runs are dropped, and it has no byte
abbrev pub OpenCutGoesOn : Type 0
OpenCutGoesOn =
    (g : Geometry) (k l : View) (files e : Files) (count : ℕ) (numbers : List ℕ) (start : State) (history : List Item) (item : Item) (h : Handle) (p : List (List ℕ)) (flags : Flags) (blocks : List ℕ) (w : Volume) (ino : ℕ)
    → (ready : GoesReady g k files count numbers start history) → item.call ≡ Call.Open h p flags
    → first (open_rows (space (run start history)) (is_full (run start history).tables) (is_busy alone (run start history) p) p flags) ≡ None → exists_at (space (run start history)) p ≡ true → flags.truncate ≡ true
    → number numbers ino ≡ number_at (space (run start history)) p → IsSetSize blocks k l w files e ino 0 → GoesReady g l e count numbers start (history ++ item ∷ [])

-- THE LENGTH OF A FILE IS PUBLISHED, no run of which is staged any more, by its size alone, as behind a Checkpoint: the batch stands behind a call that
-- publishes it and does nothing else to nodes and entries.
abbrev pub SizeLeavesBatch : Type 0
SizeLeavesBatch =
    (g : Geometry) (k l : View) (files e : Files) (count : ℕ) (numbers : List ℕ) (start : State) (history : List Item) (item : Item) (blocks : List ℕ) (w : Volume) (ino : ℕ)
    → (ready : GoesReady g k files count numbers start history) → runs_of k.volume files ino ≡ [] → IsSetSize blocks k l w files e ino (size_in files ino)
    → (after_call (run start history) (begun item)).nodes ≡ (with_published (run start history) (number numbers ino)).nodes
    → (after_call (run start history) (begun item)).entries ≡ (run start history).entries → LeavesBatch g k l files e count numbers start history (item ∷ []) ready.going

abbrev pub SizeKeepsStaged : Type 0
SizeKeepsStaged =
    (g : Geometry) (k l : View) (files e : Files) (count : ℕ) (numbers : List ℕ) (start : State) (history : List Item) (blocks : List ℕ) (w : Volume) (ino size : ℕ)
    → GoesReady g k files count numbers start history → IsSetSize blocks k l w files e ino size → AreStagedStill k.volume l.volume files e

-- A size that is set takes no free block more: the chain of the file does not grow.
abbrev pub SizeTakesNone : Type 0
SizeTakesNone =
    (free : ℕ → Bool) (ino size : ℕ) (v w : Volume) → IsWhole v → IsWhole w → HasFullMaps v → ino < length v.inodes → IsSized free ino size v w → unused_blocks v ≤ unused_blocks w
