-- What publishes the length of a file, as the whole of a call: `close` and `fsync`.
use Rattle.batch_laws.specs.Commits.{GoesCommitted, IsCommitted}
use Rattle.batch_laws.specs.Ready.{GoesReady}
use Rattle.batch_publish_laws.specs.Changes.{IsMapGathered, LeavesBatch}
use Rattle.batch_publish_laws.specs.Moves.{IsRelinkedAll, runs_of}
use Rattle.batch_publish_laws.specs.Sizes.{IsSetSize}
use Rattle.live_model.specs.commute_laws.posix_types.declared.call.Call.{Call}
use Rattle.live_model.specs.commute_laws.posix_types.declared.handle.Handle.{Handle}
use Rattle.live_model.specs.commute_laws.posix_types.declared.item.Item.{Item}
use Rattle.live_model.specs.file_table.Files.{Files, size_in}
use Rattle.live_model.specs.image_model.Volume.{Volume, inode}
use Rattle.live_model.specs.k_split_model.View.{View}
use Rattle.live_model.specs.layout_model.Places.{Geometry}
use Rattle.live_model.specs.layout_model.declared.lines.Kind.TheVariants.{File}
use Rattle.live_model.specs.posix_spec.FileRows.{close_rows, file_number, fsync_rows}
use Rattle.live_model.specs.posix_spec.Run.{after_call, begun, run}
use Rattle.live_model.specs.posix_spec.State.{State, with_published}
use Rattle.live_model.specs.posix_tables.Names.{is_named}
use Rattle.live_model.specs.posix_tables.Open.{closed, is_open}
use Rattle.live_model.specs.posix_tables.Outcomes.{first}
use Rattle.live_model.specs.world_model.Stands.{number}
use Rattle.live_model.specs.k_split.Answers.{Changes}
use Rattle.live_model.specs.layout_model.Journal.{journaled}
use Rattle.live_model.specs.pm_model.Images.{IsImage}
use Rattle.live_model.specs.pm_model.Words.{Words}
use Rattle.live_model.specs.pm_model.declared.Cell.{Cell}
use Rattle.live_model.specs.world_image_laws.Images.{ShowsLog}
use Rattle.live_model.specs.world_image_laws.Promised.{IsKept}
use Rattle.std.specs.Prelude.{List, None, [], true, ℕ, ◌++◌, ◌∷◌, ◌≡◌, ◌⊎◌}

-- The length of a file is published behind a call, by one of three: its runs are relinked with its length; none is staged, and its size is set; or
-- its size is its length already, and K-Split and what is kept of files stay.
abbrev pub PublishesLength : View → View → Volume → Files → Files → ℕ → Type 0
PublishesLength k l w files e ino =
    ((applied : ℕ) × IsRelinkedAll k l w files e ino (size_in files ino) applied)
    ⊎ (((blocks : List ℕ) × (runs_of k.volume files ino ≡ []) × IsSetSize blocks k l w files e ino (size_in files ino))
    ⊎ (((inode k.volume ino).kind ≡ File) × ((inode k.volume ino).size ≡ size_in files ino) × (l ≡ k) × (e ≡ files)))

-- the call publishes the length of the file, and does nothing else to nodes and entries
pub record OnlyPublishes (s : State) (item : Item) (n : ℕ) : Type 0 where
  pub nodes : (after_call s (begun item)).nodes ≡ (with_published s n).nodes
  pub entries : (after_call s (begun item)).entries ≡ s.entries

-- THE BATCH STANDS BEHIND such a call.
abbrev pub PublishingLeavesBatch : Type 0
PublishingLeavesBatch =
    (g : Geometry) (k l : View) (files e : Files) (count : ℕ) (numbers : List ℕ) (start : State) (history : List Item) (item : Item) (w : Volume) (ino : ℕ)
    → (ready : GoesReady g k files count numbers start history) → PublishesLength k l w files e ino → OnlyPublishes (run start history) item (number numbers ino)
    → LeavesBatch g k l files e count numbers start history (item ∷ []) ready.going

-- `close` of a file that has a name or is open still: its length is published into the batch.
abbrev pub ClosePublishes : Type 0
ClosePublishes =
    (g : Geometry) (k l : View) (files e : Files) (count : ℕ) (numbers : List ℕ) (start : State) (history : List Item) (item : Item) (h : Handle) (w : Volume) (ino : ℕ)
    → GoesReady g k files count numbers start history → item.call ≡ Call.Close h → first (close_rows (run start history).tables item.who h) ≡ None
    → number numbers ino ≡ file_number (run start history).tables item.who h
    → (is_named (run start history).entries (number numbers ino) ≡ true) ⊎ (is_open (closed (run start history).tables item.who h) (number numbers ino) ≡ true)
    → PublishesLength k l w files e ino → GoesReady g l e count numbers start (history ++ item ∷ [])

-- `fsync`: its length is published into the batch, which is committed then; all of the history is kept.
abbrev pub FsyncPublishes : Type 0
FsyncPublishes =
    (g : Geometry) (k l m : View) (files e : Files) (count : ℕ) (numbers : List ℕ) (start : State) (history : List Item) (item : Item) (h : Handle) (w : Volume) (ino : ℕ)
    → GoesReady g k files count numbers start history → item.call ≡ Call.Fsync h → first (fsync_rows (run start history).tables item.who h) ≡ None
    → number numbers ino ≡ file_number (run start history).tables item.who h → PublishesLength k l w files e ino → IsCommitted l m
    → GoesCommitted g m e count numbers start (history ++ item ∷ [])

-- WHERE THE POWER WENT IN A COMMIT BEHIND A CHANGE, before the call returned, as in an `fsync`: each image with no entry in its log keeps the
-- promise with this call unfinished, the stronger one too.
abbrev pub SyncLossIsKept : Type 0
SyncLossIsKept =
    (g : Geometry) (k l : View) (files e : Files) (count : ℕ) (numbers : List ℕ) (start : State) (history : List Item) (item : Item) (blocks : List ℕ) (w : Volume) (cells : List Cell) (image : Words)
    → (ready : GoesReady g k files count numbers start history) → IsMapGathered blocks k l w → LeavesBatch g k l files e count numbers start history (item ∷ []) ready.going
    → Changes l.committed l.volume l.cells cells → IsImage cells image → ShowsLog k.committed [] (journaled image)
    → IsKept g start history (begun item ∷ []) image
