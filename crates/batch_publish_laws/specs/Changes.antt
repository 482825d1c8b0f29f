-- A change of maps that gathers, as one law over what it makes of the batch: what is asked of the change, and what it leaves.
use Rattle.batch_laws.specs.Commits.{GoesCommitted, IsCommitted}
use Rattle.batch_laws.specs.Goings.{IsLeftGoing}
use Rattle.batch_laws.specs.Ready.{AreUnmapped, GoesReady}
use Rattle.batch_laws.specs.Standing.{PosixGoing, as_claims, sides_of, staged_of}
use Rattle.batch_laws.specs.Steps.{TakesBlocks}
use Rattle.live_model.specs.commute_laws.posix_types.declared.item.Item.{Item}
use Rattle.live_model.specs.file_table.Files.{Files, runs_in, size_in}
use Rattle.live_model.specs.image_model.Live.{is_live}
use Rattle.live_model.specs.image_model.Reading.{Reads}
use Rattle.live_model.specs.image_model.Room.{unused_blocks}
use Rattle.live_model.specs.image_model.Volume.{Volume, inode}
use Rattle.live_model.specs.k_split.MapChanges.{ChangesMaps}
use Rattle.live_model.specs.k_split.Order.{IsInOrder}
use Rattle.live_model.specs.k_split_model.View.{View}
use Rattle.live_model.specs.layout_model.Journal.{journaled}
use Rattle.live_model.specs.layout_model.Places.{Geometry, reserve}
use Rattle.live_model.specs.layout_model.declared.lines.Draft.{Draft}
use Rattle.live_model.specs.layout_model.declared.lines.Kind.TheVariants.{File}
use Rattle.live_model.specs.list_laws.Members.{In}
use Rattle.live_model.specs.pm_model.Frames.{KeepsSingle}
use Rattle.live_model.specs.pm_model.Images.{IsImage}
use Rattle.live_model.specs.pm_model.Words.{Words}
use Rattle.live_model.specs.pm_model.declared.Cell.{Cell}
use Rattle.live_model.specs.posix_laws.Cuts.{cut_of}
use Rattle.live_model.specs.posix_laws.Publishes.{IsPublishing}
use Rattle.live_model.specs.posix_spec.Run.{run}
use Rattle.live_model.specs.posix_spec.State.{State}
use Rattle.live_model.specs.world_image_laws.Images.{IsHeaded}
use Rattle.live_model.specs.world_step_laws.Worlds.{IsWorld}
use Rattle.posix_mode_laws.specs.Batch.{AddsQuietly, IsBatch, KeepsShown}
use Rattle.posix_mode_laws.specs.Sides.{KeepsCutBytes, UsesNoFreed, sized}
use Rattle.std.specs.Prelude.{List, [], false, length, true, ℕ, ◌++◌, ◌+◌, ◌≡◌, ◌≢◌, ◌≤◌}
use Rattle.world_write_laws.specs.volume_laws.Footprint.{SameLog}
use Rattle.world_write_laws.specs.volume_laws.Uses.{is_unused}

-- ---- what K-Split did

-- No block of these is named, in the committed volume or in the batch.
pub record AreSpareInBoth (blocks : List ℕ) (k : View) : Type 0 where
  pub committed : (b : ℕ) → In b blocks → is_unused k.committed b ≡ true
  pub batch : (b : ℕ) → In b blocks → is_unused k.volume b ≡ true

-- K-Split gathered a change that wrote blocks, and its volume is this one: the committed volume stays. Each image reads as that still, and
-- is else an image before, but for words of these blocks, which nothing named, neither in the committed volume nor in the batch.
pub record IsMapGathered (blocks : List ℕ) (k l : View) (w : Volume) : Type 0 where
  pub volume : l.volume ≡ w
  pub committed : l.committed ≡ k.committed
  pub order : IsInOrder l
  pub batched : l.batched ≡ true
  pub on : l.lost ≡ false
  pub changes : ChangesMaps blocks k.committed k.committed k.cells l.cells
  pub singles : KeepsSingle k.cells l.cells
  pub spare : AreSpareInBoth blocks k

-- ---- what the change is

-- The change of the batch, with what is kept of files behind it: the geometry and the lap stay; what is no file keeps no run and no
-- length, and has no block but of a staging file; each run that is staged would be live; and blocks enough are free to publish each.
pub record KeepsKinds (v w : Volume) (files e : Files) : Type 0 where
  pub geometry : w.geometry ≡ v.geometry
  pub base : w.base ≡ v.base
  pub count : length w.inodes ≡ length v.inodes
  pub kept : length e.sizes ≡ length files.sizes
  pub bare : (ino : ℕ) → (inode w ino).kind ≢ File → (runs_in e ino ≡ []) × (size_in e ino ≡ 0)
  pub alive : (d : Draft) → In d (staged_of w e) → is_live w d ≡ true
  pub unmapped : AreUnmapped w
  pub room : length (staged_of w e) + reserve w.geometry ≤ unused_blocks w + 3

-- By the words of each image of these cells it takes what the calls see from the one state to the other: the World over the batch with
-- the lengths and the runs that are staged; and so the World over the batch as it would be committed, cut to published lengths.
pub record TakesBoth (cells : List Cell) (v w : Volume) (files e : Files) (numbers : List ℕ) (s next : State) (count : ℕ) : Type 0 where
  pub live : (image : Words) → IsImage cells image → IsWorld (sized files.sizes v) (as_claims (staged_of v files)) [] (journaled image) numbers s count
      → IsWorld (sized e.sizes w) (as_claims (staged_of w e)) [] (journaled image) numbers next count
  pub cut : (image : Words) → IsImage cells image → IsWorld (sized files.sizes v) (as_claims (staged_of v files)) [] (journaled image) numbers s count
      → IsWorld v [] [] (journaled image) numbers (cut_of s) count → IsWorld w [] [] (journaled image) numbers (cut_of next) count

-- ---- what it leaves

-- An image of the device behind it comes from one of before: of the medium both show the same, and the same log; and by the words of this
-- one the batch stands behind these items too.
pub record BatchComesFrom (g : Geometry) (k l : View) (files e : Files) (count : ℕ) (numbers : List ℕ) (start : State) (history more : List Item) (going : PosixGoing g k files count numbers start history) (image : Words) : Type 0 where
  pub before : Words
  pub is : IsImage k.cells before
  pub shown : KeepsShown k.committed (journaled before) (journaled image)
  pub log : SameLog k.committed.geometry (journaled before) (journaled image)
  pub reads : Reads k.committed.geometry (journaled image) k.committed
  pub batch : IsBatch (sides_of l e going.old_numbers numbers) (journaled image) start going.front (going.later ++ more)
  pub headed : IsHeaded g image

-- THE BATCH STANDS BEHIND these items, whatever they are: as the standing between two calls has it, but that the medium is not spoken of.
pub record LeavesBatch (g : Geometry) (k l : View) (files e : Files) (count : ℕ) (numbers : List ℕ) (start : State) (history more : List Item) (going : PosixGoing g k files count numbers start history) : Type 0 where
  pub committed : l.committed ≡ k.committed
  pub left : IsLeftGoing g l e count (run start (history ++ more))
  pub geometry : l.volume.geometry ≡ l.committed.geometry
  pub base : l.volume.base ≡ l.committed.base
  pub unmapped : AreUnmapped l.volume
  pub room : length (staged_of l.volume e) + reserve l.volume.geometry ≤ unused_blocks l.volume + 3
  pub comes : (image : Words) → IsImage l.cells image → BatchComesFrom g k l files e count numbers start history more going image

-- ---- the laws

-- A CHANGE OF MAPS THAT GATHERS, within a call or as its last change: where it takes both Worlds on, its blocks are fresh ones or such that
-- the batch had, and it brings no byte back that was cut off, the batch stands behind it.
abbrev pub ChangeLeavesBatch : Type 0
ChangeLeavesBatch =
    (g : Geometry) (k l : View) (files e : Files) (count : ℕ) (numbers : List ℕ) (start : State) (history more : List Item) (blocks : List ℕ) (w : Volume)
    → (ready : GoesReady g k files count numbers start history) → IsMapGathered blocks k l w → KeepsKinds k.volume w files e
    → TakesBoth l.cells k.volume w files e numbers (run start history) (run start (history ++ more)) count → IsPublishing (run start (history ++ more))
    → TakesBlocks (sides_of k files ready.going.old_numbers numbers) (sides_of l e ready.going.old_numbers numbers) blocks
    → (UsesNoFreed (sides_of k files ready.going.old_numbers numbers) → KeepsCutBytes (sides_of k files ready.going.old_numbers numbers) start ready.going.front ready.going.later
    → KeepsCutBytes (sides_of l e ready.going.old_numbers numbers) start ready.going.front (ready.going.later ++ more))
    → LeavesBatch g k l files e count numbers start history more ready.going

-- Where no call ends, or one that is no `fsync` that returned ok and puts nothing that the medium shows, the device goes on.
abbrev pub BatchGoesOn : Type 0
BatchGoesOn =
    (g : Geometry) (k l : View) (files e : Files) (count : ℕ) (numbers : List ℕ) (start : State) (history more : List Item)
    → (ready : GoesReady g k files count numbers start history) → LeavesBatch g k l files e count numbers start history more ready.going
    → ((image : Words) (is : IsImage k.cells image) → AddsQuietly start ready.going.front ready.going.later (ready.going.world image is).medium.state more)
    → GoesReady g l e count numbers start (history ++ more)

-- WHERE THE BATCH IS COMMITTED BEHIND IT, before the call returns, the device goes on with all of the history kept, whatever ended: an
-- `fsync` too.
abbrev pub BatchIsCommitted : Type 0
BatchIsCommitted =
    (g : Geometry) (k l m : View) (files e : Files) (count : ℕ) (numbers : List ℕ) (start : State) (history more : List Item)
    → (ready : GoesReady g k files count numbers start history) → LeavesBatch g k l files e count numbers start history more ready.going → IsCommitted l m
    → GoesCommitted g m e count numbers start (history ++ more)
