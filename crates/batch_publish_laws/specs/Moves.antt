-- All staged runs of a file are relinked by one change: what it makes of the volume, and of the batch.
use Rattle.batch_laws.specs.Ready.{GoesReady}
use Rattle.batch_laws.specs.Standing.{staged_of}
use Rattle.batch_publish_laws.specs.Changes.{IsMapGathered, LeavesBatch}
use Rattle.live_model.specs.commute_laws.posix_types.declared.item.Item.{Item}
use Rattle.live_model.specs.extent_model.Extents.{disk_at, is_within}
use Rattle.live_model.specs.extent_model.declared.extent_words.Extent.{Extent}
use Rattle.live_model.specs.file_table.Files.{ChangesFile, Files, size_in}
use Rattle.live_model.specs.image_model.Content.{disk_of}
use Rattle.live_model.specs.image_model.Room.{unused_blocks}
use Rattle.live_model.specs.image_model.Volume.{Volume, chain, extents, inode}
use Rattle.live_model.specs.k_split.block_io.k_split_model.MapChangesChanges.{with_length}
use Rattle.live_model.specs.k_split.k_plans.Whole.{IsWhole}
use Rattle.live_model.specs.k_split_model.MapChangesChanges.{AreAllMoved, Landing}
use Rattle.live_model.specs.k_split_model.declared.map_changes.moves.MoveRun.{MoveRun}
use Rattle.live_model.specs.k_split_model.View.{View}
use Rattle.live_model.specs.layout_model.Places.{Geometry}
use Rattle.live_model.specs.layout_model.declared.lines.Draft.{Draft}
use Rattle.live_model.specs.layout_model.declared.lines.Kind.TheVariants.{File}
use Rattle.live_model.specs.list_laws.Members.{In}
use Rattle.live_model.specs.posix_spec.Run.{after_call, begun, run}
use Rattle.live_model.specs.posix_spec.State.{State, with_published}
use Rattle.live_model.specs.world_image_laws.k_split_model.Taken.{with_map}
use Rattle.live_model.specs.world_model.Stands.{entries_of, number}
use Rattle.std.specs.List.{flat_map, list_any, range_with_len}
use Rattle.std.specs.Prelude.{Bool, List, None, [], false, filter, if◌then◌else◌, length, map, not, true, ℕ, ◌&&◌, ◌+◌, ◌<◌, ◌==◌, ◌∷◌, ◌≡◌, ◌≢◌, ◌≤◌}

-- ---- the change of the volume

-- a block of these entries lies at this place of the staging file
abbrev pub moves_from : List Draft → ℕ → ℕ → Bool
moves_from ds x place = list_any (λ (d : Draft). (d.staging == x) && is_within d.staging_block d.count place) ds

-- the staging file has blocks of these entries
abbrev pub loses : List Draft → ℕ → Bool
loses ds x = list_any (λ (d : Draft). d.staging == x) ds

-- the inodes whose maps are written: the file, and behind it the staging files that lose blocks, in rising order
abbrev pub moved_inodes : List Draft → ℕ → List ℕ
moved_inodes ds ino = ino ∷ filter (loses ds) (range_with_len 1 4)

-- the blocks that are written: those of the new chains
abbrev pub moved_chains : List Draft → ℕ → Volume → List ℕ
moved_chains ds ino w = flat_map (chain w) (moved_inodes ds ino)

-- the landing that is asked for: these entries, in their order, with the size and the order of its last entry that the file has then
abbrev pub run_of_draft : Draft → MoveRun
run_of_draft d = record { staging = d.staging; staging_block = d.staging_block; file_block = d.file_block; count = d.count }

abbrev pub landing_of : List Draft → ℕ → ℕ → ℕ → Landing
landing_of ds ino size applied = record { ino = ino; runs = map run_of_draft ds; size = size; applied = applied }

-- What such a landing leaves, block by block: the file has for each block that of the last entry over it, and the staging files that lost
-- blocks have what is left of their maps; all else stays.
pub record LeavesMoved (ds : List Draft) (ino size applied : ℕ) (v w : Volume) : Type 0 where
  pub names : w.names ≡ v.names
  pub geometry : w.geometry ≡ v.geometry
  pub base : w.base ≡ v.base
  pub line : inode w ino ≡ with_map (chain w ino) (extents w ino) (with_length size applied (inode v ino))
  pub linked : (block : ℕ) → disk_at (extents w ino) block ≡ disk_of v ds ino block
  pub lines : (x : ℕ) → x ≢ ino → loses ds x ≡ true → inode w x ≡ with_map (chain w x) (extents w x) (inode v x)
  pub left : (x place : ℕ) → x ≢ ino → loses ds x ≡ true → disk_at (extents w x) place ≡ (if not (moves_from ds x place) then disk_at (extents v x) place else None)
  pub others : (i : ℕ) → i ≢ ino → loses ds i ≡ false → (inode w i ≡ inode v i) × (chain w i ≡ chain v i) × (extents w i ≡ extents v i)

-- ---- the change of the batch

-- the staged runs of a file, as entries
abbrev pub runs_of : Volume → Files → ℕ → List Draft
runs_of v files ino = entries_of ino (staged_of v files)

-- K-Split gathered the relink of all staged runs of a file, with this size in its line; no run of it is staged any more, and the length
-- that it has in memory is what it was. One free block at most is taken for each run.
pub record IsRelinkedAll (k l : View) (w : Volume) (files e : Files) (ino size applied : ℕ) : Type 0 where
  pub gathered : IsMapGathered (moved_chains (runs_of k.volume files ino) ino w) k l w
  pub file : (inode k.volume ino).kind ≡ File
  pub free : ℕ → Bool
  pub displaced : List Extent
  pub moved : AreAllMoved free (landing_of (runs_of k.volume files ino) ino size applied) k.volume w displaced
  pub changes : ChangesFile ino [] (size_in files ino) files e
  pub frees : unused_blocks k.volume ≤ unused_blocks w + length (runs_of k.volume files ino)

-- ---- the laws

-- Each run that is staged behind a change was staged before, and there are no more.
pub record AreStagedStill (v w : Volume) (files e : Files) : Type 0 where
  pub among : (d : Draft) → In d (staged_of w e) → In d (staged_of v files)
  pub fewer : length (staged_of w e) ≤ length (staged_of v files)

abbrev pub RelinkKeepsStaged : Type 0
RelinkKeepsStaged =
    (g : Geometry) (k l : View) (files e : Files) (count : ℕ) (numbers : List ℕ) (start : State) (history : List Item) (w : Volume) (ino size applied : ℕ)
    → GoesReady g k files count numbers start history → IsRelinkedAll k l w files e ino size applied → AreStagedStill k.volume l.volume files e

-- ALL RUNS OF A FILE ARE RELINKED AND THE PUBLISHED LENGTH STAYS, as a Checkpoint does, and a truncate before it sets the size: nothing that
-- the calls see differs, nor what is cut to published lengths; the device goes on in the state before.
abbrev pub RelinkGoesOn : Type 0
RelinkGoesOn =
    (g : Geometry) (k l : View) (files e : Files) (count : ℕ) (numbers : List ℕ) (start : State) (history : List Item) (w : Volume) (ino applied : ℕ)
    → GoesReady g k files count numbers start history → IsRelinkedAll k l w files e ino (inode k.volume ino).size applied → GoesReady g l e count numbers start history

-- ALL RUNS OF A FILE ARE RELINKED WITH ITS LENGTH IN MEMORY, and so its length is published: the batch stands behind a call that publishes the
-- length of the file and does nothing else to nodes and entries.
abbrev pub PublishLeavesBatch : Type 0
PublishLeavesBatch =
    (g : Geometry) (k l : View) (files e : Files) (count : ℕ) (numbers : List ℕ) (start : State) (history : List Item) (item : Item) (w : Volume) (ino applied : ℕ)
    → (ready : GoesReady g k files count numbers start history) → IsRelinkedAll k l w files e ino (size_in files ino) applied
    → (after_call (run start history) (begun item)).nodes ≡ (with_published (run start history) (number numbers ino)).nodes
    → (after_call (run start history) (begun item)).entries ≡ (run start history).entries
    → LeavesBatch g k l files e count numbers start history (item ∷ []) ready.going

-- A LANDING TAKES ONE FREE BLOCK FOR EACH RUN AT MOST: the chain of the file grows by one a run, those of the staging files do not grow.
abbrev pub LandingTakesFew : Type 0
LandingTakesFew =
    (g : Geometry) (k : View) (files : Files) (count : ℕ) (numbers : List ℕ) (start : State) (history : List Item) (free : ℕ → Bool) (w : Volume) (ino size applied : ℕ) (displaced : List Extent)
    → GoesReady g k files count numbers start history → (inode k.volume ino).kind ≡ File → IsWhole w
    → ((d : Draft) → In d (runs_of k.volume files ino) → (d.file_block + d.count ≤ 4096) × (d.count ≤ 64))
    → AreAllMoved free (landing_of (runs_of k.volume files ino) ino size applied) k.volume w displaced
    → unused_blocks k.volume ≤ unused_blocks w + length (runs_of k.volume files ino)
