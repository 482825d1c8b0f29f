-- One file of the batch is anew, with whatever was staged of it: relinked, cut or lengthened.
use Rattle.batch_laws.specs.Ready.{GoesReady}
use Rattle.batch_laws.specs.Standing.{as_claims, sides_of, staged_of}
use Rattle.batch_laws.specs.Steps.{IsOfStaging}
use Rattle.batch_publish_laws.specs.Changes.{IsMapGathered, LeavesBatch}
use Rattle.live_model.specs.commute_laws.posix_types.declared.item.Item.{Item}
use Rattle.live_model.specs.extent_model.Extents.{disk_at}
use Rattle.live_model.specs.file_table.Files.{ChangesFile, Files}
use Rattle.live_model.specs.image_model.Placed.{block_at}
use Rattle.live_model.specs.image_model.Room.{unused_blocks}
use Rattle.live_model.specs.image_model.Volume.{Volume, chain, extents, inode}
use Rattle.live_model.specs.k_split_model.View.{View}
use Rattle.live_model.specs.layout_model.Journal.{journaled}
use Rattle.live_model.specs.layout_model.Places.{Geometry}
use Rattle.live_model.specs.layout_model.declared.lines.Draft.{Draft}
use Rattle.live_model.specs.layout_model.declared.lines.Kind.TheVariants.{Staging}
use Rattle.live_model.specs.list_laws.Members.{In}
use Rattle.live_model.specs.pm_model.Images.{IsImage}
use Rattle.live_model.specs.pm_model.Words.{Words}
use Rattle.live_model.specs.posix_laws.Publishes.{IsPublishing}
use Rattle.live_model.specs.posix_spec.Run.{run}
use Rattle.live_model.specs.posix_spec.State.{Fits, State}
use Rattle.live_model.specs.posix_tables.declared.nodes.Node.{Node}
use Rattle.live_model.specs.world_image_laws.image_model.Content.{byte_in}
use Rattle.live_model.specs.world_model.Jobs.{staged_block}
use Rattle.live_model.specs.world_model.Stands.{entries_of, number}
use Rattle.live_model.specs.world_step_laws.Worlds.{IsWorld}
use Rattle.posix_mode_laws.specs.Sides.{KeepsCutBytes, UsesNoFreed, sized}
use Rattle.std.specs.Prelude.{List, Some, [], length, slice_index, slice_set, ℕ, ◌++◌, ◌+◌, ◌/◌, ◌<◌, ◌≡◌, ◌≢◌, ◌≤◌, ◌⊎◌}
use Rattle.world_write_laws.specs.Renews.{Renews}

-- What is asked of the batch. The file may have another map, size and applied order; what was staged of it is gone, and the length that
-- it has in memory is this one. A block of it was there, or is one of these, or one of a staging file; staging files have lost
-- blocks, none of which a run of another file has; all else stays. One free block at most is taken for each run.
pub record RenewsFile (blocks : List ℕ) (v w : Volume) (files e : Files) (ino size : ℕ) : Type 0 where
  pub renews : Renews v w [] ino
  pub base : w.base ≡ v.base
  pub changes : ChangesFile ino [] size files e
  pub staged : (d : Draft) → In d (staged_of v files) → d.ino ≢ ino → (j : ℕ) → j < d.count → staged_block w d j ≡ staged_block v d j
  pub file : (block b : ℕ) → disk_at (extents w ino) block ≡ Some b → (disk_at (extents v ino) block ≡ Some b) ⊎ (In b blocks ⊎ IsOfStaging v b)
  pub staging : (x place b : ℕ) → (inode v x).kind ≡ Staging → disk_at (extents w x) place ≡ Some b → disk_at (extents v x) place ≡ Some b
  pub chains : (i : ℕ) → ((chain w i ≡ chain v i) × (extents w i ≡ extents v i)) ⊎ ((j : ℕ) → j < length (chain w i) → In (block_at (chain w i) j) blocks)
  pub frees : unused_blocks v ≤ unused_blocks w + length (entries_of ino (staged_of v files))

-- What is asked of the state: the node of the file has these bytes, and this length of them published; no other node changes, nor an entry.
pub record RenewsNode (s next : State) (n : ℕ) (bytes : List ℕ) (published : ℕ) : Type 0 where
  pub entries : next.entries ≡ s.entries
  pub shape : next.shape ≡ s.shape
  pub nodes : next.nodes ≡ slice_set s.nodes n (Node.File (record { bytes = bytes; published = published }))
  pub fits : Fits next
  pub within : published ≤ length bytes

-- by its own map the file has these bytes
abbrev pub HasByMap : Volume → Words → ℕ → List ℕ → Type 0
HasByMap w f ino bytes = (i : ℕ) → i < length bytes → byte_in f (disk_at (extents w ino) (i / 4096)) i ≡ slice_index bytes i

-- A FILE IS ANEW IN THE BATCH, within a call or as its last change: the batch stands behind it, where by its own map the file has the
-- bytes of the next state, in each image, the size in its line is what is published, and no byte comes back that was cut off.
abbrev pub RenewalLeavesBatch : Type 0
RenewalLeavesBatch =
    (g : Geometry) (k l : View) (files e : Files) (count : ℕ) (numbers : List ℕ) (start : State) (history more : List Item) (blocks : List ℕ) (w : Volume) (ino : ℕ) (bytes : List ℕ) (published : ℕ)
    → (ready : GoesReady g k files count numbers start history) → IsMapGathered blocks k l w → RenewsFile blocks k.volume w files e ino (length bytes)
    → RenewsNode (run start history) (run start (history ++ more)) (number numbers ino) bytes published → (inode w ino).size ≡ published
    → ((image : Words) → IsImage l.cells image → IsWorld (sized files.sizes k.volume) (as_claims (staged_of k.volume files)) [] (journaled image) numbers (run start history) count
    → HasByMap w (journaled image) ino bytes)
    → IsPublishing (run start (history ++ more))
    → (UsesNoFreed (sides_of k files ready.going.old_numbers numbers) → KeepsCutBytes (sides_of k files ready.going.old_numbers numbers) start ready.going.front ready.going.later
    → KeepsCutBytes (sides_of l e ready.going.old_numbers numbers) start ready.going.front (ready.going.later ++ more))
    → LeavesBatch g k l files e count numbers start history more ready.going
