-- What a change or a call of POSIX mode does to the three standings, until the batch is committed.
use Rattle.std.specs.Prelude.{◌≡◌, ◌≢◌, ◌⊎◌, ◌<◌, ◌≤◌, ◌+◌, ◌*◌, ◌/◌, ◌%◌, ◌||◌, ℕ, Bool, true, false, List, [], ◌∷◌, ◌++◌, length, map, Some, None}
use Rattle.world_image_laws.specs.pm_model.Words.{byte_of, Words}
use Rattle.world_image_laws.specs.layout_model.declared.lines.Kind.TheVariants.{File}
use Rattle.world_image_laws.specs.image_model.Content.{byte_in, disk_of, found, size_of}
use Rattle.world_image_laws.specs.image_model.Live.{live_entries}
use Rattle.world_image_laws.specs.image_model.Volume.{inode, Volume}
use Rattle.world_image_laws.specs.posix_types.declared.item.Item.{Item}
use Rattle.world_image_laws.specs.posix_types.declared.tree.TreeEntry.{TreeEntry}
use Rattle.world_image_laws.specs.posix_tables.Nodes.{bytes_of, node_at}
use Rattle.world_image_laws.specs.posix_spec.Run.{after_calls, Unfinished, begun, run}
use Rattle.world_image_laws.specs.posix_spec.State.{State}
use Rattle.world_image_laws.specs.posix_laws.Shortens.{shortens}
use Rattle.world_image_laws.specs.crash_spec.Posix.{syncs}
use Rattle.world_image_laws.specs.crash_spec.Values.{is_shortened, value_put}
use Rattle.world_image_laws.specs.world_model.Shown.{IsTreeOfContent}
use Rattle.world_image_laws.specs.world_model.Stands.{number, Stands}
use Rattle.posix_mode_laws.specs.Sides.{AreLengths, BatchStands, IsSettled, KeepsCutBytes, Sides, sized, UsesNoFreed}

-- the file was shortened to i bytes or less, by later calls or by this one
abbrev pub was_cut : State → List Unfinished → Unfinished → ℕ → ℕ → Bool
was_cut s later c n i = is_shortened s later n i || shortens (after_calls s later) c n i

-- WHAT A CALL PUTS THE MEDIUM DOES NOT SHOW: of a byte that the medium's file has it puts nothing, or the file was shortened so far
-- since.
pub record LeavesMedium (start : State) (front later : List Item) (item : Item) (medium : State) : Type 0 where
  pub each : (n i : ℕ) → i < length (bytes_of (node_at medium.nodes n))
      → (value_put (run start (front ++ later)) (begun item) n i ≡ None) ⊎ (was_cut (run start front) (map begun later) (begun item) n i ≡ true)

-- each byte that files of this volume show is the same
abbrev pub KeepsShown : Volume → Words → Words → Type 0
KeepsShown v f g =
    (ino i : ℕ) → (inode v ino).kind ≡ File → i < size_of v [] ino → byte_in g (disk_of v [] ino (i / 4096)) i ≡ byte_in f (disk_of v [] ino (i / 4096)) i

-- what is found of these words, in a volume in which no entry is live
abbrev pub ShowsTree : Volume → Words → List TreeEntry → Type 0
ShowsTree v g left = (live_entries v g ≡ []) × IsTreeOfContent (found v [] g) left

-- THE BATCH AND WHAT THE CALLS SEE, behind a change or a call: all of the World in POSIX mode but the medium.
pub record IsBatch (w : Sides) (f : Words) (start : State) (front later : List Item) : Type 0 where
  pub cut : BatchStands w f (run start (front ++ later))
  pub live : Stands (sized w.lengths w.batch) w.staged f w.numbers (run start (front ++ later))
  pub lengths : AreLengths w (run start (front ++ later))
  pub blocks : UsesNoFreed w
  pub cuts : KeepsCutBytes w start front later

-- at most one call more, which is no `fsync` that returned ok, and puts nothing that the medium shows
abbrev pub AddsQuietly : State → List Item → List Item → State → List Item → Type 0
AddsQuietly start front later medium [] = Unit {0}
AddsQuietly start front later medium (item ∷ []) = (syncs item ≡ false) × LeavesMedium start front later item medium
AddsQuietly start front later medium (item ∷ (second ∷ more)) = ⊥

-- A WRITE BELOW THE PUBLISHED LENGTH, which may stage blocks besides: from `first` up to `last` of its file the words are the
-- call's, in the committed blocks, which are settled; nothing else that the medium shows differs. The call puts into no other file.
pub record WritesPublished (w : Sides) (f h : Words) (s : State) (c : Unfinished) (ino first last : ℕ) : Type 0 where
  pub file : (inode w.batch ino).kind ≡ File
  pub settled : (i : ℕ) → first ≤ i → i < last → (b : ℕ) × (disk_of w.batch [] ino (i / 4096) ≡ Some b) × IsSettled w ino (i / 4096) b
  pub puts : (i b : ℕ) → first ≤ i → i < last → disk_of w.batch [] ino (i / 4096) ≡ Some b
      → value_put s c (number w.numbers ino) i ≡ Some (byte_of h (4096 * b + i % 4096))
  pub beyond : (i : ℕ) → ((first ≤ i) × (i < last) → ⊥) → i < size_of w.batch [] ino → value_put s c (number w.numbers ino) i ≡ None
  pub own : (n i : ℕ) → n ≢ number w.numbers ino → value_put s c n i ≡ None
  pub published : last ≤ size_of w.batch [] ino
  pub others : (j i : ℕ) → (inode w.committed j).kind ≡ File → i < size_of w.committed [] j → ((j ≡ ino) × (first ≤ i) × (i < last) → ⊥)
      → byte_in h (disk_of w.committed [] j (i / 4096)) i ≡ byte_in f (disk_of w.committed [] j (i / 4096)) i
