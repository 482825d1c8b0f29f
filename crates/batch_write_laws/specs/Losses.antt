-- The power goes while words are written, each law as one statement.
use Rattle.std.specs.Prelude.{◌≡◌, ◌≢◌, ◌⊎◌, ◌<◌, ◌≤◌, ◌+◌, ◌*◌, ◌/◌, ◌%◌, ℕ, true, false, List, [], ◌∷◌, Some, slice_index}
use Rattle.live_model.specs.pm_model.declared.Cell.{Cell}
use Rattle.live_model.specs.pm_model.Images.{Follows}
use Rattle.live_model.specs.pm_model.Words.{byte_of, Words}
use Rattle.live_model.specs.layout_model.Journal.{journaled}
use Rattle.live_model.specs.layout_model.Places.{Geometry, is_data_block}
use Rattle.live_model.specs.layout_model.declared.lines.Kind.TheVariants.{File}
use Rattle.live_model.specs.image_model.Content.{disk_of}
use Rattle.live_model.specs.image_model.Reading.{Reads}
use Rattle.live_model.specs.image_model.Volume.{inode, Volume}
use Rattle.live_model.specs.file_table.Files.{Files}
use Rattle.live_model.specs.k_split_model.View.{View}
use Rattle.live_model.specs.commute_laws.posix_types.declared.item.Item.{Item}
use Rattle.live_model.specs.posix_laws.Puts.{put_bytes}
use Rattle.live_model.specs.posix_spec.Put.{Put}
use Rattle.live_model.specs.posix_spec.Run.{begun, run, Unfinished}
use Rattle.live_model.specs.posix_spec.State.{State}
use Rattle.live_model.specs.world_image_laws.Back.{IsKeptBack}
use Rattle.posix_mode_laws.specs.Batch.{KeepsShown}
use Rattle.batch_laws.specs.Ready.{GoesReady}
use Rattle.batch_laws.specs.Steps.{IsOfStaging}
use Rattle.batch_publish_laws.specs.Joins.{IsBase, IsWrittenFrom}
use Rattle.batch_write_laws.specs.Words.{put_end}
use Rattle.batch_write_laws.specs.Writes.{PutsInto}

-- An image reads as the committed volume still, and its words are those of the one before from which it comes, but in data blocks, by this
-- rule.
pub record LosesWords (v : Volume) (Lost : Words → Words → Type 0) (before image : Words) : Type 0 where
  pub reads : Reads v.geometry (journaled image) v
  pub beside : (i : ℕ) → is_data_block v.geometry (i / 512) ≡ false → image i ≡ before i
  pub words : Lost (journaled before) (journaled image)

-- NOTHING THAT THE MEDIUM SHOWS DIFFERS: fresh blocks, those of staging files, a tail. The device keeps the promise once its log lines are
-- put back, whatever is unfinished.
abbrev pub ShownKeepsBack : Type 0
ShownKeepsBack =
    (g : Geometry) (k : View) (d : List Cell) (files : Files) (count : ℕ) (numbers : List ℕ) (start : State) (history : List Item) (first : Words) (unfinished : List Unfinished)
    → GoesReady g k files count numbers start history → Follows (LosesWords k.committed (KeepsShown k.committed)) k.cells d
    → IsKeptBack k.volume d first [] [] start history unfinished

-- It looks at the geometry and the lap of a volume alone: so what is kept back by the volume within a call is so by that before it.
abbrev pub KeptBackOfOne : Type 0
KeptBackOfOne =
    (v w : Volume) (d : List Cell) (first : Words) (start : State) (history : List Item) (unfinished : List Unfinished) → w.geometry ≡ v.geometry → w.base ≡ v.base
    → IsKeptBack v d first [] [] start history unfinished → IsKeptBack w d first [] [] start history unfinished

-- THE POWER WENT WHILE STAGING FILES GOT BLOCKS, HOLES WERE FILLED, or in whatever change of maps: where the batch was as it was, or was committed
-- before, and each image reads as the volume that was committed last.
abbrev pub JoinKeepsBack : Type 0
JoinKeepsBack =
    (g : Geometry) (k l base : View) (files : Files) (count : ℕ) (numbers : List ℕ) (start : State) (history : List Item) (blocks : List ℕ) (first : Words) (unfinished : List Unfinished)
    → GoesReady g k files count numbers start history → IsBase k base → IsWrittenFrom blocks base k l → IsKeptBack k.volume l.cells first [] [] start history unfinished

-- Blocks of staging files have any bytes, and a file in its own map any from a byte on; no other byte of a data block differs.
pub record LosesTail (v : Volume) (ino from : ℕ) (f h : Words) : Type 0 where
  pub others : (b j : ℕ) → is_data_block v.geometry b ≡ true → j < 4096 → (IsOfStaging v b → ⊥) → ((i : ℕ) → from ≤ i → i % 4096 ≡ j → disk_of v [] ino (i / 4096) ≢ Some b)
      → byte_of h (4096 * b + j) ≡ byte_of f (4096 * b + j)

-- THE CLEANING OF A TAIL WAS CUT OFF, from what is published on, where nothing has gathered: the medium shows nothing of it.
abbrev pub TailKeepsBack : Type 0
TailKeepsBack =
    (g : Geometry) (k : View) (d : List Cell) (files : Files) (count : ℕ) (numbers : List ℕ) (start : State) (history : List Item) (first : Words) (unfinished : List Unfinished) (ino from : ℕ)
    → GoesReady g k files count numbers start history → k.committed ≡ k.volume → (inode k.volume ino).kind ≡ File → (inode k.volume ino).size ≤ from
    → Follows (LosesWords k.committed (LosesTail k.volume ino from)) k.cells d → IsKeptBack k.volume d first [] [] start history unfinished

-- The words of a write that was cut off: in blocks of the file's own map each byte of the range is the old one or the new one; blocks of
-- staging files have any bytes; and no other byte of a data block differs.
pub record LosesPut (v : Volume) (ino first last : ℕ) (whole : List ℕ) (f h : Words) : Type 0 where
  pub each : (i b : ℕ) → first ≤ i → i < last → disk_of v [] ino (i / 4096) ≡ Some b
      → (byte_of h (4096 * b + i % 4096) ≡ byte_of f (4096 * b + i % 4096)) ⊎ (byte_of h (4096 * b + i % 4096) ≡ slice_index whole i)
  pub others : (b j : ℕ) → is_data_block v.geometry b ≡ true → j < 4096 → (IsOfStaging v b → ⊥) → ((i : ℕ) → first ≤ i → i < last → i % 4096 ≡ j → disk_of v [] ino (i / 4096) ≢ Some b)
      → byte_of h (4096 * b + j) ≡ byte_of f (4096 * b + j)

-- A WRITE WAS CUT OFF, in place, while it staged, or in both: the device keeps the promise once its log lines are put back, with the call
-- unfinished.
abbrev pub WriteKeepsBack : Type 0
WriteKeepsBack =
    (g : Geometry) (k : View) (d : List Cell) (files : Files) (count : ℕ) (numbers : List ℕ) (start : State) (history : List Item) (first : Words) (item : Item) (ino : ℕ) (p : Put)
    → GoesReady g k files count numbers start history → PutsInto k.volume numbers (run start history) item ino p
    → Follows (LosesWords k.committed (LosesPut k.volume ino p.place (put_end p) (put_bytes (run start history) p))) k.cells d
    → IsKeptBack k.volume d first [] [] start history (begun item ∷ [])
