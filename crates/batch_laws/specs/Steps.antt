-- Steps of the batch: what two Worlds and its blocks make of it, and the log lines behind it, each law as one statement.
use Rattle.std.specs.Prelude.{◌≡◌, ◌⊎◌, ◌<◌, ℕ, true, List, [], ◌++◌, length, Option, Some}
use Rattle.eof_laws.specs.live_model.pm_model.declared.Cell.{Cell}
use Rattle.eof_laws.specs.live_model.pm_model.Words.{Words}
use Rattle.eof_laws.specs.live_model.layout_model.declared.lines.Draft.{Draft}
use Rattle.eof_laws.specs.live_model.layout_model.declared.lines.Kind.TheVariants.{Staging}
use Rattle.eof_laws.specs.live_model.extent_model.Extents.{disk_at}
use Rattle.eof_laws.specs.live_model.image_model.Content.{disk_of}
use Rattle.eof_laws.specs.live_model.image_model.Live.{is_live}
use Rattle.eof_laws.specs.live_model.image_model.Placed.{block_at}
use Rattle.eof_laws.specs.live_model.image_model.Volume.{chain, extents, inode, Volume}
use Rattle.eof_laws.specs.live_model.file_table.Files.{Files}
use Rattle.eof_laws.specs.live_model.list_laws.Members.{In}
use Rattle.eof_laws.specs.live_model.commute_laws.posix_types.declared.item.Item.{Item}
use Rattle.eof_laws.specs.live_model.posix_spec.Run.{run}
use Rattle.eof_laws.specs.live_model.posix_spec.State.{State}
use Rattle.eof_laws.specs.live_model.posix_laws.Cuts.{cut_of}
use Rattle.eof_laws.specs.live_model.world_model.Jobs.{Job}
use Rattle.eof_laws.specs.live_model.world_model.Lines.{AreLinesOut}
use Rattle.eof_laws.specs.live_model.world_model.Stands.{IsUsed, number}
use Rattle.eof_laws.specs.live_model.world_step_laws.Worlds.{IsWorld}
use Rattle.posix_mode_laws.specs.Batch.{IsBatch}
use Rattle.posix_mode_laws.specs.Sides.{IsFresh, KeepsCutBytes, Sides, sized, UsesNoFreed}
use Rattle.batch_laws.specs.Standing.{as_claims, staged_of}

-- ---- two Worlds

-- The sides are those of a batch with what is kept of files: the staged runs as entries, all of which would be live, and the lengths.
pub record AreSidesOf (x : Sides) (v : Volume) (files : Files) : Type 0 where
  pub batch : x.batch ≡ v
  pub staged : x.staged ≡ staged_of v files
  pub lengths : x.lengths ≡ files.sizes
  pub count : length files.sizes ≡ length v.inodes
  pub alive : (d : Draft) → In d (staged_of v files) → is_live v d ≡ true

-- TWO WORLDS MAKE THE BATCH: that of the calls, and that of the batch as it would be committed; with the laws of its blocks and of bytes that
-- were cut off, which no World says.
abbrev pub WorldsMakeBatch : Type 0
WorldsMakeBatch =
    (x : Sides) (v : Volume) (files : Files) (f : Words) (start : State) (front later : List Item) (count : ℕ) → AreSidesOf x v files
    → IsWorld (sized files.sizes v) (as_claims (staged_of v files)) [] f x.numbers (run start (front ++ later)) count
    → IsWorld v [] [] f x.numbers (cut_of (run start (front ++ later))) count → UsesNoFreed x → KeepsCutBytes x start front later → IsBatch x f start front later

-- ---- blocks

-- the volume has the block in a staging file
abbrev pub IsOfStaging : Volume → ℕ → Type 0
IsOfStaging v b = (ino : ℕ) × (place : ℕ) × ((inode v ino).kind ≡ Staging) × (disk_at (extents v ino) place ≡ Some b)

-- Where the blocks of a batch come from: a block of a file was there, in the same file, or it is one of these, or of a staging file of the batch
-- before; one of a staging file is one of these, or was one; and a chain is as it was, with its map, or in these blocks.
pub record TakesBlocks (w x : Sides) (blocks : List ℕ) : Type 0 where
  pub committed : x.committed ≡ w.committed
  pub committed_numbers : x.committed_numbers ≡ w.committed_numbers
  pub files : (ino block b : ℕ) → IsUsed x.batch ino → disk_of x.batch [] ino block ≡ Some b
      → (IsUsed w.batch ino × (disk_of w.batch [] ino block ≡ Some b) × (number x.numbers ino ≡ number w.numbers ino)) ⊎ (In b blocks ⊎ IsOfStaging w.batch b)
  pub staging : (ino block b : ℕ) → (inode x.batch ino).kind ≡ Staging → disk_at (extents x.batch ino) block ≡ Some b → In b blocks ⊎ IsOfStaging w.batch b
  pub chains : (ino : ℕ) → ((chain x.batch ino ≡ chain w.batch ino) × (extents x.batch ino ≡ extents w.batch ino))
      ⊎ ((k : ℕ) → k < length (chain x.batch ino) → In (block_at (chain x.batch ino) k) blocks)

-- So the batch uses no block that it freed, where these are none of the medium's.
abbrev pub BlocksStay : Type 0
BlocksStay = (w x : Sides) (blocks : List ℕ) → UsesNoFreed w → TakesBlocks w x blocks → ((b : ℕ) → In b blocks → IsFresh w.committed b) → UsesNoFreed x

-- ---- log lines

-- Lines that are out look at the geometry and the lap of a volume alone, so they are those of the medium and of the batch.
abbrev pub LinesOfOne : Type 0
LinesOfOne =
    (v w : Volume) (cells : ℕ → Cell) (first : Words) (claims : List (ℕ × Draft)) (jobs : List Job) (slots : List (Option ℕ)) → w.geometry ≡ v.geometry → w.base ≡ v.base
    → AreLinesOut v cells first claims jobs slots → AreLinesOut w cells first claims jobs slots
