-- Words that no file shows below its length: blocks of staging files are filled, and a tail is cleaned, each law as one statement. No
-- call ends.
use Rattle.std.specs.Prelude.{◌≡◌, ◌≢◌, ◌<◌, ◌+◌, ◌*◌, ◌/◌, ℕ, true, List, [], Some}
use Rattle.live_model.specs.pm_model.Words.{byte_of, Words}
use Rattle.live_model.specs.layout_model.Places.{Geometry, is_data_block}
use Rattle.live_model.specs.layout_model.declared.lines.Draft.{Draft}
use Rattle.live_model.specs.layout_model.declared.lines.Kind.TheVariants.{File}
use Rattle.live_model.specs.extent_model.Extents.{disk_at}
use Rattle.live_model.specs.image_model.Content.{byte_in, disk_of}
use Rattle.live_model.specs.image_model.Volume.{extents, inode, Volume}
use Rattle.live_model.specs.file_table.Files.{Files, size_in}
use Rattle.live_model.specs.k_split_model.View.{View}
use Rattle.live_model.specs.list_laws.Members.{In}
use Rattle.live_model.specs.commute_laws.posix_types.declared.item.Item.{Item}
use Rattle.live_model.specs.posix_spec.State.{State}
use Rattle.posix_mode_laws.specs.Batch.{KeepsShown}
use Rattle.batch_laws.specs.Ready.{GoesReady}
use Rattle.batch_laws.specs.Standing.{staged_of}
use Rattle.batch_laws.specs.Steps.{IsOfStaging}
use Rattle.batch_write_laws.specs.Words.{WritesWords}
use Rattle.batch_write_laws.specs.Writes.{HasWritten, IsNoBlock}

-- No byte of a file differs: below its length where the calls see it, below its published length in its own map, and on the medium.
pub record KeepsSeen (k : View) (files : Files) (f h : Words) : Type 0 where
  pub seen : (ino i : ℕ) → (inode k.volume ino).kind ≡ File → i < size_in files ino
      → byte_in h (disk_of k.volume (staged_of k.volume files) ino (i / 4096)) i ≡ byte_in f (disk_of k.volume (staged_of k.volume files) ino (i / 4096)) i
  pub mapped : KeepsShown k.volume f h
  pub medium : KeepsShown k.committed f h

-- The device goes on as it did, with the same front of the history kept.
pub record GoesLikewise (g : Geometry) (l : View) (files : Files) (count : ℕ) (numbers : List ℕ) (start : State) (history front later : List Item) : Type 0 where
  pub ready : GoesReady g l files count numbers start history
  pub front_is : ready.going.front ≡ front
  pub later_is : ready.going.later ≡ later

-- WORDS THAT NOTHING SHOWS are written.
abbrev pub WordsGoOn : Type 0
WordsGoOn =
    (g : Geometry) (k l : View) (files : Files) (count : ℕ) (numbers : List ℕ) (start : State) (history : List Item)
    → (ready : GoesReady g k files count numbers start history) → HasWritten g (KeepsSeen k files) k l
    → GoesLikewise g l files count numbers start history ready.going.front ready.going.later

-- a block of a staging file of which no run that is staged has it
pub record IsUnstagedBlock (v : Volume) (files : Files) (b : ℕ) : Type 0 where
  pub staging : IsOfStaging v b
  pub apart : (d : Draft) → In d (staged_of v files) → (j : ℕ) → j < d.count → disk_at (extents v d.staging) (d.staging_block + j) ≢ Some b

-- bytes of such blocks alone differ
abbrev pub FillsUnstaged : Volume → Files → Words → Words → Type 0
FillsUnstaged v files f h =
    (b i : ℕ) → is_data_block v.geometry b ≡ true → i < 4096 → (IsUnstagedBlock v files b → ⊥) → byte_of h (4096 * b + i) ≡ byte_of f (4096 * b + i)

-- BLOCKS OF STAGING FILES ARE FILLED, before a run of them is laid.
abbrev pub FillsGoOn : Type 0
FillsGoOn =
    (g : Geometry) (k l : View) (files : Files) (count : ℕ) (numbers : List ℕ) (start : State) (history : List Item)
    → (ready : GoesReady g k files count numbers start history) → HasWritten g (FillsUnstaged k.volume files) k l
    → GoesLikewise g l files count numbers start history ready.going.front ready.going.later

-- THE TAIL OF A FILE IS CLEANED, from its length on, where the calls see it; nothing has gathered: the medium is the batch.
abbrev pub TailGoesOn : Type 0
TailGoesOn =
    (g : Geometry) (k l : View) (files : Files) (count : ℕ) (numbers : List ℕ) (start : State) (history : List Item) (ino last : ℕ)
    → (ready : GoesReady g k files count numbers start history) → k.committed ≡ k.volume → (inode k.volume ino).kind ≡ File
    → HasWritten g (WritesWords k.volume (staged_of k.volume files) ino (size_in files ino) last [] IsNoBlock) k l
    → GoesLikewise g l files count numbers start history ready.going.front ready.going.later
