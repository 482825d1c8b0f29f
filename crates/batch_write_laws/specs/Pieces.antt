-- What K-Split answers where bytes are written over in place, as words of a write: the rules, and each law as one statement.
use Rattle.std.specs.Prelude.{◌≡◌, ◌≢◌, ◌⊎◌, ◌<◌, ◌≤◌, ◌+◌, ◌-◌, ◌*◌, ◌/◌, ◌%◌, ℕ, true, IsSome, List, [], ◌∷◌, ◌++◌, length, max, min, Some, slice_index}
use Rattle.live_model.specs.pm_model.Images.{Follows, IsImage}
use Rattle.live_model.specs.pm_model.Words.{byte_of, Words}
use Rattle.live_model.specs.layout_model.Journal.{journaled}
use Rattle.live_model.specs.layout_model.Places.{Geometry, is_data_block}
use Rattle.live_model.specs.layout_model.declared.lines.Draft.{Draft}
use Rattle.live_model.specs.layout_model.declared.lines.Kind.TheVariants.{File, Free}
use Rattle.live_model.specs.extent_model.Extents.{disk_at}
use Rattle.live_model.specs.image_model.Content.{byte_in, disk_of}
use Rattle.live_model.specs.image_model.Volume.{extents, inode, Volume}
use Rattle.live_model.specs.file_overlay.declared.runs.Run.{Run}
use Rattle.live_model.specs.file_table.Files.{Files, size_in}
use Rattle.live_model.specs.k_split.Bytes.{IsOverwriteCut, IsOverwriteDone}
use Rattle.live_model.specs.k_split_model.View.{View}
use Rattle.live_model.specs.commute_laws.posix_types.declared.item.Item.{Item}
use Rattle.live_model.specs.posix_laws.Puts.{put_bytes}
use Rattle.live_model.specs.posix_spec.Put.{Put}
use Rattle.live_model.specs.posix_spec.Run.{run}
use Rattle.live_model.specs.posix_spec.State.{State}
use Rattle.live_model.specs.world_model.Jobs.{HoldsWhole}
use Rattle.posix_mode_laws.specs.Sides.{IsSettled}
use Rattle.batch_laws.specs.Ready.{GoesReady}
use Rattle.batch_laws.specs.Standing.{draft_of_run, sides_of, staged_of}
use Rattle.batch_write_laws.specs.Losses.{LosesWords}
use Rattle.batch_write_laws.specs.Words.{put_end, WritesWords}
use Rattle.batch_write_laws.specs.Writes.{AreSettledIn, HasTheRest, HasWritten, IsGapClear, IsNoBlock, LaysRun, PutsInto}

-- ---- bytes of an inode, of a file or of a staging file, by its map

-- They are written over, from a place on, and no other byte of a data block differs.
pub record WritesAt (v : Volume) (x place : ℕ) (bytes : List ℕ) (f h : Words) : Type 0 where
  pub each : (q b : ℕ) → place ≤ q → q < place + length bytes → disk_at (extents v x) (q / 4096) ≡ Some b → byte_of h (4096 * b + q % 4096) ≡ slice_index bytes (q - place)
  pub others : (b j : ℕ) → is_data_block v.geometry b ≡ true → j < 4096 → ((q : ℕ) → place ≤ q → q < place + length bytes → q % 4096 ≡ j → disk_at (extents v x) (q / 4096) ≢ Some b)
      → byte_of h (4096 * b + j) ≡ byte_of f (4096 * b + j)

-- or some of them.
pub record LosesAt (v : Volume) (x place : ℕ) (bytes : List ℕ) (f h : Words) : Type 0 where
  pub each : (q b : ℕ) → place ≤ q → q < place + length bytes → disk_at (extents v x) (q / 4096) ≡ Some b
      → (byte_of h (4096 * b + q % 4096) ≡ byte_of f (4096 * b + q % 4096)) ⊎ (byte_of h (4096 * b + q % 4096) ≡ slice_index bytes (q - place))
  pub others : (b j : ℕ) → is_data_block v.geometry b ≡ true → j < 4096 → ((q : ℕ) → place ≤ q → q < place + length bytes → q % 4096 ≡ j → disk_at (extents v x) (q / 4096) ≢ Some b)
      → byte_of h (4096 * b + j) ≡ byte_of f (4096 * b + j)

-- THE ANSWER Ok, and the power that went on the way
abbrev pub DoneIsWritten : Type 0
DoneIsWritten =
    (g : Geometry) (k l : View) (files : Files) (count : ℕ) (numbers : List ℕ) (start : State) (history : List Item) (x place : ℕ) (bytes : List ℕ)
    → GoesReady g k files count numbers start history → x < length k.volume.inodes → IsOverwriteDone x place bytes k l → HasWritten g (WritesAt k.volume x place bytes) k l

abbrev pub CutIsLost : Type 0
CutIsLost =
    (g : Geometry) (k l : View) (files : Files) (count : ℕ) (numbers : List ℕ) (start : State) (history : List Item) (x place : ℕ) (bytes : List ℕ)
    → GoesReady g k files count numbers start history → x < length k.volume.inodes → IsOverwriteCut x place bytes k l
    → Follows (LosesWords k.committed (LosesAt k.volume x place bytes)) k.cells l.cells

-- ---- one copy of bytes of a file

-- So many bytes of the file, as these entries have it, lie at a place of an inode: of a staging file, or its own.
pub record LiesAt (v : Volume) (live : List Draft) (ino at count x place : ℕ) : Type 0 where
  pub offset : place % 4096 ≡ at % 4096
  pub same : (i : ℕ) → i < count → disk_of v live ino ((at + i) / 4096) ≡ disk_at (extents v x) ((place + i) / 4096)
  pub some : (i : ℕ) → i < count → IsSome (disk_at (extents v x) ((place + i) / 4096))

-- From one byte up to another the copy that these entries show is written over, and no other byte of a data block differs.
pub record WritesCopy (v : Volume) (live : List Draft) (ino first last : ℕ) (whole : List ℕ) (f h : Words) : Type 0 where
  pub seen : (i : ℕ) → first ≤ i → i < last → byte_in h (disk_of v live ino (i / 4096)) i ≡ slice_index whole i
  pub others : (b j : ℕ) → is_data_block v.geometry b ≡ true → j < 4096 → ((i : ℕ) → first ≤ i → i < last → i % 4096 ≡ j → disk_of v live ino (i / 4096) ≢ Some b)
      → byte_of h (4096 * b + j) ≡ byte_of f (4096 * b + j)

-- ---- a write that stages a run, in its parts

-- Bytes before the run are written where the calls see them, and in the file's own map; and then what is published of the bytes that the run has is
-- written in the map alone.
abbrev pub WritesParts : Volume → List Draft → ℕ → Put → List ℕ → Run → Words → Words → Type 0
WritesParts v live ino p whole r f h =
    (u : Words) × WritesWords v live ino p.place (min (put_end p) (4096 * r.file_block)) whole IsNoBlock f u
    × WritesCopy v [] ino (max p.place (4096 * r.file_block)) (min (put_end p) (inode v ino).size) whole u h

-- A WRITE THAT REACHES PAST THE END, where the blocks of its run are filled: its parts are written, or there are none, and the run is laid.
abbrev pub PartsGoOn : Type 0
PartsGoOn =
    (g : Geometry) (k l : View) (files e : Files) (count : ℕ) (numbers : List ℕ) (start : State) (history : List Item) (item : Item) (ino : ℕ) (p : Put) (r : Run)
    → (ready : GoesReady g k files count numbers start history) → PutsInto k.volume numbers (run start history) item ino p
    → LaysRun k.volume files e ino (length (put_bytes (run start history) p)) r → HasTheRest r (size_in files ino) p
    → IsGapClear g k files count numbers start history ino r ready
    → AreSettledIn (sides_of k files ready.going.old_numbers numbers) ino p.place (put_end p)
    → ((image : Words) → IsImage k.cells image → HoldsWhole k.volume (journaled image) (draft_of_run k.volume e ino r) (put_bytes (run start history) p))
    → HasWritten g (WritesParts k.volume (staged_of k.volume files) ino p (put_bytes (run start history) p) r) k l
    → GoesReady g l e count numbers start (history ++ item ∷ [])

-- ---- settled blocks

-- A block of a file that the committed map of its inode has at the same place is settled, whatever node the inode was: a free inode has no map.
abbrev pub SettledIsSettled : Type 0
SettledIsSettled =
    (g : Geometry) (k : View) (files : Files) (count : ℕ) (numbers : List ℕ) (start : State) (history : List Item) (ino block b : ℕ)
    → (ready : GoesReady g k files count numbers start history) → ((i : ℕ) → (inode k.committed i).kind ≡ Free → extents k.committed i ≡ []) → (inode k.volume ino).kind ≡ File
    → disk_at (extents k.volume ino) block ≡ Some b → disk_at (extents k.committed ino) block ≡ disk_at (extents k.volume ino) block
    → IsSettled (sides_of k files ready.going.old_numbers numbers) ino block b
