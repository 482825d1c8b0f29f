-- Writes that returned, each law as one statement.
use Rattle.std.specs.Prelude.{◌≡◌, ◌≢◌, ◌⊎◌, ◌<◌, ◌≤◌, ◌+◌, ◌*◌, ◌/◌, ◌%◌, ◌^◌, ℕ, false, List, [], ◌∷◌, ◌++◌, length, Some, IsSome}
use Rattle.live_model.specs.pm_model.Frames.{KeepsSingle, SameLent}
use Rattle.live_model.specs.pm_model.Images.{Follows, IsImage}
use Rattle.live_model.specs.pm_model.Words.{byte_of, Words}
use Rattle.live_model.specs.layout_model.Journal.{journaled}
use Rattle.live_model.specs.layout_model.Places.{Geometry, is_data_block, reserve}
use Rattle.live_model.specs.layout_model.declared.lines.Draft.{Draft}
use Rattle.live_model.specs.layout_model.declared.lines.Kind.TheVariants.{File, Staging}
use Rattle.live_model.specs.extent_model.Extents.{disk_at}
use Rattle.live_model.specs.image_model.Content.{disk_of}
use Rattle.live_model.specs.image_model.Room.{unused_blocks}
use Rattle.live_model.specs.image_model.Rules.{AreApart}
use Rattle.live_model.specs.image_model.Volume.{extents, inode, Volume}
use Rattle.live_model.specs.file_overlay.declared.runs.Run.{Run}
use Rattle.live_model.specs.file_table.Files.{Files, runs_in, size_in}
use Rattle.live_model.specs.k_split.Order.{IsInOrder}
use Rattle.live_model.specs.k_split_model.View.{View}
use Rattle.live_model.specs.list_laws.Members.{In}
use Rattle.live_model.specs.commute_laws.posix_types.declared.item.Item.{Item}
use Rattle.live_model.specs.posix_laws.Puts.{put_bytes}
use Rattle.live_model.specs.posix_spec.Put.{Put, put_by}
use Rattle.live_model.specs.posix_spec.Run.{run}
use Rattle.live_model.specs.posix_spec.State.{State}
use Rattle.live_model.specs.world_model.Jobs.{HoldsWhole}
use Rattle.live_model.specs.world_model.Stands.{number}
use Rattle.posix_mode_laws.specs.Sides.{IsSettled, Sides}
use Rattle.batch_laws.specs.Ready.{GoesReady}
use Rattle.batch_laws.specs.Standing.{draft_of_run, sides_of, staged_of}
use Rattle.batch_write_laws.specs.Words.{WritesWords, put_end}

-- ---- the call

-- THE CALL PUTS BYTES INTO A FILE of the volume: a `write`, a `pwrite`, or an append by its handle, that no row refuses.
pub record PutsInto (v : Volume) (numbers : List ℕ) (s : State) (item : Item) (ino : ℕ) (p : Put) : Type 0 where
  pub is : put_by s item.who item.call ≡ Some p
  pub node : p.node ≡ number numbers ino
  pub file : (inode v ino).kind ≡ File

-- ---- K-Split

-- No word beside the data blocks differs, and those of data blocks by this rule.
pub record WritesData (g : Geometry) (Wrote : Words → Words → Type 0) (before image : Words) : Type 0 where
  pub beside : (i : ℕ) → is_data_block g (i / 512) ≡ false → image i ≡ before i
  pub words : Wrote (journaled before) (journaled image)

-- K-SPLIT WROTE WORDS OF DATA BLOCKS, which are durable, and else is as it was: each image comes from one before, by this rule.
pub record HasWritten (g : Geometry) (Wrote : Words → Words → Type 0) (k l : View) : Type 0 where
  pub same : l ≡ record k { cells = l.cells }
  pub order : IsInOrder l
  pub lent : SameLent k.cells l.cells
  pub singles : KeepsSingle k.cells l.cells
  pub each_image : Follows (WritesData g Wrote) k.cells l.cells

-- Published bytes of the range lie in blocks of the file's own map that are settled: the medium has them at the same place.
abbrev pub AreSettledIn : Sides → ℕ → ℕ → ℕ → Type 0
AreSettledIn x ino first last =
    (i : ℕ) → first ≤ i → i < last → i < (inode x.batch ino).size → (b : ℕ) × (disk_of x.batch [] ino (i / 4096) ≡ Some b) × IsSettled x ino (i / 4096) b

-- ---- a write in place

abbrev pub IsNoBlock : ℕ → Type 0
IsNoBlock b = ⊥

-- A WRITE THAT DOES NOT REACH PAST THE END: its bytes go where they lie, in staged blocks, in blocks of the map, or, where a published one
-- is staged, in both copies; bytes below the end that are not published yet go into the staged block alone. Nothing is staged.
abbrev pub InPlaceGoesOn : Type 0
InPlaceGoesOn =
    (g : Geometry) (k l : View) (files : Files) (count : ℕ) (numbers : List ℕ) (start : State) (history : List Item) (item : Item) (ino : ℕ) (p : Put)
    → (ready : GoesReady g k files count numbers start history) → PutsInto k.volume numbers (run start history) item ino p → put_end p ≤ size_in files ino
    → AreSettledIn (sides_of k files ready.going.old_numbers numbers) ino p.place (put_end p)
    → HasWritten g (WritesWords k.volume (staged_of k.volume files) ino p.place (put_end p) (put_bytes (run start history) p) IsNoBlock) k l
    → GoesReady g l files count numbers start (history ++ item ∷ [])

-- ---- a run is staged

-- the blocks of a run
abbrev pub IsBlockOf : Volume → Run → ℕ → Type 0
IsBlockOf v r b = (n : ℕ) × (n < r.count) × (disk_at (extents v r.staging) (r.staging_block + n) ≡ Some b)

-- A RUN IS LAID behind those of its file, which has this size then: its blocks are those of a staging file, and in no other run that is
-- staged; nothing else that is kept changes; and free blocks are left to publish it.
pub record LaysRun (v : Volume) (files e : Files) (ino size : ℕ) (r : Run) : Type 0 where
  pub count : length e.sizes ≡ length files.sizes
  pub runs : runs_in e ino ≡ runs_in files ino ++ r ∷ []
  pub size_is : size_in e ino ≡ size
  pub others : (j : ℕ) → j ≢ ino → (runs_in e j ≡ runs_in files j) × (size_in e j ≡ size_in files j)
  pub order : r.order ≡ (inode v ino).applied + length (runs_in files ino) + 1
  pub staging : (inode v r.staging).kind ≡ Staging
  pub staged : (n : ℕ) → n < r.count → IsSome (disk_at (extents v r.staging) (r.staging_block + n))
  pub apart : (d : Draft) → In d (staged_of v files) → AreApart d (draft_of_run v e ino r)
  pub generation : (inode v ino).generation < 2 ^ 32
  pub room : length (staged_of v files) + 1 + reserve v.geometry ≤ unused_blocks v + 3

-- It has each byte of the call that lies past the old end, and begins in the block of the old end or in that of the first byte.
pub record HasTheRest (r : Run) (old : ℕ) (p : Put) : Type 0 where
  pub begins : (4096 * r.file_block ≤ old) ⊎ (4096 * r.file_block ≤ p.place)
  pub ends : put_end p ≤ 4096 * (r.file_block + r.count)
  pub past : old < put_end p

-- Between the old end and the run a block of the file reads zero, and there is one only where nothing but what is kept came since the commit.
-- (So it is behind the cleaning of a tail; else the bytes between have no block.)
abbrev pub IsGapClear : (g : Geometry) (k : View) (files : Files) (count : ℕ) (numbers : List ℕ) (start : State) (history : List Item) → ℕ → Run → GoesReady g k files count numbers start history → Type 0
IsGapClear g k files count numbers start history ino r ready =
    (i b : ℕ) → size_in files ino ≤ i → i < 4096 * r.file_block → disk_of k.volume (staged_of k.volume files) ino (i / 4096) ≡ Some b
    → (ready.going.later ≡ []) × ((image : Words) → IsImage k.cells image → byte_of (journaled image) (4096 * b + i % 4096) ≡ 0)

-- the words of a write that stages a run: those of its bytes in place, and in the run the file's bytes, with zeros behind them
pub record StagesWords (v : Volume) (files e : Files) (ino first last : ℕ) (whole : List ℕ) (r : Run) (f h : Words) : Type 0 where
  pub place : WritesWords v (staged_of v e) ino first last whole (IsBlockOf v r) f h
  pub run : HoldsWhole v h (draft_of_run v e ino r) whole

-- A WRITE THAT REACHES PAST THE END: what lies in the blocks of the run is staged, and not logged; what lies before them goes in place, into
-- both copies where a published byte is staged; so does a published byte that the run has.
abbrev pub StagedGoesOn : Type 0
StagedGoesOn =
    (g : Geometry) (k l : View) (files e : Files) (count : ℕ) (numbers : List ℕ) (start : State) (history : List Item) (item : Item) (ino : ℕ) (p : Put) (r : Run)
    → (ready : GoesReady g k files count numbers start history) → PutsInto k.volume numbers (run start history) item ino p
    → LaysRun k.volume files e ino (length (put_bytes (run start history) p)) r → HasTheRest r (size_in files ino) p
    → IsGapClear g k files count numbers start history ino r ready
    → AreSettledIn (sides_of k files ready.going.old_numbers numbers) ino p.place (put_end p)
    → HasWritten g (StagesWords k.volume files e ino p.place (put_end p) (put_bytes (run start history) p) r) k l
    → GoesReady g l e count numbers start (history ++ item ∷ [])
