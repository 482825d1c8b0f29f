-- A call that writes bytes of its file where they lie, as far as it came, and what a further part of it leaves.
use Rattle.std.specs.Prelude.{◌≡◌, ◌≢◌, ◌⊎◌, ◌<◌, ◌≤◌, ◌+◌, ◌*◌, ◌/◌, ◌++◌, ℕ, None, Some, IsSome, true, List, length, slice_index}
use Rattle.live_step_laws.specs.k_split_laws.pm_model.Frames.{KeepsSingle, SameLent}
use Rattle.live_step_laws.specs.k_split_laws.pm_model.Images.{Follows}
use Rattle.live_step_laws.specs.k_split_laws.pm_model.Words.{byte_of, Words}
use Rattle.live_step_laws.specs.k_split_laws.layout_model.Journal.{journaled}
use Rattle.live_step_laws.specs.k_split_laws.layout_model.declared.lines.Draft.{Draft}
use Rattle.live_step_laws.specs.k_split_laws.layout_model.Places.{Geometry, is_data_block}
use Rattle.live_step_laws.specs.k_split_laws.image_model.Content.{disk_of}
use Rattle.live_step_laws.specs.k_split_laws.layout_model.declared.lines.Kind.TheVariants.{File}
use Rattle.live_step_laws.specs.k_split_laws.image_model.Volume.{inode, Volume}
use Rattle.live_step_laws.specs.k_split_laws.k_journal.declared.outcomes.Commit.{Commit}
use Rattle.live_step_laws.specs.k_split_laws.k_split_model.View.{View}
use Rattle.live_step_laws.specs.k_split_laws.k_split.Bytes.{IsOverwriteCut, IsOverwriteDone}
use Rattle.live_step_laws.specs.k_split_laws.list_laws.Members.{In}
use Rattle.live_step_laws.specs.k_split_laws.posix_types.declared.call.Mode.{Mode}
use Rattle.live_step_laws.specs.k_split_laws.posix_types.declared.item.Item.{Item}
use Rattle.live_step_laws.specs.k_split_laws.posix_tables.Bytes.{overwritten}
use Rattle.live_step_laws.specs.k_split_laws.posix_tables.Open.{Tables}
use Rattle.live_step_laws.specs.k_split_laws.posix_spec.Run.{run}
use Rattle.live_step_laws.specs.k_split_laws.posix_spec.State.{State}
use Rattle.live_step_laws.specs.crash_spec.Sync.{file_bytes, IsPartOf}
use Rattle.live_step_laws.specs.commute_laws.Needs.{Flight}
use Rattle.live_step_laws.specs.world_step_laws.Parts.{FliesWith, part_of}
use Rattle.live_step_laws.specs.k_split_laws.Left.{IsLeftOf}
use Rattle.live_step_laws.specs.world_model.Jobs.{Job, live_claims}
use Rattle.live_step_laws.specs.world_model.Stands.{number}
use Rattle.live_step_laws.specs.world_image_laws.Back.{IsKeptBackAmong}
use Rattle.live_step_laws.specs.block_counts.declared.TheConstants.{LONGEST_FILE, LONGEST_WRITE}
use Rattle.write_plan.specs.file_overlay.Runs.{staged_at}
use Rattle.write_plan.specs.live_model.file_table.Files.{Files, runs_in}
use Rattle.write_plan.specs.live_model.Standing.{Kept, StandsAt}
use Rattle.in_place.specs.Gaps.{with_files}
use Rattle.in_place.specs.Holes.{IsPresent}

-- A CALL WRITES ITS FILE IN PLACE, AND CAME SO FAR: it was in flight beside the jobs that are out, in a state from which the World stands together in that
-- after the call but that its file has these bytes now, each as the call makes it or, below the old end, as it was.
pub record Placing (k : View) (t : Tables) (files : Files) (ino : ℕ) (now : List ℕ) : Type 0 where
  pub g : Geometry
  pub kept : Kept
  pub n : ℕ
  pub s : State
  pub sync : s.mode ≡ Mode.Sync
  pub f : Flight
  pub stands : StandsAt g k t (with_files kept files) true n (part_of s f now)
  pub file : (inode k.volume ino).kind ≡ File
  pub node : f.node ≡ number stands.numbers ino
  pub others : (j : Job) → In j stands.jobs → j.draft.ino ≢ ino
  pub flies : FliesWith s f stands.numbers stands.jobs
  pub part : IsPartOf (file_bytes s f.node) f.whole now

-- so it goes on over another K-Split, with other bytes found
pub record PlacesOn (k : View) (t : Tables) (files : Files) (ino : ℕ) (now : List ℕ) (p : Placing k t files ino now) (l : View) (then : List ℕ) : Type 0 where
  pub stands : StandsAt p.g l t (with_files p.kept files) true p.n (part_of p.s p.f then)
  pub jobs_are : stands.jobs ≡ p.stands.jobs
  pub numbers_are : stands.numbers ≡ p.stands.numbers

-- THE BYTES MAY BE WRITTEN THERE: they are those of the call, no more than a write has, below the file's end, and each lies in a block that the file has.
pub record CanPlace (k : View) (files : Files) (ino at : ℕ) (bytes : List ℕ) : Type 0 where
  pub t : Tables
  pub now : List ℕ
  pub placing : Placing k t files ino now
  pub short : length bytes ≤ LONGEST_WRITE
  pub fits : at + length bytes ≤ LONGEST_FILE
  pub within : at + length bytes ≤ length now
  pub puts : (i : ℕ) → i < length bytes → slice_index placing.f.whole (at + i) ≡ slice_index bytes i
  pub present : (i : ℕ) → at ≤ i → i < at + length bytes → IsPresent k.volume files ino (i / 4096)

-- So many bytes from one on are one piece: in one staged block, or in none.
abbrev pub IsOnePiece : Files → ℕ → ℕ → ℕ → Type 0
IsOnePiece files ino at count =
    ((at + count ≤ 4096 * (at / 4096) + 4096) × IsSome (staged_at (runs_in files ino) (at / 4096)))
    ⊎ ((i : ℕ) → at ≤ i → i < at + count → staged_at (runs_in files ino) (i / 4096) ≡ None)

-- What writing a piece answers, by inode x and the place in it: done, cut off, or the power was off before.
abbrev pub IsPieceAnswer : ℕ → ℕ → List ℕ → View → View → Commit → Type 0
IsPieceAnswer x place bytes k l Commit.Done = IsOverwriteDone x place bytes k l
IsPieceAnswer x place bytes k l Commit.PowerLost = (l ≡ record k { lost = true }) ⊎ IsOverwriteCut x place bytes k l

-- EACH BYTE OF OTHER BLOCKS IS AS IT WAS: of those that have none of these bytes of the file.
abbrev pub SameBeside : Volume → List Draft → ℕ → ℕ → ℕ → Words → Words → Type 0
SameBeside v live ino at count before image =
    (b i : ℕ) → is_data_block v.geometry b ≡ true → i < 4096 → ((j : ℕ) → j < count → disk_of v live ino ((at + j) / 4096) ≢ Some b)
    → byte_of (journaled image) (4096 * b + i) ≡ byte_of (journaled before) (4096 * b + i)

-- THEY ARE WRITTEN, and durable: cells alone are others, with the same words lent; and the call came further by them.
pub record Places (k l : View) (files : Files) (ino at : ℕ) (bytes : List ℕ) : Type 0 where
  pub same : l ≡ record k { cells = l.cells }
  pub size : length l.cells ≡ length k.cells
  pub lent : SameLent k.cells l.cells
  pub singles : KeepsSingle k.cells l.cells
  pub beside : (t : Tables) (now : List ℕ) (p : Placing k t files ino now) → Follows (SameBeside k.volume (live_claims k.volume p.kept.claims) ino at (length bytes)) k.cells l.cells
  pub goes_on : (t : Tables) (now : List ℕ) (p : Placing k t files ino now) → at + length bytes ≤ length now
      → ((i : ℕ) → i < length bytes → slice_index p.f.whole (at + i) ≡ slice_index bytes i)
      → PlacesOn k t files ino now p l (overwritten now at bytes)

-- THE POWER WENT in it: the device is left of the one before; and each image, once all is put back, is kept with the call at any place among those of
-- the jobs.
pub record LosesPlacing (k l : View) (files : Files) (ino at : ℕ) (bytes : List ℕ) : Type 0 where
  pub off : l ≡ record k { cells = l.cells; lost = true }
  pub left : (t : Tables) (now : List ℕ) (p : Placing k t files ino now) → IsLeftOf p.g k.cells l.cells
  pub beside : (t : Tables) (now : List ℕ) (p : Placing k t files ino now) → Follows (SameBeside k.volume (live_claims k.volume p.kept.claims) ino at (length bytes)) k.cells l.cells
  pub kept : (t : Tables) (now : List ℕ) (p : Placing k t files ino now) (start : State) (history : List Item) (a b : List Job)
      → p.s ≡ run start history → p.stands.jobs ≡ a ++ b → at + length bytes ≤ length now
      → ((i : ℕ) → i < length bytes → slice_index p.f.whole (at + i) ≡ slice_index bytes i)
      → IsKeptBackAmong k.volume l.cells p.kept.first p.kept.claims a p.f.begun b start history

abbrev pub IsPlaceAnswer : View → View → Files → ℕ → ℕ → List ℕ → Commit → Type 0
IsPlaceAnswer k l files ino at bytes Commit.Done = Places k l files ino at bytes
IsPlaceAnswer k l files ino at bytes Commit.PowerLost = LosesPlacing k l files ino at bytes
