-- What zeroing the bytes behind the end of a file, in its last block, leaves, where a write begins in a later one.
use Rattle.std.specs.Prelude.{◌≡◌, ◌≢◌, ◌⊎◌, ◌*◌, ◌/◌, ℕ, Bool, true, false, List, [], ◌∷◌, length}
use Rattle.live_step_laws.specs.k_split_laws.pm_model.Frames.{KeepsSingle, SameLent}
use Rattle.live_step_laws.specs.k_split_laws.pm_model.Powers.{is_on, Supply}
use Rattle.live_step_laws.specs.k_split_laws.layout_model.declared.lines.Kind.TheVariants.{File}
use Rattle.live_step_laws.specs.k_split_laws.layout_model.Places.{Geometry}
use Rattle.live_step_laws.specs.k_split_laws.image_model.Volume.{inode}
use Rattle.write_plan.specs.live_model.file_table.Files.{Files, size_in}
use Rattle.in_place.specs.Zeros.{ReadZero}
use Rattle.live_step_laws.specs.k_split_laws.k_journal.declared.outcomes.Commit.{Commit}
use Rattle.live_step_laws.specs.k_split_laws.k_split_model.View.{View}
use Rattle.live_step_laws.specs.k_split_laws.k_split.Bytes.{IsOverwriteCut, IsOverwriteDone, tail_zeros}
use Rattle.live_step_laws.specs.k_split_laws.list_laws.Members.{In}
use Rattle.live_step_laws.specs.k_split_laws.Left.{IsLeftOf}
use Rattle.live_step_laws.specs.k_split_laws.posix_types.declared.item.Item.{Item}
use Rattle.live_step_laws.specs.k_split_laws.posix_tables.Open.{Tables}
use Rattle.live_step_laws.specs.k_split_laws.posix_spec.Run.{Unfinished, run}
use Rattle.live_step_laws.specs.k_split_laws.posix_spec.State.{State}
use Rattle.live_step_laws.specs.world_model.Jobs.{Job}
use Rattle.write_plan.specs.live_model.Losses.{KeepsWhenLost}
use Rattle.write_plan.specs.live_model.Standing.{Kept, StandsAt}

-- what the World keeps, with these files
abbrev pub with_files : Kept → Files → Kept
with_files kept files = record kept { files = files }

-- A World over this K-Split and these files, in which no job of the file is out.
pub record HasFile (k : View) (files : Files) (ino : ℕ) : Type 0 where
  pub g : Geometry
  pub t : Tables
  pub kept : Kept
  pub lines : Bool
  pub n : ℕ
  pub s : State
  pub stands : StandsAt g k t (with_files kept files) lines n s
  pub file : (inode k.volume ino).kind ≡ File
  pub others : (j : Job) → In j stands.jobs → j.draft.ino ≢ ino

-- It stands together in the same state over another K-Split, with the same jobs.
pub record Stays (k : View) (files : Files) (ino : ℕ) (has : HasFile k files ino) (l : View) : Type 0 where
  pub now : StandsAt has.g l has.t (with_files has.kept files) has.lines has.n has.s
  pub jobs_are : now.jobs ≡ has.stands.jobs
  pub numbers_are : now.numbers ≡ has.stands.numbers

-- THE BYTES FROM THE END OF THE FILE ON, UP TO THIS ONE, READ ZERO, and no call sees a change: cells alone are others, with the same
-- words lent, and each word of one candidate has one again.
pub record Clears (ino : ℕ) (files : Files) (k l : View) (to : ℕ) : Type 0 where
  pub same : l ≡ record k { cells = l.cells }
  pub size : length l.cells ≡ length k.cells
  pub lent : SameLent k.cells l.cells
  pub singles : KeepsSingle k.cells l.cells
  pub stays : (has : HasFile k files ino) → Stays k files ino has l
  pub zero : ReadZero l files ino (size_in files ino) to

-- THE POWER WENT in it, in whatever call: the device is left of the one before.
pub record LosesGap (ino : ℕ) (files : Files) (k l : View) : Type 0 where
  pub left : (has : HasFile k files ino) → IsLeftOf has.g k.cells l.cells
  pub kept : (has : HasFile k files ino) (start : State) (history : List Item) (c : Unfinished) → has.s ≡ run start history
      → KeepsWhenLost k.volume l.cells has.kept has.stands.jobs start history (c ∷ [])

abbrev pub IsCleared : ℕ → Files → ℕ → View → View → Commit → Type 0
IsCleared ino files to k l Commit.Done = Clears ino files k l to
IsCleared ino files to k l Commit.PowerLost = LosesGap ino files k l

-- what writing zeros over the bytes from one on, to the end of their block, leaves
abbrev pub IsZeroed : ℕ → ℕ → View → View → Commit → Type 0
IsZeroed x p k l Commit.Done = IsOverwriteDone x p (tail_zeros k.volume x p) k l
IsZeroed x p k l Commit.PowerLost = (l.cells ≡ k.cells) ⊎ IsOverwriteCut x p (tail_zeros k.volume x p) k l

-- `PowerLost` exactly where the power is off
abbrev pub IsClearPaid : Supply → Commit → Type 0
IsClearPaid new Commit.Done = is_on new ≡ true
IsClearPaid new Commit.PowerLost = is_on new ≡ false

-- the bytes before the block of a place
abbrev pub block_start : ℕ → ℕ
block_start start = 4096 * (start / 4096)
