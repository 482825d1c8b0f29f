-- The next lap of the log, in a World with its log lines at home and no write in flight: each law as one statement.
use Rattle.std.specs.Prelude.{◌≡◌, ◌≤◌, ℕ, false, List, [], Ok}
use Rattle.log_checkpoint.specs.pm_model.Images.{IsImage}
use Rattle.log_checkpoint.specs.pm_model.Words.{Words}
use Rattle.log_checkpoint.specs.layout_model.declared.lines.Draft.{Draft}
use Rattle.log_checkpoint.specs.layout_model.declared.lines.Kind.TheVariants.{File}
use Rattle.log_checkpoint.specs.layout_model.Places.{Geometry}
use Rattle.log_checkpoint.specs.image_model.Volume.{inode, Volume}
use Rattle.log_checkpoint.specs.file_table.Files.{runs_in}
use Rattle.log_checkpoint.specs.k_journal.declared.outcomes.Commit.{Commit}
use Rattle.log_checkpoint.specs.k_split_model.View.{View}
use Rattle.log_checkpoint.specs.k_split.Laps.{HasNextLap}
use Rattle.log_checkpoint.specs.Gathers.{IsLapAnswer, IsLapBegun}
use Rattle.log_checkpoint.specs.list_laws.Members.{In}
use Rattle.log_checkpoint.specs.posix_types.declared.item.Item.{Item}
use Rattle.log_checkpoint.specs.posix_tables.Open.{Tables}
use Rattle.log_checkpoint.specs.posix_spec.Run.{Unfinished, run}
use Rattle.log_checkpoint.specs.posix_spec.State.{State}
use Rattle.log_checkpoint.specs.staging_files.GivesUp.{nothing_staged}
use Rattle.log_checkpoint.specs.staging_files.Keeps.{Staged}
use Rattle.live_step_laws.specs.live_model.world_image_laws.Images.{HasOldLines}
use Rattle.live_step_laws.specs.live_model.world_image_laws.Promised.{KeepsPromise}
use Rattle.live_step_laws.specs.live_model.Standing.{Kept, StandsAt}

-- what the World keeps once a lap began: nothing is staged, there is no claim, and no job is out
abbrev pub lapped : Kept → Kept
lapped kept = record kept { staging = nothing_staged; claims = []; pending = [] }

-- no run is kept of any file
abbrev pub HasNoRuns : Kept → Type 0
HasNoRuns kept = (ino : ℕ) → runs_in kept.files ino ≡ []

-- each claim of a file that is there was applied by it
abbrev pub AreApplied : Volume → List (ℕ × Draft) → Type 0
AreApplied v claims =
    (slot : ℕ) (d : Draft) → In (slot, d) claims → (inode v d.ino).kind ≡ File → d.generation ≡ (inode v d.ino).generation
    → d.order ≤ (inode v d.ino).applied

-- K-Split stands at the beginning of a lap, in the same state and with the same nodes; each claim of the lap before is
-- applied; and by each image no line of the log is an entry of this lap.
pub record HasLapped (g : Geometry) (k l : View) (t : Tables) (kept : Kept) (n : ℕ) (s : State)
    (stands : StandsAt g k t kept false n s) : Type 0 where
  pub now : StandsAt g l t (lapped kept) false n s
  pub numbers_are : now.numbers ≡ stands.numbers
  pub applied : AreApplied l.volume kept.claims
  pub old : (image : Words) → IsImage l.cells image → HasOldLines l.volume image

-- THE STAGING FILES GAVE UP THEIR BLOCKS AND THE NEXT LAP BEGAN, once no run is kept of any file: they stand together
-- in the same state.
abbrev pub StandsLapped : Type 0
StandsLapped =
    (g : Geometry) (k l : View) (t : Tables) (kept : Kept) (staging : Staged) (n : ℕ) (s : State)
    → (stands : StandsAt g k t kept false n s)
    → HasNoRuns kept → HasNextLap k → IsLapBegun k staging l → HasLapped g k l t kept n s stands

-- THE POWER WENT on the way: each image is kept, whatever is unfinished.
abbrev pub KeepsLapped : Type 0
KeepsLapped =
    (g : Geometry) (k l : View) (t : Tables) (kept : Kept) (staging : Staged) (n : ℕ) (start : State)
    (history : List Item) (unfinished : List Unfinished)
    → StandsAt g k t kept false n (run start history) → HasNoRuns kept → HasNextLap k
    → IsLapAnswer k staging l (Ok Commit.PowerLost)
    → KeepsPromise g l.cells start history unfinished
