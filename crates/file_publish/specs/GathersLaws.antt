-- A gathering of all that is staged, in a World with its log lines at home and no write in flight: each law as one
-- statement.
use Rattle.std.specs.Prelude.{◌≡◌, ◌≢◌, ◌≤◌, ◌^◌, ℕ, false, All, List, [], Ok}
use Rattle.live_step_laws.specs.pm_model.Images.{IsImage}
use Rattle.live_step_laws.specs.pm_model.Words.{Words}
use Rattle.live_step_laws.specs.layout_model.block_counts.declared.TheConstants.{LONGEST_FILE}
use Rattle.live_step_laws.specs.layout_model.Places.{Geometry}
use Rattle.log_checkpoint.specs.file_table.Files.{Files}
use Rattle.log_checkpoint.specs.k_journal.declared.outcomes.Commit.{Commit}
use Rattle.log_checkpoint.specs.k_split_model.View.{View}
use Rattle.log_checkpoint.specs.fsync_relink.k_split.Laps.{HasNextLap}
use Rattle.log_checkpoint.specs.Gathers.{IsGatherAnswer}
use Rattle.live_step_laws.specs.posix_types.declared.call.Mode.{Mode}
use Rattle.live_step_laws.specs.posix_types.declared.item.Item.{Item}
use Rattle.live_step_laws.specs.posix_tables.Open.{Tables}
use Rattle.log_checkpoint.specs.posix_spec.Run.{run}
use Rattle.log_checkpoint.specs.posix_spec.State.{State}
use Rattle.live_step_laws.specs.live_model.staging_files.Keeps.{Staged}
use Rattle.live_step_laws.specs.world_image_laws.Promised.{KeepsPromise}
use Rattle.live_step_laws.specs.live_model.Standing.{Kept, StandsAt}
use Rattle.file_publish.specs.LapsLaws.{AreApplied, lapped}
use Rattle.live_step_laws.specs.world_image_laws.Images.{HasOldLines}

-- what the World keeps, with this table
abbrev pub with_table : Kept → Files → Kept
with_table kept files = record kept { files = files }

-- no size that is kept is more than a file may have
abbrev pub AreSmall : Kept → Type 0
AreSmall kept = All (λ size. size ≤ LONGEST_FILE) kept.files.sizes

-- K-Split stands behind a gathering, in the same state and with the same nodes; each claim of the lap before is applied
-- by its file; and by each image no line of the log is an entry of this lap.
pub record HasGathered (g : Geometry) (k l : View) (t : Tables) (kept : Kept) (files : Files) (n : ℕ) (s : State)
    (stands : StandsAt g k t kept false n s) : Type 0 where
  pub now : StandsAt g l t (lapped (with_table kept files)) false n s
  pub numbers_are : now.numbers ≡ stands.numbers
  pub applied : AreApplied l.volume kept.claims
  pub old : (image : Words) → IsImage l.cells image → HasOldLines l.volume image

-- ALL FILES ARE PUBLISHED, THE STAGING FILES GAVE UP THEIR BLOCKS, AND THE NEXT LAP BEGAN: they stand together in the
-- same state, and nothing is kept of a file but its size.
abbrev pub StandsGathered : Type 0
StandsGathered =
    (g : Geometry) (k l : View) (t : Tables) (kept : Kept) (staging : Staged) (files : Files) (n : ℕ) (s : State)
    → (stands : StandsAt g k t kept false n s) → n ≤ 2 ^ 62
    → AreSmall kept → HasNextLap k → IsGatherAnswer kept.files k staging files l (Ok Commit.Done)
    → HasGathered g k l t kept files n s stands

-- THE POWER WENT in it, or before: each image is kept.
abbrev pub KeepsGathered : Type 0
KeepsGathered =
    (g : Geometry) (k l : View) (t : Tables) (kept : Kept) (staging : Staged) (files : Files) (n : ℕ) (start : State)
    (history : List Item) → start.mode ≢ Mode.Posix
    → StandsAt g k t kept false n (run start history) → n ≤ 2 ^ 62 → AreSmall kept → HasNextLap k
    → IsGatherAnswer kept.files k staging files l (Ok Commit.PowerLost)
    → KeepsPromise g l.cells start history []
