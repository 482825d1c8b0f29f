-- What a relink leaves of a World with writes in flight, each law as one statement.
use Rattle.std.specs.Prelude.{◌≡◌, ◌≢◌, ℕ, Bool, false, List, [], ◌∷◌, Ok}
use Rattle.live_step_laws.specs.layout_model.Places.{Geometry}
use Rattle.live_step_laws.specs.image_model.Volume.{inode, Volume}
use Rattle.log_checkpoint.specs.file_overlay.declared.runs.Run.{Run}
use Rattle.live_step_laws.specs.live_model.file_table.Files.{ChangesFile, Files, runs_in, size_in}
use Rattle.log_checkpoint.specs.fsync_relink.Publishes.{IsPublishDone, IsPublishStopped, MayPublish, move_of, size_before}
use Rattle.live_step_laws.specs.k_split_model.View.{View}
use Rattle.log_checkpoint.specs.fsync_relink.k_split.declared.faults.KFault.{KFault}
use Rattle.log_checkpoint.specs.fsync_relink.k_split.MapChanges.{IsMapCut, IsMovedWith, IsRelinkAnswer}
use Rattle.log_checkpoint.specs.fsync_relink.k_split_model.declared.map_changes.moves.Move.{Move}
use Rattle.live_step_laws.specs.posix_types.declared.call.Mode.{Mode}
use Rattle.live_step_laws.specs.posix_types.declared.item.Item.{Item}
use Rattle.live_step_laws.specs.posix_tables.Open.{Tables}
use Rattle.live_step_laws.specs.posix_spec.Run.{run}
use Rattle.live_step_laws.specs.posix_spec.State.{State}
use Rattle.live_step_laws.specs.world_image_laws.Promised.{KeepsPromise}
use Rattle.live_step_laws.specs.world_step_laws.Steps.{AreBeside}
use Rattle.live_step_laws.specs.world_step_laws.Touched.{only}
use Rattle.live_step_laws.specs.live_model.Losses.{KeepsWhenLost}
use Rattle.live_step_laws.specs.live_model.Standing.{Kept, StandsAt}

-- the relink of a file's first run, behind which these are left
abbrev pub first_move : Kept → View → ℕ → Run → List Run → Move
first_move kept k ino r rest = move_of ino (size_before rest (size_in kept.files ino) (inode k.volume ino).size) r

-- K-Split stands behind a change that leaves the state, the jobs and their nodes.
pub record StandsThen (g : Geometry) (k l : View) (t : Tables) (kept then : Kept) (lines : Bool) (n : ℕ) (s : State)
    (stands : StandsAt g k t kept lines n s) : Type 0 where
  pub now : StandsAt g l t then lines n s
  pub jobs_are : now.jobs ≡ stands.jobs
  pub numbers_are : now.numbers ≡ stands.numbers

-- THE FIRST RUN OF A FILE IS RELINKED, while no job of the file is out: they stand together in the same state, and
-- one run less is kept of the file.
abbrev pub StandsRelinked : Type 0
StandsRelinked =
    (g : Geometry) (k l : View) (t : Tables) (kept : Kept) (files : Files) (lines : Bool) (n : ℕ) (s : State)
    (ino : ℕ) (r : Run) (rest : List Run) → (stands : StandsAt g k t kept lines n s)
    → runs_in kept.files ino ≡ r ∷ rest → MayPublish ino (size_in kept.files ino) (r ∷ rest) k
    → AreBeside (only ino) stands.jobs
    → ChangesFile ino rest (size_in kept.files ino) kept.files files
    → IsRelinkAnswer (first_move kept k ino r rest) k l (Ok tt)
    → StandsThen g k l t kept (record kept { files = files }) lines n s stands

-- THE POWER WENT in it, or before: the promise is kept with the calls of the jobs unfinished;
abbrev pub KeepsRelinked : Type 0
KeepsRelinked =
    (g : Geometry) (k l : View) (t : Tables) (kept : Kept) (lines : Bool) (n : ℕ) (start : State)
    (history : List Item) (ino : ℕ) (r : Run) (rest : List Run)
    → (stands : StandsAt g k t kept lines n (run start history)) → runs_in kept.files ino ≡ r ∷ rest
    → MayPublish ino (size_in kept.files ino) (r ∷ rest) k → AreBeside (only ino) stands.jobs
    → (w : Volume) (blocks : List ℕ) → IsMovedWith (first_move kept k ino r rest) k w blocks → IsMapCut blocks w k l
    → KeepsWhenLost k.volume l.cells kept stands.jobs start history []

-- and with log lines at home each image is.
abbrev pub KeepsRelinkedHome : Type 0
KeepsRelinkedHome =
    (g : Geometry) (k l : View) (t : Tables) (kept : Kept) (n : ℕ) (start : State) (history : List Item) (ino : ℕ)
    (r : Run) (rest : List Run) → start.mode ≢ Mode.Posix
    → StandsAt g k t kept false n (run start history) → runs_in kept.files ino ≡ r ∷ rest
    → MayPublish ino (size_in kept.files ino) (r ∷ rest) k
    → (w : Volume) (blocks : List ℕ) → IsMovedWith (first_move kept k ino r rest) k w blocks → IsMapCut blocks w k l
    → KeepsPromise g l.cells start history []

-- ---- a publishing

-- ALL RUNS OF A FILE ARE RELINKED, while no job of the file is out: they stand together in the same state, and
-- nothing is kept of the file but its size.
abbrev pub StandsPublished : Type 0
StandsPublished =
    (g : Geometry) (k l : View) (t : Tables) (kept : Kept) (files : Files) (lines : Bool) (n : ℕ) (s : State)
    (ino : ℕ) → (stands : StandsAt g k t kept lines n s)
    → MayPublish ino (size_in kept.files ino) (runs_in kept.files ino) k → AreBeside (only ino) stands.jobs
    → ChangesFile ino [] (size_in kept.files ino) kept.files files
    → IsPublishDone ino (size_in kept.files ino) (runs_in kept.files ino) k l
    → StandsThen g k l t kept (record kept { files = files }) lines n s stands

-- THE POWER WENT in it, or before: the promise is kept with the calls of the jobs unfinished;
abbrev pub KeepsPublished : Type 0
KeepsPublished =
    (g : Geometry) (k l : View) (t : Tables) (kept : Kept) (lines : Bool) (n : ℕ) (start : State)
    (history : List Item) (ino : ℕ)
    → (stands : StandsAt g k t kept lines n (run start history)) → MayPublish ino (size_in kept.files ino)
    (runs_in kept.files ino) k → AreBeside (only ino) stands.jobs
    → IsPublishStopped KFault.PowerLost ino (size_in kept.files ino) (runs_in kept.files ino) k l
    → KeepsWhenLost k.volume l.cells kept stands.jobs start history []

-- and with log lines at home each image is.
abbrev pub KeepsPublishedHome : Type 0
KeepsPublishedHome =
    (g : Geometry) (k l : View) (t : Tables) (kept : Kept) (n : ℕ) (start : State) (history : List Item) (ino : ℕ)
    → start.mode ≢ Mode.Posix
    → StandsAt g k t kept false n (run start history) → MayPublish ino (size_in kept.files ino)
    (runs_in kept.files ino) k
    → IsPublishStopped KFault.PowerLost ino (size_in kept.files ino) (runs_in kept.files ino) k l
    → KeepsPromise g l.cells start history []
