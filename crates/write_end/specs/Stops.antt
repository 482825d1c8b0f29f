-- What the publishing of files leaves of a device of which words are lent: where the power went, and where it is done.
use Rattle.std.specs.Prelude.{◌≡◌, ℕ, Bool, List, length, Ok}
use Rattle.oplog_entry.specs.pm_model.declared.Cell.{Cell}
use Rattle.oplog_entry.specs.pm_model.Frames.{SameLent}
use Rattle.oplog_entry.specs.layout_model.Places.{Geometry}
use Rattle.in_place.specs.write_plan.eof_laws.log_checkpoint.file_overlay.declared.runs.Run.{Run}
use Rattle.in_place.specs.write_plan.eof_laws.log_checkpoint.file_table.Files.{Files}
use Rattle.in_place.specs.write_plan.eof_laws.log_checkpoint.fsync_relink.Publishes.{IsPublishDone, IsPublishStopped}
use Rattle.in_place.specs.k_split_laws.k_journal.declared.outcomes.Commit.{Commit}
use Rattle.in_place.specs.k_split_laws.k_split_model.View.{View}
use Rattle.in_place.specs.k_split_laws.k_split.declared.faults.KFault.{KFault}
use Rattle.in_place.specs.write_plan.eof_laws.log_checkpoint.Gathers.{IsGatherAnswer}
use Rattle.in_place.specs.k_split_laws.Left.{IsLeftOf}
use Rattle.in_place.specs.k_split_laws.posix_tables.Open.{Tables}
use Rattle.in_place.specs.k_split_laws.posix_spec.State.{State}
use Rattle.in_place.specs.write_plan.eof_laws.log_checkpoint.staging_files.Keeps.{Staged}
use Rattle.in_place.specs.live_model.Standing.{Kept, StandsAt}

-- the same words are lent, of as many
pub record KeepsOut (d e : List Cell) : Type 0 where
  pub size : length e ≡ length d
  pub lent : SameLent d e

-- THE PUBLISHING OF A FILE STOPPED at a power loss, or was done.
abbrev pub LeavesStopped : Type 0
LeavesStopped =
    (g : Geometry) (k l : View) (t : Tables) (kept : Kept) (lines : Bool) (n : ℕ) (s : State) (ino size : ℕ) (runs : List Run)
    → StandsAt g k t kept lines n s → IsPublishStopped KFault.PowerLost ino size runs k l → IsLeftOf g k.cells l.cells

abbrev pub KeepsPublishedOut : Type 0
KeepsPublishedOut = (k l : View) (ino size : ℕ) (runs : List Run) → IsPublishDone ino size runs k l → KeepsOut k.cells l.cells

-- A GATHERING, done or cut off.
abbrev pub KeepsGatheredOut : Type 0
KeepsGatheredOut = (k l : View) (files table : Files) (staging : Staged) (answer : Commit) → IsGatherAnswer files k staging table l (Ok answer) → KeepsOut k.cells l.cells
