-- What the next event of a job does, as far as it came.
use Rattle.std.specs.Prelude.{◌≡◌, ◌<◌, ◌^◌, ℕ, Bool, true, false, length, Option, Some, None, Ok, Err}
use Rattle.run_laws.specs.live_model.Standing.{JobOut}
use Rattle.run_laws.specs.oplog_entry.declared.claims.Full.{Full}
use Rattle.run_laws.specs.oplog_entry.EntryLines.{IsSingle}
use Rattle.run_laws.specs.oplog_entry.LogLines.{line_at}
use Rattle.run_laws.specs.pm_model.Powers.{is_on, Steps, Supply}
use Rattle.run_laws.specs.round_log.Rounds.{IsClaimed, RoundView}
use Rattle.run_laws.specs.write_jobs.Jobs.{FilledView, IsCutOff, IsFilled, JobView}
use Rattle.run_laws.specs.world_view_laws.Begins.{IsFilledOut}
use Rattle.run_laws.specs.world_view_laws.Jobs.{Finishes, GivesUp, LosesFinish}
use Rattle.run_laws.specs.world_view_laws.Views.{WorldView}
use Rattle.run_laws.specs.declared.held.Work.{Work}
use Rattle.run_laws.specs.EventsLaws.{IsHere, PersistsEntry, StoresEntry}

-- WHAT IT ASKS FOR: to be filled its power was not lost; a filled job is one of the World; the line of its slot is there, and has one
-- candidate a word before an entry is stored into it.
abbrev pub IsReadyFor : WorldView → RoundView → Supply → Work → Type 0
IsReadyFor w log power (Work.Began job) = job.lost ≡ false
IsReadyFor w log power (Work.Filled job) = IsHere w log job
IsReadyFor w log power (Work.Claimed job slot) = (slot < length log.lines) × IsSingle (line_at log.lines slot).cells
IsReadyFor w log power (Work.Stored job slot) = slot < length log.lines
IsReadyFor w log power (Work.Persisted job slot) = IsHere w log job × (slot < w.geometry.log)

-- THE EVENT, with the work behind it, and whether the power lasted.
pub data IsWorked (w new : WorldView) (log left : RoundView) (before after : Supply) : Work → Option Work → Bool → Type 0 where
  Fills : (job : JobView) (filled : FilledView) → new ≡ w → left ≡ log → Steps (2 ^ 15) before after → IsFilled job after filled
      → IsWorked w new log left before after (Work.Began job) (Some (Work.Filled filled)) true
  FillLoses : (job cut : JobView) → new ≡ w → left ≡ log → Steps (2 ^ 15) before after → IsCutOff job after cut
      → IsWorked w new log left before after (Work.Began job) (Some (Work.Began cut)) false
  Claims : (job : FilledView) (slot : ℕ) → new ≡ w → after ≡ before → IsClaimed log left (Ok slot) → IsWorked w new log left before after (Work.Filled job) (Some (Work.Claimed job slot)) true
  GivesUpFull : (job : FilledView) (full : Full) → after ≡ before → IsClaimed log left (Err full) → ((p : JobOut) → IsFilledOut w p job → GivesUp full p w new)
      → IsWorked w new log left before after (Work.Filled job) None true
  Stores : (job : FilledView) (slot : ℕ) (lasted : Bool) → new ≡ w → StoresEntry log left slot job.draft before after → lasted ≡ is_on after
      → IsWorked w new log left before after (Work.Claimed job slot) (Some (Work.Stored job slot)) lasted
  Persists : (job : FilledView) (slot : ℕ) → new ≡ w → PersistsEntry log left slot before after → is_on after ≡ true
      → IsWorked w new log left before after (Work.Stored job slot) (Some (Work.Persisted job slot)) true
  PersistLoses : (job : FilledView) (slot : ℕ) → new ≡ w → PersistsEntry log left slot before after → is_on after ≡ false
      → IsWorked w new log left before after (Work.Stored job slot) (Some (Work.Stored job slot)) false
  FinishesCall : (job : FilledView) (slot : ℕ) → left ≡ log → Steps (2 ^ 26) before after → ((p : JobOut) → IsFilledOut w p job → Finishes slot p w new after)
      → IsWorked w new log left before after (Work.Persisted job slot) None true
  FinishLoses : (job : FilledView) (slot : ℕ) → left ≡ log → Steps (2 ^ 26) before after → ((p : JobOut) → IsFilledOut w p job → LosesFinish slot p w new after)
      → IsWorked w new log left before after (Work.Persisted job slot) None false
