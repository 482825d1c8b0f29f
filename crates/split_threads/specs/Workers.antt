-- One worker of a round: what it has, and how far it came.
use Rattle.std.specs.Prelude.{◌≡◌, ◌<◌, ◌+◌, ◌*◌, ℕ, length, Option, Some, None}
use Rattle.oplog_tail.specs.Logs.{IsSeatOf, LogView}
use Rattle.oplog_tail.specs.Seats.{SeatView}
use Rattle.oplog_tail.specs.oplog_entry.LogLines.{line_at}
use Rattle.ruled_turn.specs.Passes.{outside_pass, TurnView}
use Rattle.thread_laws.specs.world_view_laws.image_model.LogRule.{IsAsAtFirst}
use Rattle.thread_laws.specs.world_view_laws.oplog_entry.layout_model.Places.{log_line}
use Rattle.thread_laws.specs.world_view_laws.pm_model.Powers.{Steps, Supply}
use Rattle.thread_laws.specs.world_view_laws.pm_model.Words.{Words}
use Rattle.thread_laws.specs.world_view_laws.write_jobs.Jobs.{FilledView, JobView}
use Rattle.thread_laws.specs.world_view_laws.Views.{first_by}
use Rattle.thread_laws.specs.Hands.{HandView, Lap}
use Rattle.thread_laws.specs.States.{HasFilledJob, HasJob, IsIdle}
use Rattle.thread_laws.specs.Works.{AreWritten, HasCome, HasWorked}
use Rattle.thread_laws.specs.declared.works.Worked.{Worked}
use Rattle.split_threads.specs.declared.working.Own.{Own}

-- the words that line n of the log had when the lap began
abbrev pub first_in : Lap → ℕ → Words
first_in lap n j = first_by lap.geometry lap.first (8 * log_line lap.geometry n + j)

-- THE LOG WAS OPENED WITH THE LAP: its base, as many lines as the volume's log has, and their words, each alone.
pub record IsOpenedWith (log : LogView) (lap : Lap) : Type 0 where
  pub base : log.base ≡ lap.base
  pub count : length log.lines ≡ lap.geometry.log
  pub words : (n : ℕ) → n < length log.lines → IsAsAtFirst (line_at log.lines n).cells (first_in lap n)

-- THE WORKER: its pass is of the turn, outside, with this number and view; its caller is the view's; its seat is of the log, which was
-- opened with the view's lap.
pub record IsWorker (turn : TurnView) (log : LogView) (own : Own) (i : ℕ) (v : HandView) : Type 0 where
  pub pass : own.pass ≡ outside_pass turn.id i v
  pub who : v.who ≡ own.who
  pub seat : IsSeatOf log own.seat
  pub lap : IsOpenedWith log v.lap

-- IT MAY WORK: it is idle, each pair that it gave to `finish` is a claim of its seat, written; and its power, made as the World's, gave no step.
pub record MayWork (own : Own) (v : HandView) : Type 0 where
  pub idle : IsIdle own.who v
  pub written : AreWritten v own.seat
  pub power : own.power ≡ record { given = v.given; taken = 0 }

-- ---- how far it came, since it had this view and this seat

module _ (turn : TurnView) (log : LogView) (first : HandView) (seat : SeatView) (i : ℕ) (own : Own) where
  -- It is idle again.
  pub record HasComeSoFar : Type 0 where
    pub view : HandView
    pub worker : IsWorker turn log own i view
    pub come : HasCome first view seat own.seat own.power
    pub idle : IsIdle view.who view

  -- It has a job, to be filled.
  pub record HasBegunSoFar (job : JobView) : Type 0 where
    pub view : HandView
    pub worker : IsWorker turn log own i view
    pub come : HasCome first view seat own.seat own.power
    pub has : HasJob view job

  -- It has filled its job.
  pub record HasFilledSoFar (job : FilledView) : Type 0 where
    pub view : HandView
    pub before : Supply
    pub worker : IsWorker turn log own i view
    pub come : HasCome first view seat own.seat before
    pub filled : Steps (577 * 33) before own.power
    pub has : HasFilledJob view job

  -- It is at its end, and hands this back.
  pub record HasEndedWith (worked : Worked) : Type 0 where
    pub view : HandView
    pub worker : IsWorker turn log own i view
    pub did : HasWorked first view seat own.seat own.power worked

  -- it goes on, or is at its end
  abbrev pub GoesOnOrEnds : Option Worked → Type 0
  GoesOnOrEnds None = HasComeSoFar
  GoesOnOrEnds (Some worked) = HasEndedWith worked
