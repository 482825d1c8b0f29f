-- What comes back of the workers of a round, and the round closed.
use Rattle.std.specs.Prelude.{◌≡◌, ◌≢◌, ◌⊎◌, ◌<◌, ℕ, true, Contains, List, [], ◌++◌, length, map, Option, Some, None, slice_get}
use Rattle.std.specs.List.{filter_map}
use Rattle.thread_laws.specs.Closed.{IsClosedOver}
use Rattle.oplog_tail.specs.declared.views.Claim.{Claim}
use Rattle.oplog_tail.specs.Closing.{AreFirst, claims_of_all}
use Rattle.oplog_tail.specs.Logs.{LogView}
use Rattle.oplog_tail.specs.Seats.{SeatView}
use Rattle.oplog_tail.specs.oplog_entry.declared.claims.Full.{Full}
use Rattle.round_laws.specs.world_view_laws.pm_model.Parts.{Part}
use Rattle.round_laws.specs.world_view_laws.pm_model.Powers.{Supply}
use Rattle.round_laws.specs.world_view_laws.list_laws.Members.{In}
use Rattle.round_laws.specs.world_view_laws.posix_types.declared.call.Who.{Who}
use Rattle.round_laws.specs.world_view_laws.write_jobs.Jobs.{FilledView, JobView}
use Rattle.round_laws.specs.world_view_laws.Views.{next_of, WorldView}
use Rattle.thread_laws.specs.Hands.{Gone, HandView}
use Rattle.thread_laws.specs.Stands.{Stands}
use Rattle.thread_laws.specs.declared.works.Worked.{Worked}
use Rattle.thread_laws.specs.States.{HasStopped, IsShownLost, StopsAll}
use Rattle.thread_laws.specs.Works.{AreWritten, as_written, IsLeftWith, IsLostOf}

-- WHAT CAME BACK of one worker: the number of its pass, its view, its seat, and the job that it still has.
pub record Returned : Type 0 where
  pub number : ℕ
  pub view : HandView
  pub seat : SeatView
  pub worked : Worked

abbrev pub job_left : Worked → Option JobView
job_left Worked.Ended = None
job_left (Worked.Job job) = Some job
job_left (Worked.Filled job) = None

abbrev pub filled_left : Worked → Option FilledView
filled_left Worked.Ended = None
filled_left (Worked.Job job) = None
filled_left (Worked.Filled job) = Some job

abbrev pub jobs_left : List Returned → List JobView
jobs_left parts = filter_map (λ (r : Returned). job_left r.worked) parts

abbrev pub filled_jobs_left : List Returned → List FilledView
filled_jobs_left parts = filter_map (λ (r : Returned). filled_left r.worked) parts

abbrev pub seats_of : List Returned → List SeatView
seats_of parts = map (λ (r : Returned). r.seat) parts

-- its loss was shown, if it has a job still
abbrev pub IsLossShown : Worked → HandView → Type 0
IsLossShown Worked.Ended v = Unit {0}
IsLossShown (Worked.Job job) v = IsShownLost v.last
IsLossShown (Worked.Filled job) v = IsShownLost v.last

-- WHERE THE WORLD IS NOT GONE: the seat has just the pairs that the worker gave to `finish`, and the one that a job which lost its power took; where it gave a job
-- up the seat found the log full; and its job, if it has one, is what came back.
pub record ReturnedHere (r : Returned) : Type 0 where
  pub lost : List Claim
  pub lost_are : IsLostOf r.worked lost
  pub claims : r.seat.claims ≡ as_written r.view.done ++ lost
  pub full : r.view.full ≡ true → (full : Full) × (r.seat.full ≡ Some full)
  pub job : IsLeftWith r.view r.worked
  pub shown : IsLossShown r.worked r.view

-- of a worker with an empty seat and view; also of one that did not start
pub record IsReturned (r : Returned) : Type 0 where
  pub written : AreWritten r.view r.seat
  pub here : r.view.last ≢ Gone → ReturnedHere r

-- EACH STOPPED for a cause; or one for a cause for which all stop.
abbrev pub HaveStopped : List Returned → Type 0
HaveStopped parts = ((r : Returned) → In r parts → HasStopped r.view.last) ⊎ ((r : Returned) × In r parts × StopsAll r.view.last)

-- THE ROUND IS CLOSED, with the World: it stands together with the views of all workers, of each of which this came back; and its log is closed.
pub record IsClosed (w : WorldView) (power : Supply) (log : LogView) (lines : List Part) (parts : List Returned) : Type 0 where
  pub views : List HandView
  pub stands : Stands w power views
  pub each : (r : Returned) → In r parts → (slice_get views r.number ≡ Some r.view) × IsReturned r
  pub all : (i : ℕ) → i < length views → (r : Returned) × In r parts × (r.number ≡ i)
  pub apart : (j k : ℕ) (r s : Returned) → slice_get parts j ≡ Some r → slice_get parts k ≡ Some s → r.number ≡ s.number → j ≡ k
  pub over : IsClosedOver w log (claims_of_all (seats_of parts)) lines
  pub first : AreFirst log (seats_of parts)

-- each caller that has a call left is that of a worker
abbrev pub HaveWorkers : WorldView → List Returned → Type 0
HaveWorkers w parts = (who : Who) → next_of w who ≢ None → (r : Returned) × In r parts × (r.view.who ≡ who)
