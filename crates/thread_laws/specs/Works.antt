-- What a worker did in a round, by its view and its seat of the log.
use Rattle.std.specs.Prelude.{◌≡◌, ◌≢◌, ◌⊎◌, ◌≤◌, ◌+◌, ◌*◌, ◌^◌, ℕ, Bool, true, false, Contains, List, [], ◌∷◌, ◌++◌, drop, length, map, Option, Some, None}
use Rattle.oplog_tail.specs.declared.views.Claim.{Claim}
use Rattle.oplog_tail.specs.Seats.{SeatView}
use Rattle.oplog_tail.specs.Views.{claim}
use Rattle.oplog_tail.specs.oplog_entry.declared.claims.Full.{Full}
use Rattle.oplog_tail.specs.oplog_entry.declared.claims.Mark.TheVariants.{Lost, Written}
use Rattle.round_laws.specs.world_view_laws.pm_model.Powers.{is_on, Supply}
use Rattle.round_laws.specs.world_view_laws.oplog_entry.layout_model.declared.lines.Draft.{Draft}
use Rattle.round_laws.specs.world_view_laws.list_laws.Members.{In}
use Rattle.round_laws.specs.world_view_laws.posix_types.declared.item.Item.{Item}
use Rattle.round_laws.specs.world_view_laws.write_jobs.Jobs.{FilledView, JobView}
use Rattle.thread_laws.specs.Hands.{Gone, HandView}
use Rattle.thread_laws.specs.declared.works.Next.{Next}
use Rattle.thread_laws.specs.declared.works.Worked.{Worked}
use Rattle.thread_laws.specs.States.{HasFilledJob, HasJob, HasStopped, IsIdle, IsOutAtEnd, IsShownLost, IsShownSetUp}

-- ---- later views

-- ITS LISTS ONLY GROW: it is the view of the same caller in the same lap, with what was there in front.
pub record IsLater (old new : HandView) : Type 0 where
  pub who : new.who ≡ old.who
  pub lap : new.lap ≡ old.lap
  pub given : new.given ≡ old.given
  pub mine : (more : List Item) × (new.mine ≡ old.mine ++ more)
  pub done : (more : List (ℕ × Draft)) × (new.done ≡ old.done ++ more)
  pub full : old.full ≡ true → new.full ≡ true

-- behind a look at its next call
abbrev pub IsNext : HandView → Next → Type 0
IsNext v Next.On = IsIdle v.who v
IsNext v Next.Wait = IsIdle v.who v
IsNext v Next.Over = (v.begun ≡ None) × (v.out ≡ None) × HasStopped v.last
IsNext v (Next.Job job) = HasJob v job × (job.lost ≡ false)

-- IT LOOKED, and goes on so: nothing was claimed or given up.
pub record HasLooked (old new : HandView) (next : Next) : Type 0 where
  pub later : IsLater old new
  pub done : new.done ≡ old.done
  pub full : new.full ≡ old.full
  pub next_is : IsNext new next

-- IT GAVE ITS JOB TO `finish`, with its slot. It returned, with one item more; or the power is lost, and the job is out still; or the World is gone.
pub record HasEnded (old new : HandView) (slot : ℕ) (d : Draft) (returned : Bool) : Type 0 where
  pub later : IsLater old new
  pub full : new.full ≡ old.full
  pub on : returned ≡ true → (new.done ≡ old.done ++ (slot, d) ∷ []) × (length new.mine ≡ length old.mine + 1) × IsIdle new.who new
  pub off : returned ≡ false → (new.last ≡ Gone × (new.done ≡ old.done))
      ⊎ ((new.done ≡ old.done ++ (slot, d) ∷ []) × (new.begun ≡ None) × (new.out ≡ Some d) × IsShownLost new.last)

-- IT GAVE ITS JOB UP: the round is over; or the World is gone.
pub record HasDropped (old new : HandView) : Type 0 where
  pub later : IsLater old new
  pub done : new.done ≡ old.done
  pub stopped : HasStopped new.last
  pub here : new.last ≢ Gone → (new.begun ≡ None) × (new.out ≡ None) × (new.full ≡ true)

-- IT TOLD THE LOSS of its own power, and has its job still, and a set-up that was done stands; or the World is gone.
abbrev pub HasTold : HandView → HandView → Bool → Type 0
HasTold old new true = IsShownLost new.last × (IsShownSetUp old.who old.last → IsShownSetUp old.who new.last) × (new ≡ record old { last = new.last })
HasTold old new false = new ≡ record old { last = Gone }

-- ---- its seat

-- the claims of these pairs, each with its entry whole
abbrev pub as_written : List (ℕ × Draft) → List Claim
as_written pairs = map (λ (pair : ℕ × Draft). claim pair.0 pair.1 Written) pairs

-- each of its pairs was claimed through its seat, and its entry is whole
abbrev pub AreWritten : HandView → SeatView → Type 0
AreWritten v seat = (n : ℕ) (d : Draft) → In (n, d) v.done → Contains seat.claims (claim n d Written)

-- the most steps of one job: 577 for each of at most 33 blocks, and 10 for its entry; and so 2^16
abbrev pub job_steps : ℕ
job_steps = 2 ^ 16

-- SO FAR, while it goes on: its seat has claimed just the pairs that it gave to `finish`; and each job but one paid for its steps with an item.
pub record HasCome (old v : HandView) (seat now : SeatView) (power : Supply) : Type 0 where
  pub later : IsLater old v
  pub log : now.log ≡ seat.log
  pub written : AreWritten v now
  pub gained : now.claims ≡ seat.claims ++ as_written (drop (length old.done) v.done)
  pub full : v.full ≡ old.full
  pub given : power.given ≡ old.given
  pub paid : power.taken + job_steps * length old.mine ≤ job_steps * length v.mine

-- ---- what it leaves

-- besides, a filled job whose append lost the power left one claim of its entry, lost
abbrev pub IsLostOf : Worked → List Claim → Type 0
IsLostOf Worked.Ended lost = lost ≡ []
IsLostOf (Worked.Job job) lost = lost ≡ []
IsLostOf (Worked.Filled job) lost = (n : ℕ) × (lost ≡ claim n job.draft Lost ∷ [])

-- what it hands back is the job that it has
abbrev pub IsLeftWith : HandView → Worked → Type 0
IsLeftWith v Worked.Ended = (v.begun ≡ None) × IsOutAtEnd v
IsLeftWith v (Worked.Job job) = HasJob v job
IsLeftWith v (Worked.Filled job) = HasFilledJob v job

-- WHERE THE WORLD IS NOT GONE: the claims that its seat gained are the pairs that it gave to `finish`, and that of a job that lost its power in the append;
-- where it gave a job up, an append of this seat found the log full; and its job, if it has one, is what it hands back.
pub record LeavesHere (old new : HandView) (seat now : SeatView) (worked : Worked) : Type 0 where
  pub lost : List Claim
  pub lost_are : IsLostOf worked lost
  pub gained : now.claims ≡ seat.claims ++ (as_written (drop (length old.done) new.done) ++ lost)
  pub full : new.full ≡ true → (old.full ≡ true) ⊎ ((full : Full) × (now.full ≡ Some full))
  pub job : IsLeftWith new worked

-- why it hands this back: it stopped; or its own power went, and the loss was shown, or the World is gone
abbrev pub IsCause : Worked → HandView → Supply → Type 0
IsCause Worked.Ended v power = HasStopped v.last
IsCause (Worked.Job job) v power = (is_on power ≡ false) × IsShownLost v.last
IsCause (Worked.Filled job) v power = (is_on power ≡ false) × IsShownLost v.last

-- WHAT A WORKER DID in its part of a round.
pub record HasWorked (old new : HandView) (seat now : SeatView) (power : Supply) (worked : Worked) : Type 0 where
  pub later : IsLater old new
  pub log : now.log ≡ seat.log
  pub written : AreWritten new now
  pub cause : IsCause worked new power
  pub here : new.last ≢ Gone → LeavesHere old new seat now worked
