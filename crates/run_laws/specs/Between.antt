-- The moments between two events of a run, for any number of callers, and what an event leaves.
use Rattle.std.specs.Prelude.{◌≡◌, ◌≢◌, ◌⊎◌, ◌≤◌, ◌<◌, ◌+◌, ◌-◌, ◌*◌, ◌^◌, ℕ, true, false, nat_lt, List, [], ◌∷◌, ◌++◌, length, Option, Some, None, slice_get, sum_by, if◌then◌else◌}
use Rattle.round_log.specs.pm_model.Powers.{is_on, Supply}
use Rattle.world_view_laws.specs.crash_spec.ScheduleLaws.{may_write}
use Rattle.world_view_laws.specs.list_laws.Members.{In}
use Rattle.world_view_laws.specs.posix_types.declared.call.Call.{Call}
use Rattle.world_view_laws.specs.posix_types.declared.call.Who.{Who}
use Rattle.world_view_laws.specs.posix_spec.Scripted.{call_count, IsSetUp, Scripted}
use Rattle.world_view_laws.specs.posix_spec.Unfinished.{AreUnfinished}
use Rattle.world_view_laws.specs.declared.views.over.Over.{Over}
use Rattle.world_view_laws.specs.Losses.{MayCrash}
use Rattle.world_view_laws.specs.live_model.Standing.{JobOut}
use Rattle.world_view_laws.specs.Views.{calls_out, HasNone, next_of, WorldView}
use Rattle.run_laws.specs.declared.held.Held.{Held}
use Rattle.run_laws.specs.declared.held.Work.{Work}
use Rattle.run_laws.specs.Held.{AreHeld, filled_of, HasLog, IsFull, jobs_of, lines_in, OutView}
use Rattle.run_laws.specs.EventsPaid.{IsPaid, IsPaidOff, moves_now, PaysForActed}

-- each job is of the next call of its caller, which may come
abbrev pub AreNextCalls : WorldView → Type 0
AreNextCalls w = (p : JobOut) → In p w.pending → (next_of w p.who ≡ Some p.call) × IsSetUp w.scripts w.history p.who

-- no two jobs are of one caller, nor have they one entry
abbrev pub HaveOwnCallers : List JobOut → Type 0
HaveOwnCallers pending = (i j : ℕ) (p q : JobOut) → slice_get pending i ≡ Some p → slice_get pending j ≡ Some q → p.who ≡ q.who → i ≡ j

abbrev pub HaveOwnDrafts : List JobOut → Type 0
HaveOwnDrafts pending = (i j : ℕ) (p q : JobOut) → slice_get pending i ≡ Some p → slice_get pending j ≡ Some q → p.draft ≡ q.draft → i ≡ j

-- a caller with no job has a next call, which may come
pub record IsWaiting (w : WorldView) : Type 0 where
  pub who : Who
  pub call : Call
  pub none : HasNone w who
  pub next : next_of w who ≡ Some call
  pub set_up : IsSetUp w.scripts w.history who

-- BETWEEN TWO EVENTS, while the power is on. The jobs of the World and the log of its round are those that are out, each as far as it
-- came. Each job is of the next call of its caller, a write that may come, and no two are of one caller or have one entry; the
-- history follows the scripts. Where something was claimed a call returned since the round began. Where a job was given up the log is full;
-- so a Checkpoint, before which no job is out, finds a claim. Where the round is over a job is out, one was given up, or a call returned since
-- it began; a call moved data or may; and some caller with no job has a call left, which it does not begin before the next round.
pub record Between (w : WorldView) (out : OutView) : Type 0 where
  pub usable : w.usable ≡ true
  pub awake : w.lost ≡ false
  pub none_unfinished : w.unfinished ≡ []
  pub held : AreHeld w out.jobs
  pub log : HasLog w out.log out.jobs
  pub next : AreNextCalls w
  pub writes : (p : JobOut) → In p w.pending → may_write p.call ≡ true
  pub callers : HaveOwnCallers w.pending
  pub drafts : HaveOwnDrafts w.pending
  pub scripted : Scripted w.scripts w.history
  pub threads : length w.scripts.threads ≤ 8
  pub lines : 1 ≤ w.geometry.log
  pub few : w.geometry.log < 2 ^ 32
  pub settled : w.settled ≤ length w.history
  pub claimed : w.claims ≢ [] → w.settled < length w.history
  pub given_up : (w.given_up ≡ 0 → ⊥) → IsFull out.log
  pub late : w.over ≢ None → (w.pending ≢ []) ⊎ ((w.given_up ≡ 0 → ⊥) ⊎ (w.settled < length w.history))
  pub moves : w.over ≢ None → moves_now w ≡ true
  pub waits : w.over ≢ None → IsWaiting w

-- A CRASH MAY COME: what is out is what it asks for, and the calls that are out are the next of their callers, one each.
pub record CanCrash (w : WorldView) (out : OutView) : Type 0 where
  pub usable : w.usable ≡ true
  pub crash : MayCrash w (lines_in out.log) (jobs_of out.jobs) (filled_of out.jobs)
  pub open_calls : AreUnfinished w.scripts w.history (calls_out w)

-- The same scripts on the same start.
pub record IsLater (old new : WorldView) : Type 0 where
  pub geometry : new.geometry ≡ old.geometry
  pub start : new.start ≡ old.start
  pub scripts : new.scripts ≡ old.scripts

-- ---- how much is left to do

-- the events that are left to a job, and one
abbrev pub events_in : Work → ℕ
events_in (Work.Began job) = 6
events_in (Work.Filled job) = 5
events_in (Work.Claimed job slot) = 4
events_in (Work.Stored job slot) = 3
events_in (Work.Persisted job slot) = 2

-- seven for each of nine callers that has no job, while the round is not over
abbrev pub idle_by : Option Over → ℕ → ℕ
idle_by None out = 7 * (9 - out)
idle_by (Some over) out = 0

-- the end of the round, where a call returned since it began: a Checkpoint is left, and before it that the round is over
abbrev pub ends_by : Option Over → ℕ
ends_by None = 65
ends_by (Some over) = 64

-- What is left of a round is below 200; each call that has not returned pays for one.
abbrev pub left_to_do : WorldView → OutView → ℕ
left_to_do w out =
    200 * (call_count w.scripts - length w.history)
    + (sum_by (λ (h : Held). events_in h.work) out.jobs + (idle_by w.over (length out.jobs) + (if nat_lt w.settled (length w.history) then ends_by w.over else 0)))

-- ---- what an event leaves

-- It leads to a moment between two events again, with less left to do, and is paid for;
pub record GoesOn (old : WorldView) (out : OutView) (new : WorldView) (left : OutView) (before after : Supply) : Type 0 where
  pub later : IsLater old new
  pub between : Between new left
  pub less : left_to_do new left < left_to_do old out
  pub on : is_on after ≡ true
  pub paid : (first : Supply) → IsPaid first before old out.jobs → IsPaid first after new left.jobs

-- the calls that are out stay; where a caller lost the power as it began its next call, that stands behind them
abbrev pub AreCallsLeft : Option Who → WorldView → WorldView → Type 0
AreCallsLeft None old new = calls_out new ≡ calls_out old
AreCallsLeft (Some who) old new = (calls_out new ≡ calls_out old) ⊎ ((call : Call) × (next_of old who ≡ Some call) × (calls_out new ≡ calls_out old ++ (who, call) ∷ []))

-- or the power went, as this caller began its next call, or as no call began: nothing returned, and a crash may come; and where it was on
-- before, each call that is out and acted took a step.
pub record LosesPower (begins : Option Who) (old : WorldView) (out : OutView) (new : WorldView) (left : OutView) (before after : Supply) : Type 0 where
  pub later : IsLater old new
  pub history : new.history ≡ old.history
  pub calls : AreCallsLeft begins old new
  pub can : CanCrash new left
  pub off : is_on after ≡ false
  pub paid : (first : Supply) → IsPaid first before old out.jobs → IsPaidOff first after new
  pub acted : (first : Supply) (given : ℕ) → is_on before ≡ true → first.given ≡ Some given → IsPaid first before old out.jobs → PaysForActed first after new left given
