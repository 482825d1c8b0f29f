-- How the machine over events goes on beside a World, each law as one statement.
use Rattle.std.specs.Prelude.{◌≡◌, ◌≢◌, ◌⊎◌, ◌<◌, ◌++◌, ℕ, true, false, Contains, List, [], ◌∷◌, length, Option, Some, None, Ok, Err}
use Rattle.round_log.specs.oplog_entry.declared.claims.Full.{Full}
use Rattle.round_log.specs.pm_model.Parts.{Part}
use Rattle.round_log.specs.pm_model.Powers.{Supply}
use Rattle.round_log.specs.Rounds.{IsClaimed, RoundView}
use Rattle.world_view_laws.specs.crash_spec.Machine.{at_rest, Begins, Checkpoint, Event, Goes, have_ended, LacksSpace, Machine, Setting, unfinished_of}
use Rattle.world_view_laws.specs.crash_spec.Orders.{Order}
use Rattle.world_view_laws.specs.crash_spec.Schedules.{caller_of, can_run, Course, Reaches, runnable, Scheduled}
use Rattle.world_view_laws.specs.list_laws.Members.{In}
use Rattle.world_view_laws.specs.live_model.Standing.{JobOut}
use Rattle.world_view_laws.specs.posix_types.declared.call.Call.{Call}
use Rattle.world_view_laws.specs.posix_types.declared.call.Who.{Who}
use Rattle.world_view_laws.specs.posix_types.declared.item.Item.{Item}
use Rattle.world_view_laws.specs.posix_spec.Run.{Unfinished}
use Rattle.world_view_laws.specs.posix_spec.Scripted.{call_count, IsComplete, IsSetUp}
use Rattle.world_view_laws.specs.write_jobs.Jobs.{FilledView, JobView}
use Rattle.world_view_laws.specs.Begins.{BeginsJob, EndsRound, IsFilledOut, MayBegin, Returns, WaitsFor}
use Rattle.world_view_laws.specs.Jobs.{Finishes, GivesUp}
use Rattle.world_view_laws.specs.Rounds.{IsNextRound}
use Rattle.world_view_laws.specs.Views.{calls_out, HasNone, next_of, WorldView}
use Rattle.run_laws.specs.declared.held.Work.{Work}
use Rattle.run_laws.specs.Between.{AreCallsLeft, Between}
use Rattle.run_laws.specs.Course.{IsCourse, IsEventOf, Leads, setting_of}
use Rattle.run_laws.specs.EventsLaws.{CanBegin, CanCheck, held, IsTurn, opened_log, IsHeldAt, with_job, with_log, with_work, without_job}
use Rattle.run_laws.specs.Held.{nothing_out, OutView}
use Rattle.run_laws.specs.EventsPaid.{IsPaid}
use Rattle.run_laws.specs.Runs.{IsFirst, IsScheduled}

-- AN EVENT OF THE MACHINE, and of the World: it is of this caller, or of nobody; and it leads to a machine that stands beside the World again.
pub record GoesBeside (who : Option Who) (g : Setting) (m : Machine) (old new : WorldView) (left : OutView) : Type 0 where
  pub event : Event
  pub next : Machine
  pub caller : caller_of event ≡ who
  pub goes : Goes g m event next
  pub of_world : IsEventOf event old new
  pub course : IsCourse g new left next

-- whatever machine stands beside the moment before
abbrev pub LeadsOn : Option Who → WorldView → OutView → WorldView → OutView → Type 0
LeadsOn who old out new left = (g : Setting) (m : Machine) → IsCourse g old out m → GoesBeside who g m old new left

-- ---- at the start, and where a round begins

-- at the start nothing is out, and nothing is to pay
pub record StartsRun (w : WorldView) : Type 0 where
  pub between : Between w nothing_out
  pub course : IsCourse (setting_of w) w nothing_out at_rest
  pub paid : (now : Supply) → IsPaid now now w []

abbrev pub RunStarts : Type 0
RunStarts = (w : WorldView) → IsFirst w → StartsRun w

-- where the lines go out, the machine stays
abbrev pub OpensBeside : Type 0
OpensBeside =
    (g : Setting) (m : Machine) (old new : WorldView) (out : OutView) (lines : List Part) (base : ℕ) → IsTurn old new → out.log ≡ None → IsCourse g old out m → IsCourse g new (with_log out (opened_log lines base)) m

-- ---- the events of a caller

abbrev pub ReturnsBeside : Type 0
ReturnsBeside = (who : Who) (w new : WorldView) (out : OutView) (before after : Supply) → CanBegin who w out → Returns who w new before after → LeadsOn (Some who) w out new out

abbrev pub LogsBeside : Type 0
LogsBeside =
    (who : Who) (w new : WorldView) (out : OutView) (after : Supply) (job : JobView) → CanBegin who w out → BeginsJob who w new after job → LeadsOn (Some who) w out new (with_job out (held who (Work.Began job)))

abbrev pub FillsBeside : Type 0
FillsBeside =
    (who : Who) (w : WorldView) (out : OutView) (i : ℕ) (job : JobView) (filled : FilledView) → Between w out → IsHeldAt out i who (Work.Began job) → LeadsOn (Some who) w out w (with_work out i (held who (Work.Filled filled)))

abbrev pub ClaimsBeside : Type 0
ClaimsBeside =
    (who : Who) (w : WorldView) (out : OutView) (i slot : ℕ) (log new : RoundView) (filled : FilledView) → Between w out → IsHeldAt out i who (Work.Filled filled) → out.log ≡ Some log → IsClaimed log new (Ok slot)
    → LeadsOn (Some who) w out w (with_work (with_log out new) i (held who (Work.Claimed filled slot)))

abbrev pub FindsFullBeside : Type 0
FindsFullBeside =
    (who : Who) (w new : WorldView) (out : OutView) (i : ℕ) (log same : RoundView) (filled : FilledView) (full : Full) → Between w out → IsHeldAt out i who (Work.Filled filled) → out.log ≡ Some log → IsClaimed log same (Err full)
    → ((p : JobOut) → IsFilledOut w p filled → GivesUp full p w new) → LeadsOn (Some who) w out new (without_job (with_log out same) i)

abbrev pub StoresBeside : Type 0
StoresBeside =
    (who : Who) (w : WorldView) (out : OutView) (i slot : ℕ) (log new : RoundView) (filled : FilledView) → Between w out → IsHeldAt out i who (Work.Claimed filled slot) → out.log ≡ Some log → new.tail ≡ log.tail
    → LeadsOn (Some who) w out w (with_work (with_log out new) i (held who (Work.Stored filled slot)))

abbrev pub PersistsBeside : Type 0
PersistsBeside =
    (who : Who) (w : WorldView) (out : OutView) (i slot : ℕ) (log new : RoundView) (filled : FilledView) → Between w out → IsHeldAt out i who (Work.Stored filled slot) → out.log ≡ Some log → new.tail ≡ log.tail
    → LeadsOn (Some who) w out w (with_work (with_log out new) i (held who (Work.Persisted filled slot)))

abbrev pub FinishesBeside : Type 0
FinishesBeside =
    (who : Who) (w new : WorldView) (out : OutView) (i slot : ℕ) (power : Supply) (filled : FilledView) → Between w out → IsHeldAt out i who (Work.Persisted filled slot)
    → ((p : JobOut) → IsFilledOut w p filled → Finishes slot p w new power) → LeadsOn (Some who) w out new (without_job out i)

-- ---- a Checkpoint, and the end of a round for want of space

abbrev pub ChecksBeside : Type 0
ChecksBeside = (w new : WorldView) (out : OutView) (log : RoundView) (after : Supply) → CanCheck w out log → IsNextRound w new after → LeadsOn None w out new nothing_out

abbrev pub LacksSpaceBeside : Type 0
LacksSpaceBeside =
    (who : Who) (w new : WorldView) (out : OutView) (after : Supply) (need left : ℕ) (g : Setting) (m : Machine) → CanBegin who w out → EndsRound who w new after need left → IsCourse g w out m
    → (next : Machine) × LacksSpace g m who next × IsCourse g new out next

-- ---- who can run

-- A caller with a job out can; one without can exactly where the set-up lets it, the round goes on, and its next call waits for no job.
abbrev pub JobCanRun : Type 0
JobCanRun = (g : Setting) (m : Machine) (w : WorldView) (out : OutView) (p : JobOut) → Between w out → IsCourse g w out m → In p w.pending → can_run g m p.who ≡ true

abbrev pub IdleCanRun : Type 0
IdleCanRun =
    (g : Setting) (m : Machine) (w : WorldView) (out : OutView) (who : Who) → Between w out → IsCourse g w out m → HasNone w who → IsSetUp w.scripts w.history who → w.over ≡ None → MayBegin w who → can_run g m who ≡ true

-- so its next call may begin in the machine
abbrev pub IdleBegins : Type 0
IdleBegins =
    (g : Setting) (m : Machine) (w : WorldView) (out : OutView) (who : Who) → Between w out → IsCourse g w out m → HasNone w who → IsSetUp w.scripts w.history who → w.over ≡ None → (may : MayBegin w who) → Begins g m who may.call

-- Where the power goes as it does, the calls that are out are those of the machine, and the one that began may stand behind them.
pub record HasBegun (g : Setting) (m : Machine) (who : Who) (unfinished : List Unfinished) : Type 0 where
  pub call : Call
  pub begins : Begins g m who call
  pub behind : unfinished ≡ unfinished_of m ++ (who, call) ∷ []

abbrev pub LosesBeside : Type 0
LosesBeside =
    (g : Setting) (m : Machine) (w new : WorldView) (out : OutView) (who : Who) → CanBegin who w out → IsCourse g w out m → w.over ≡ None → MayBegin w who → AreCallsLeft (Some who) w new
    → (calls_out new ≡ unfinished_of m) ⊎ HasBegun g m who (calls_out new)

abbrev pub IsKeptFrom : WorldView → Who → Type 0
IsKeptFrom w who = (next_of w who ≡ None) ⊎ ((w.over ≢ None) ⊎ ((ino : ℕ) × (holder : Who) × WaitsFor w who ino holder))

abbrev pub OthersCannot : Type 0
OthersCannot = (g : Setting) (m : Machine) (w : WorldView) (out : OutView) (who : Who) → Between w out → IsCourse g w out m → HasNone w who → IsKeptFrom w who → can_run g m who ≡ false

-- ---- what is left

-- while the set-up is not done it has a next call, each job that is out is its own, and calls are left
pub record IsSettingUp (w : WorldView) : Type 0 where
  pub next : next_of w Who.Setup ≢ None
  pub own : (p : JobOut) → In p w.pending → p.who ≡ Who.Setup
  pub left : length w.history < call_count w.scripts

abbrev pub SetUpGoesOn : Type 0
SetUpGoesOn = (w : WorldView) (out : OutView) → Between w out → ¬ IsSetUp w.scripts w.history (Who.Thread 0) → IsSettingUp w

-- once it is, and no thread has a next call, all calls have returned
abbrev pub AllReturn : Type 0
AllReturn =
    (w : WorldView) (out : OutView) → Between w out → IsSetUp w.scripts w.history (Who.Thread 0) → ((n : ℕ) → n < length w.scripts.threads → next_of w (Who.Thread n) ≡ None) → IsComplete w.scripts w.history

-- SOMEBODY CAN RUN while calls are left and the round goes on, or a job is out: where some thread has a next call and none can run, the round
-- is over, no job is out, and calls are left.
pub record MustCheck (w : WorldView) (out : OutView) : Type 0 where
  pub over : w.over ≢ None
  pub none_out : out.jobs ≡ []
  pub left : length w.history < call_count w.scripts

abbrev pub NobodyRuns : Type 0
NobodyRuns =
    (w : WorldView) (out : OutView) → Between w out → IsSetUp w.scripts w.history (Who.Thread 0)
    → ((n : ℕ) → n < length w.scripts.threads → HasNone w (Who.Thread n) × IsKeptFrom w (Who.Thread n)) → (n : ℕ) → next_of w (Who.Thread n) ≢ None → MustCheck w out

-- SOMEBODY CAN RUN, while calls are left and the round goes on or a job is out: the set-up, or once it is done a thread.
abbrev pub SomebodyRuns : Type 0
SomebodyRuns =
    (g : Setting) (m : Machine) (w : WorldView) (out : OutView) → Between w out → IsCourse g w out m → length w.history < call_count w.scripts → (w.over ≡ None) ⊎ (w.pending ≢ [])
    → (¬ IsSetUp w.scripts w.history (Who.Thread 0) × (can_run g m Who.Setup ≡ true)) ⊎ ((n : ℕ) × Contains (runnable g m) n)

-- WHILE THE ROUND IS OVER CALLS ARE LEFT, so a Checkpoint comes.
abbrev pub OverIsNoEnd : Type 0
OverIsNoEnd = (g : Setting) (m : Machine) (w : WorldView) (out : OutView) → Between w out → IsCourse g w out m → w.over ≢ None → have_ended g m ≡ false

-- it alone is nobody's event
abbrev pub IsNobodys : Type 0
IsNobodys = (e : Event) → caller_of e ≡ None → e ≡ Checkpoint

-- ---- how the machine came here

abbrev pub LeadsReaches : Type 0
LeadsReaches = (order : Order) (first w : WorldView) (events : ℕ) (out : OutView) (c : Course) → Leads order first events w out c → Reaches (setting_of first) order events c

-- so what is scheduled is so for the machine, whatever stands below it
abbrev pub AreScheduled : Type 0
AreScheduled =
    (w : WorldView) (order : Order) (events : ℕ) (history : List Item) (calls : List Unfinished) → IsScheduled w order events history calls → Scheduled (setting_of w) order events history calls

-- the calls that are out are those of the machine
abbrev pub CallsAreOut : Type 0
CallsAreOut = (g : Setting) (m : Machine) (w : WorldView) (out : OutView) → Between w out → IsCourse g w out m → calls_out w ≡ unfinished_of m
