-- What a step of a run leaves.
use Rattle.std.specs.Prelude.{◌≡◌, ◌≢◌, ◌⊎◌, ◌<◌, ◌+◌, ℕ, Bool, true, false, List, [], ◌∷◌, ◌++◌, length, filter, Option, Some, None, IsSome, Contains}
use Rattle.std.specs.List.{insert, range_with_len}
use Rattle.posix_types.specs.declared.call.Who.{Who}
use Rattle.run_laws.specs.crash_spec.Machine.{LacksSpace, Machine, Setting, unfinished_of}
use Rattle.run_laws.specs.crash_spec.Orders.{Order}
use Rattle.run_laws.specs.crash_spec.Schedules.{Course}
use Rattle.schedule.specs.declared.picks.Picker.{Picker}
use Rattle.schedule.specs.Picking.{IsSoFar}
use Rattle.run_laws.specs.posix_spec.Scripted.{IsComplete}
use Rattle.run_laws.specs.pm_model.Parts.{Part}
use Rattle.run_laws.specs.pm_model.Powers.{is_on, Supply}
use Rattle.run_laws.specs.live_model.Standing.{JobOut}
use Rattle.run_laws.specs.list_laws.Members.{In}
use Rattle.run_laws.specs.world_view_laws.Begins.{EndsRound, MayBegin}
use Rattle.run_laws.specs.world_view_laws.Rounds.{IsRoundBegun}
use Rattle.run_laws.specs.world_view_laws.Views.{calls_out, HasNone, next_of, WorldView}
use Rattle.run_laws.specs.posix_spec.Run.{Unfinished}
use Rattle.run_laws.specs.declared.held.Held.{Held}
use Rattle.run_laws.specs.declared.held.Work.{Work}
use Rattle.run_laws.specs.Between.{Between, GoesOn, LosesPower}
use Rattle.run_laws.specs.EventsLaws.{CanBegin, held, IsOpened, opened_log, with_log}
use Rattle.run_laws.specs.Held.{OutView}
use Rattle.run_laws.specs.Course.{IsCourse, Leads, setting_of}
use Rattle.run_laws.specs.CourseLaws.{HasBegun, IsKeptFrom, LeadsOn}
use Rattle.run_laws.specs.Runs.{AreLeft}
use Rattle.split_machine.specs.declared.outstanding.Out.{Out}
use Rattle.split_machine.specs.declared.outstanding.Acted.{Acted}

-- what the laws see of what is out
abbrev pub seen : Out → OutView
seen out = record { log = out.log; jobs = out.jobs.items }

-- ---- an event of a caller

-- The round ended for want of space, as a caller began its call: the World says why, and beside it the machine's round is over.
pub record EndsBeside (who : Who) (old : WorldView) (out : OutView) (new : WorldView) (left : OutView) : Type 0 where
  pub same : left ≡ out
  pub after : Supply
  pub need : ℕ
  pub room : ℕ
  pub ends : EndsRound who old new after need room
  pub beside : (g : Setting) (m : Machine) → IsCourse g old out m → (next : Machine) × LacksSpace g m who next × IsCourse g new left next

-- the calls that are out are those of the machine; where this caller began a call, that may stand behind them
abbrev pub AreOutBeside : Setting → Machine → Option Who → List Unfinished → Type 0
AreOutBeside g m None calls = calls ≡ unfinished_of m
AreOutBeside g m (Some who) calls = (calls ≡ unfinished_of m) ⊎ HasBegun g m who calls

-- The power went in an event of this caller, or in one of nobody.
pub record LosesEvent (who : Option Who) (old : WorldView) (out : OutView) (new : WorldView) (left : OutView) (before after : Supply) : Type 0 where
  pub begins : Option Who
  pub loses : LosesPower begins old out new left before after
  pub beside : (g : Setting) (m : Machine) → IsCourse g old out m → AreOutBeside g m who (calls_out new)

-- WHAT AN EVENT OF A CALLER LEAVES: an event of the machine, behind which less is left to do; a round that is over, which is no event; or a
-- power loss.
abbrev pub IsActed : Who → WorldView → OutView → WorldView → OutView → Supply → Supply → Acted → Type 0
IsActed who old out new left before after Acted.Event = GoesOn old out new left before after × LeadsOn (Some who) old out new left × IsSome left.log
IsActed who old out new left before after Acted.RoundOver = GoesOn old out new left before after × EndsBeside who old out new left × IsSome left.log
IsActed who old out new left before after Acted.PowerLost = LosesEvent (Some who) old out new left before after

-- whether the power lasted
abbrev pub acted_by : Bool → Acted
acted_by true = Acted.Event
acted_by false = Acted.PowerLost

-- the work of a job is back at its place, if some is left
abbrev pub with_back : List Held → ℕ → Who → Option Work → List Held
with_back jobs i who None = jobs
with_back jobs i who (Some work) = insert jobs i (held who work)

-- A caller with no job begins its call, which no job keeps waiting, while the round goes on and the power is on.
pub record IsToBegin (who : Who) (w : WorldView) (out : OutView) : Type 0 where
  pub can : CanBegin who w out
  pub going : w.over ≡ None
  pub may : MayBegin w who

-- A job stands at this place, the lines are out, and the power is on.
pub record HasJobAt (w : WorldView) (out : OutView) (place : ℕ) (power : Supply) : Type 0 where
  pub between : Between w out
  pub log : IsSome out.log
  pub within : place < length out.jobs
  pub on : is_on power ≡ true

-- ---- who can run

-- A caller can run: it has a job out; or its next call may begin, while the round goes on.
abbrev pub IsAble : WorldView → Who → Type 0
IsAble w who = ((p : JobOut) × In p w.pending × (p.who ≡ who)) ⊎ (HasNone w who × (w.over ≡ None) × MayBegin w who)

-- or it cannot, and has no job
abbrev pub IsKept : WorldView → Who → Type 0
IsKept w who = HasNone w who × IsKeptFrom w who

abbrev pub IsAbleBy : WorldView → Who → Bool → Type 0
IsAbleBy w who true = IsAble w who
IsAbleBy w who false = IsKept w who

-- The lines are out, between two events; where a job is out the power is on.
pub record IsUnderWay (w : WorldView) (out : OutView) (power : Supply) : Type 0 where
  pub between : Between w out
  pub log : IsSome out.log
  pub on : out.jobs ≢ [] → is_on power ≡ true

-- such a test tells of each thread whether it can run
abbrev pub Tells : WorldView → (ℕ → Bool) → Type 0
Tells w f = (n : ℕ) (b : Bool) → IsAbleBy w (Who.Thread n) b → f n ≡ b

-- THE THREADS THAT CAN RUN, by rising number.
pub record AreRunnable (w : WorldView) (numbers : List ℕ) : Type 0 where
  pub each : (n : ℕ) → Contains numbers n → IsAble w (Who.Thread n)
  pub all : (f : ℕ → Bool) → Tells w f → numbers ≡ filter f (range_with_len 0 (length w.scripts.threads))
  pub others : numbers ≡ [] → (n : ℕ) → n < length w.scripts.threads → IsKept w (Who.Thread n)

-- with one number more, if it is one that can run
abbrev pub with_able : Bool → List ℕ → ℕ → List ℕ
with_able true numbers n = numbers ++ n ∷ []
with_able false numbers n = numbers

-- no thread has a next call, or this one has
abbrev pub HaveEnded : WorldView → Bool → Type 0
HaveEnded w true = (n : ℕ) → n < length w.scripts.threads → next_of w (Who.Thread n) ≡ None
HaveEnded w false = (n : ℕ) × (next_of w (Who.Thread n) ≢ None)

-- ---- the course

-- SO MANY EVENTS LED HERE from a World that was mounted, in this order; a machine stands beside, and the picker stands for the order so far.
pub record IsOnCourse (first : WorldView) (order : Order) (events : ℕ) (w : WorldView) (out : OutView) (picker : Picker) : Type 0 where
  pub course : Course
  pub leads : Leads order first events w out course
  pub beside : IsCourse (setting_of first) w out course.machine
  pub so_far : IsSoFar picker order course.picker

-- whatever course led to one moment, with so many events more it leads to another
abbrev pub KeepsCourse : ℕ → WorldView → OutView → Picker → WorldView → OutView → Picker → Type 0
KeepsCourse more old out picker new left then =
    (first : WorldView) (order : Order) (events : ℕ) → IsOnCourse first order events old out picker → IsOnCourse first order (events + more) new left then

-- ---- a step

-- The power went in the next event: a call that had begun is of the caller whose turn it was.
pub record LosesStep (old : WorldView) (out : OutView) (picker : Picker) (new : WorldView) (left : OutView) (before after : Supply) : Type 0 where
  pub begins : Option Who
  pub loses : LosesPower begins old out new left before after
  pub leaves : (first : WorldView) (order : Order) (events : ℕ) (on : IsOnCourse first order events old out picker) → AreLeft (setting_of first) order on.course (calls_out new)

-- WHAT A STEP LEAVES: all calls have returned; or an event; the end of a round for want of space, which is none; or a power loss.
abbrev pub IsStepped : WorldView → OutView → Picker → WorldView → OutView → Picker → Supply → Supply → Option Acted → Type 0
IsStepped old out picker new left then before after None = (new ≡ old) × (left ≡ out) × (then ≡ picker) × (after ≡ before) × IsComplete old.scripts old.history
IsStepped old out picker new left then before after (Some Acted.Event) = GoesOn old out new left before after × KeepsCourse 1 old out picker new left then
IsStepped old out picker new left then before after (Some Acted.RoundOver) = GoesOn old out new left before after × KeepsCourse 0 old out picker new left then
IsStepped old out picker new left then before after (Some Acted.PowerLost) = LosesStep old out picker new left before after

-- what a step of the set-up leaves, or a Checkpoint: the picker is as before
abbrev pub IsSetUpStep : WorldView → OutView → WorldView → OutView → Supply → Supply → Acted → Type 0
IsSetUpStep old out new left before after acted = (picker : Picker) → IsStepped old out picker new left picker before after (Some acted)

-- ---- a round

-- A round began, beside which the machine stays.
pub record IsBegunRound (old : WorldView) (out : OutView) (new : WorldView) (left : OutView) : Type 0 where
  pub lines : List Part
  pub base : ℕ
  pub begun : IsRoundBegun old new lines base
  pub none : out.log ≡ None
  pub left_is : left ≡ with_log out (opened_log lines base)
  pub opened : IsOpened old out new left
  pub beside : (g : Setting) (m : Machine) → IsCourse g old out m → IsCourse g new left m

-- THE LINES ARE OUT: they were, or a round began.
abbrev pub IsOpen : WorldView → OutView → WorldView → OutView → Type 0
IsOpen old out new left = IsSome left.log × (((new ≡ old) × (left ≡ out)) ⊎ IsBegunRound old out new left)
