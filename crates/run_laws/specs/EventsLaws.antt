-- How each event of a run leads from one moment between two events to the next, each law as one statement.
use Rattle.std.specs.Prelude.{◌≡◌, ◌≢◌, ◌≤◌, ◌<◌, ◌+◌, ◌*◌, ◌^◌, ℕ, true, false, List, [], ◌∷◌, ◌++◌, length, Some, None, Ok, Err, IsSome, slice_get, slice_set, if◌then◌else◌}
use Rattle.std.specs.List.{remove}
use Rattle.round_log.specs.layout_model.declared.lines.Draft.{Draft}
use Rattle.round_log.specs.oplog_entry.declared.claims.Full.{Full}
use Rattle.round_log.specs.oplog_entry.declared.claims.Mark.TheVariants.{Lost, Written}
use Rattle.round_log.specs.oplog_entry.EntryLines.{entry_words, IsSingle}
use Rattle.round_log.specs.oplog_entry.LogLines.{line_at}
use Rattle.round_log.specs.pm_model.Parts.{Part}
use Rattle.round_log.specs.pm_model.Powers.{is_on, Steps, Supply}
use Rattle.round_log.specs.Rounds.{ChangesLine, IsClaimed, RoundView}
use Rattle.round_log.specs.Stores.{HasStored, Persists}
use Rattle.world_view_laws.specs.in_flight.Costs.{most_of}
use Rattle.world_view_laws.specs.k_journal.Commits.{TakesAStep}
use Rattle.world_view_laws.specs.live_model.Standing.{JobOut}
use Rattle.world_view_laws.specs.posix_types.declared.call.Mode.{Mode}
use Rattle.world_view_laws.specs.posix_types.declared.call.Who.{Who}
use Rattle.world_view_laws.specs.posix_spec.Afforded.{Afforded}
use Rattle.world_view_laws.specs.posix_spec.Scripted.{IsComplete, IsSetUp}
use Rattle.world_view_laws.specs.write_jobs.Jobs.{FilledView, IsCutOff, IsFilled, JobView}
use Rattle.world_view_laws.specs.Begins.{BeginsJob, EndsRound, IsFilledOut, IsPowerLost, Returns}
use Rattle.world_view_laws.specs.Jobs.{Finishes, GivesUp, IsOfWorld, LosesFinish}
use Rattle.world_view_laws.specs.Rounds.{IsNextRound, IsRoundBegun, LosesRound, MayCheckpoint, MayUnmount}
use Rattle.world_view_laws.specs.Views.{HasNone, next_of, WorldView}
use Rattle.run_laws.specs.declared.held.Held.{Held}
use Rattle.run_laws.specs.declared.held.Work.{Work}
use Rattle.run_laws.specs.Between.{Between, CanCrash, GoesOn, left_to_do, LosesPower}
use Rattle.run_laws.specs.Held.{nothing_out, OutView}
use Rattle.run_laws.specs.EventsPaid.{IsPaid, IsPaidOff, PaysForActed}

-- ---- what is out, with a change

-- the job of a caller, as far as it came
abbrev pub held : Who → Work → Held
held who work = record { who = who; work = work }

abbrev pub with_log : OutView → RoundView → OutView
with_log out log = record out { log = Some log }

-- one job more; the one at a place came further; it is out no more
abbrev pub with_job : OutView → Held → OutView
with_job out h = record out { jobs = out.jobs ++ h ∷ [] }

abbrev pub with_work : OutView → ℕ → Held → OutView
with_work out i h = record out { jobs = slice_set out.jobs i h }

abbrev pub without_job : OutView → ℕ → OutView
without_job out i = record out { jobs = remove out.jobs i }

-- A job of a caller stands at a place, as far as it came.
abbrev pub IsHeldAt : OutView → ℕ → Who → Work → Type 0
IsHeldAt out i who work = slice_get out.jobs i ≡ Some (held who work)

-- ---- a round begins

-- only what stands below, the lines and their first words differ
abbrev pub IsTurn : WorldView → WorldView → Type 0
IsTurn old new = new ≡ record old { disk = new.disk; lines_out = new.lines_out; first = new.first }

-- the log as it is opened
abbrev pub opened_log : List Part → ℕ → RoundView
opened_log lines base = record { lines = lines; base = base; tail = 0 }

-- The lines are out; what is left to do, and what it took, stay.
pub record IsOpened (old : WorldView) (out : OutView) (new : WorldView) (left : OutView) : Type 0 where
  pub turn : IsTurn old new
  pub between : Between new left
  pub jobs : left.jobs ≡ out.jobs
  pub same : left_to_do new left ≡ left_to_do old out
  pub paid : (first now : Supply) → IsPaid first now old out.jobs → IsPaid first now new left.jobs

abbrev pub BeginsRound : Type 0
BeginsRound =
    (old new : WorldView) (out : OutView) (lines : List Part) (base : ℕ) → Between old out → out.log ≡ None → IsRoundBegun old new lines base
    → IsOpened old out new (with_log out (opened_log lines base))

-- ---- a call begins

-- A caller with no job may begin, while the lines are out.
pub record CanBegin (who : Who) (w : WorldView) (out : OutView) : Type 0 where
  pub between : Between w out
  pub log : IsSome out.log
  pub none : HasNone w who
  pub set_up : IsSetUp w.scripts w.history who

-- IT RETURNS.
abbrev pub CallReturns : Type 0
CallReturns =
    (who : Who) (w new : WorldView) (out : OutView) (before after : Supply) → CanBegin who w out → Steps (most_of w.start.mode (next_of w who)) before after → Returns who w new before after
    → GoesOn w out new out before after

-- IT IS LOGGED: a job is out.
abbrev pub JobBegins : Type 0
JobBegins =
    (who : Who) (w new : WorldView) (out : OutView) (before after : Supply) (job : JobView) → CanBegin who w out → Steps (most_of w.start.mode (next_of w who)) before after → BeginsJob who w new after job
    → GoesOn w out new (with_job out (held who (Work.Began job))) before after

-- THE ROUND ENDS for want of space.
abbrev pub RoundEnds : Type 0
RoundEnds =
    (who : Who) (w new : WorldView) (out : OutView) (before after : Supply) (need left : ℕ) → CanBegin who w out → Steps (most_of w.start.mode (next_of w who)) before after → EndsRound who w new after need left
    → GoesOn w out new out before after

-- THE POWER GOES.
abbrev pub BeginLoses : Type 0
BeginLoses =
    (who : Who) (w new : WorldView) (out : OutView) (before after : Supply) → CanBegin who w out → Steps (most_of w.start.mode (next_of w who)) before after → IsPowerLost who w new before after
    → LosesPower (Some who) w out new out before after

-- ---- a job is filled

abbrev pub JobFills : Type 0
JobFills =
    (who : Who) (w : WorldView) (out : OutView) (i : ℕ) (before after : Supply) (job : JobView) (filled : FilledView) → Between w out → IsHeldAt out i who (Work.Began job)
    → Steps (2 ^ 15) before after → IsFilled job after filled → GoesOn w out w (with_work out i (held who (Work.Filled filled))) before after

-- or the power goes.
abbrev pub FillLoses : Type 0
FillLoses =
    (who : Who) (w : WorldView) (out : OutView) (i : ℕ) (before after : Supply) (job cut : JobView) → Between w out → IsHeldAt out i who (Work.Began job)
    → Steps (2 ^ 15) before after → IsCutOff job after cut → LosesPower None w out w (with_work out i (held who (Work.Began cut))) before after

-- ---- it claims a slot

abbrev pub JobClaims : Type 0
JobClaims =
    (who : Who) (w : WorldView) (out : OutView) (i slot : ℕ) (log new : RoundView) (power : Supply) (filled : FilledView) → Between w out → IsHeldAt out i who (Work.Filled filled) → out.log ≡ Some log
    → is_on power ≡ true → IsClaimed log new (Ok slot) → GoesOn w out w (with_work (with_log out new) i (held who (Work.Claimed filled slot))) power power

-- A filled job is one of this World, which goes on with its lines out, and the log has its size.
pub record IsHere (w : WorldView) (log : RoundView) (filled : FilledView) : Type 0 where
  pub of_world : IsOfWorld w filled
  pub lines_out : w.lines_out ≡ true
  pub usable : w.usable ≡ true
  pub size : length log.lines ≡ w.geometry.log

abbrev pub FilledIsHere : Type 0
FilledIsHere =
    (who : Who) (w : WorldView) (out : OutView) (i : ℕ) (log : RoundView) (filled : FilledView) → Between w out → IsHeldAt out i who (Work.Filled filled) → out.log ≡ Some log → IsHere w log filled

-- None is left: IT IS GIVEN UP, and the round is over.
abbrev pub JobGivenUp : Type 0
JobGivenUp =
    (who : Who) (w new : WorldView) (out : OutView) (i : ℕ) (log same : RoundView) (power : Supply) (filled : FilledView) (full : Full) → Between w out → IsHeldAt out i who (Work.Filled filled) → out.log ≡ Some log
    → is_on power ≡ true → IsClaimed log same (Err full) → ((p : JobOut) → IsFilledOut w p filled → GivesUp full p w new)
    → GoesOn w out new (without_job (with_log out same) i) power power

-- ---- its entry is stored

-- The line of a slot that was claimed is there, with one candidate a word.
abbrev pub ClaimedIsFree : Type 0
ClaimedIsFree =
    (who : Who) (w : WorldView) (out : OutView) (i slot : ℕ) (log : RoundView) (filled : FilledView) → Between w out → IsHeldAt out i who (Work.Claimed filled slot) → out.log ≡ Some log
    → (slot < length log.lines) × IsSingle (line_at log.lines slot).cells

-- The entry is stored into it, as far as the power lasts; where it does a step was taken.
pub record StoresEntry (log new : RoundView) (slot : ℕ) (d : Draft) (before after : Supply) : Type 0 where
  pub steps : Steps 8 before after
  pub took : is_on after ≡ true → TakesAStep before after
  pub line : ChangesLine slot log new
  pub has : HasStored (line_at log.lines slot).cells (entry_words d (log.base + slot)) (is_on after) (line_at new.lines slot).cells

abbrev pub EntryStored : Type 0
EntryStored =
    (who : Who) (w : WorldView) (out : OutView) (i slot : ℕ) (log new : RoundView) (before after : Supply) (filled : FilledView) → Between w out → IsHeldAt out i who (Work.Claimed filled slot) → out.log ≡ Some log
    → StoresEntry log new slot filled.draft before after → is_on after ≡ true → GoesOn w out w (with_work (with_log out new) i (held who (Work.Stored filled slot))) before after

abbrev pub StoreLoses : Type 0
StoreLoses =
    (who : Who) (w : WorldView) (out : OutView) (i slot : ℕ) (log new : RoundView) (before after : Supply) (filled : FilledView) → Between w out → IsHeldAt out i who (Work.Claimed filled slot) → out.log ≡ Some log
    → StoresEntry log new slot filled.draft before after → is_on after ≡ false → LosesPower None w out w (with_work (with_log out new) i (held who (Work.Stored filled slot))) before after

-- ---- and is durable

abbrev pub StoredIsThere : Type 0
StoredIsThere =
    (who : Who) (w : WorldView) (out : OutView) (i slot : ℕ) (log : RoundView) (filled : FilledView) → Between w out → IsHeldAt out i who (Work.Stored filled slot) → out.log ≡ Some log
    → slot < length log.lines

pub record PersistsEntry (log new : RoundView) (slot : ℕ) (before after : Supply) : Type 0 where
  pub steps : Steps 2 before after
  pub line : ChangesLine slot log new
  pub holds : Persists (if is_on after then Written else Lost) (log.base + slot) (is_on before) (line_at log.lines slot).cells (line_at new.lines slot).cells

abbrev pub EntryPersisted : Type 0
EntryPersisted =
    (who : Who) (w : WorldView) (out : OutView) (i slot : ℕ) (log new : RoundView) (before after : Supply) (filled : FilledView) → Between w out → IsHeldAt out i who (Work.Stored filled slot) → out.log ≡ Some log
    → PersistsEntry log new slot before after → is_on after ≡ true → GoesOn w out w (with_work (with_log out new) i (held who (Work.Persisted filled slot))) before after

abbrev pub PersistLoses : Type 0
PersistLoses =
    (who : Who) (w : WorldView) (out : OutView) (i slot : ℕ) (log new : RoundView) (before after : Supply) (filled : FilledView) → Between w out → IsHeldAt out i who (Work.Stored filled slot) → out.log ≡ Some log
    → PersistsEntry log new slot before after → is_on after ≡ false → LosesPower None w out w (with_work (with_log out new) i (held who (Work.Stored filled slot))) before after

-- ---- the job finishes

abbrev pub PersistedIsHere : Type 0
PersistedIsHere =
    (who : Who) (w : WorldView) (out : OutView) (i slot : ℕ) (log : RoundView) (filled : FilledView) → Between w out → IsHeldAt out i who (Work.Persisted filled slot) → out.log ≡ Some log
    → IsHere w log filled × (slot < w.geometry.log)

-- It takes at most 2^26 steps.
abbrev pub JobFinishes : Type 0
JobFinishes =
    (who : Who) (w new : WorldView) (out : OutView) (i slot : ℕ) (before after : Supply) (filled : FilledView) → Between w out → IsHeldAt out i who (Work.Persisted filled slot)
    → Steps (2 ^ 26) before after → ((p : JobOut) → IsFilledOut w p filled → Finishes slot p w new after) → GoesOn w out new (without_job out i) before after

-- Or the power goes in them: its blocks are at home, and its claim counts.
abbrev pub FinishLoses : Type 0
FinishLoses =
    (who : Who) (w new : WorldView) (out : OutView) (i slot : ℕ) (before after : Supply) (filled : FilledView) → Between w out → IsHeldAt out i who (Work.Persisted filled slot)
    → Steps (2 ^ 26) before after → ((p : JobOut) → IsFilledOut w p filled → LosesFinish slot p w new after) → LosesPower None w out new (without_job out i) before after

-- ---- a Checkpoint

-- The round is over, and no job is out.
pub record CanCheck (w : WorldView) (out : OutView) (log : RoundView) : Type 0 where
  pub between : Between w out
  pub log_is : out.log ≡ Some log
  pub over : w.over ≢ None
  pub none_out : out.jobs ≡ []

abbrev pub MayCheck : Type 0
MayCheck = (w : WorldView) (out : OutView) (log : RoundView) → CanCheck w out log → MayCheckpoint w log.lines

abbrev pub RoundChecked : Type 0
RoundChecked =
    (w new : WorldView) (out : OutView) (log : RoundView) (before after : Supply) → CanCheck w out log → Steps (2 ^ 26) before after → IsNextRound w new after
    → GoesOn w out new nothing_out before after

abbrev pub CheckLoses : Type 0
CheckLoses =
    (w new : WorldView) (out : OutView) (log : RoundView) (before after : Supply) → CanCheck w out log → Steps (2 ^ 26) before after → LosesRound w new after
    → LosesPower None w out new nothing_out before after

-- ---- at any moment, and at the end

-- A CRASH MAY COME between two events, with the power on too.
abbrev pub CrashesBetween : Type 0
CrashesBetween = (w : WorldView) (out : OutView) → Between w out → CanCrash w out

-- Where all calls returned no job is out, and the run may be unmounted.
abbrev pub MayEnd : Type 0
MayEnd =
    (w : WorldView) (out : OutView) (log : RoundView) → Between w out → out.log ≡ Some log → IsComplete w.scripts w.history → (out.jobs ≡ []) × MayUnmount w log.lines

-- THE STEPS ARE AFFORDED where the power went; where a run was cut, with the power on; and where all calls returned,
-- and an unmount came behind them.
abbrev pub AffordsLost : Type 0
AffordsLost =
    (w : WorldView) (first after : Supply) (steps : ℕ) → IsPaidOff first after w → w.acts ≤ 16 * (length w.history + 2) → after.taken ≡ first.taken + steps
    → Afforded steps w.history w.scripts w.start.mode

abbrev pub PaidIsPaidOff : Type 0
PaidIsPaidOff = (w : WorldView) (out : OutView) (first now : Supply) → IsPaid first now w out.jobs → IsPaidOff first now w

-- Between two events, too, each call that is out and acted took a step.
abbrev pub ActedBetween : Type 0
ActedBetween =
    (w : WorldView) (out : OutView) (first now : Supply) (given : ℕ) → Between w out → first.given ≡ Some given → IsPaid first now w out.jobs → PaysForActed first now w out given

abbrev pub AffordsWhole : Type 0
AffordsWhole =
    (w : WorldView) (out : OutView) (first now after : Supply) (steps : ℕ) → IsPaid first now w out.jobs → IsComplete w.scripts w.history → w.acts ≤ 16 * (length w.history + 2)
    → Steps (2 ^ 26) now after → after.taken ≡ first.taken + steps → Afforded steps w.history w.scripts w.start.mode
