-- Each answer of the World is a move that the turn allows its holder, and what the holder's view is behind it.
use Rattle.std.specs.Prelude.{◌≡◌, ◌≢◌, ◌≤◌, ◌+◌, ◌*◌, ◌^◌, ℕ, Bool, true, false, length, None, Some, Ok}
use Rattle.oplog_tail.specs.oplog_entry.declared.claims.Full.{Full}
use Rattle.round_laws.specs.world_view_laws.pm_model.Powers.{Steps, Supply}
use Rattle.round_laws.specs.world_view_laws.oplog_entry.layout_model.declared.lines.Draft.{Draft}
use Rattle.round_laws.specs.world_view_laws.live_model.Standing.{JobOut}
use Rattle.round_laws.specs.world_view_laws.in_flight.Costs.{most_of}
use Rattle.round_laws.specs.world_view_laws.write_jobs.Jobs.{FilledView, IsCutOff, IsFilled, JobView}
use Rattle.round_laws.specs.world_view_laws.posix_types.declared.call.Who.{Who}
use Rattle.round_laws.specs.world_view_laws.posix_spec.Scripted.{IsSetUp}
use Rattle.round_laws.specs.world_view_laws.Begins.{IsFilledOut, IsJobOut}
use Rattle.round_laws.specs.world_view_laws.Jobs.{GivesUp, IsOfWorld}
use Rattle.round_laws.specs.world_view_laws.Views.{HasNone, next_of, WorldView}
use Rattle.world_parts.specs.Answers.{IsBegun, IsFinished}
use Rattle.world_parts.specs.declared.outcomes.Begun.{Begun}
use Rattle.world_parts.specs.declared.outcomes.Finished.{Finished}
use Rattle.thread_laws.specs.Hands.{Gone, HandView, Sees}
use Rattle.thread_laws.specs.Moves.{Knows, MayLeave, next_hand}
use Rattle.thread_laws.specs.declared.works.Next.{Next}
use Rattle.thread_laws.specs.States.{HasFilledJob, HasJob, IsIdle, IsShownSetUp, StopsAll}
use Rattle.thread_laws.specs.Works.{HasDropped, HasEnded, HasLooked, HasTold, IsLater}

-- as many acts as there may be
abbrev pub AreFewActs : WorldView → Type 0
AreFewActs w = w.acts ≤ 16 * (length w.history + 2)

-- how a call that began goes on
abbrev pub next_by : Begun → Next
next_by Begun.Done = Next.On
next_by (Begun.Job job) = Next.Job job
next_by (Begun.Busy ino holder) = Next.Wait
next_by (Begun.RoundOver over) = Next.Over
next_by Begun.PowerLost = Next.Over
next_by Begun.ScriptEnd = Next.Over

-- whether a job returned
abbrev pub returned_by : Finished → Bool
returned_by Finished.Done = true
returned_by Finished.PowerLost = false

-- ---- what the World is asked

-- WHO IS IDLE MAY BEGIN.
abbrev pub IdleMayBegin : Type 0
IdleMayBegin = (w : WorldView) (power : Supply) (v : HandView) (who : Who) → Knows w power v → IsIdle who v → HasNone w who × IsSetUp w.scripts w.history who

-- ITS JOB IS ONE OF THE WORLD, OUT, whatever others did since it began.
abbrev pub JobIsHere : Type 0
JobIsHere = (w : WorldView) (power : Supply) (v : HandView) (job : JobView) → Knows w power v → HasJob v job → (p : JobOut) × (p.who ≡ v.who) × IsJobOut w p job

abbrev pub FilledIsHere : Type 0
FilledIsHere = (w : WorldView) (power : Supply) (v : HandView) (job : FilledView) → Knows w power v → HasFilledJob v job → (p : JobOut) × (p.who ≡ v.who) × IsFilledOut w p job

-- and stays the job of the view where it is filled, or cut off
abbrev pub FilledKeepsJob : Type 0
FilledKeepsJob = (v : HandView) (job : JobView) (filled : FilledView) (power : Supply) → HasJob v job → IsFilled job power filled → HasFilledJob v filled

abbrev pub CutKeepsJob : Type 0
CutKeepsJob = (v : HandView) (job cut : JobView) (power : Supply) → HasJob v job → IsCutOff job power cut → HasJob v cut

-- ---- what it may leave

-- A CALL THAT BEGAN may be left, and this is the view then.
abbrev pub BegunMayLeave : Type 0
BegunMayLeave =
    (v : HandView) (old new : WorldView) (before after : Supply) (begun : Begun) → Knows old before v → IsIdle v.who v → Steps (most_of old.start.mode (next_of old v.who)) before after → AreFewActs new
    → IsBegun v.who old new before after (Ok begun) → MayLeave v old new before after × HasLooked v (next_hand v old new) (next_by begun)

-- A JOB THAT WAS GIVEN TO `finish` likewise.
abbrev pub FinishedMayLeave : Type 0
FinishedMayLeave =
    (v : HandView) (old new : WorldView) (before after : Supply) (job : FilledView) (slot : ℕ) (finished : Finished) → Knows old before v → HasFilledJob v job
    → Steps (2 ^ 26) before after → (old.lost ≡ true → after ≡ before) → AreFewActs new → IsFinished job slot old new after finished
    → MayLeave v old new before after × HasEnded v (next_hand v old new) slot job.draft (returned_by finished)

-- A JOB THAT WAS GIVEN UP.
abbrev pub GivenUpMayLeave : Type 0
GivenUpMayLeave =
    (v : HandView) (old new : WorldView) (power : Supply) (job : FilledView) (full : Full) → Knows old power v → HasFilledJob v job
    → ((p : JobOut) → IsFilledOut old p job → GivesUp full p old new) → MayLeave v old new power power × HasDropped v (next_hand v old new)

-- A LOSS THAT IS TOLD by who has a job, and whose own power was made as the World's, with no more steps than this.
abbrev pub LostMayLeave : Type 0
LostMayLeave =
    (v : HandView) (w : WorldView) (power : Supply) (steps : ℕ) → Knows w power v → v.begun ≢ None → v.given ≡ Some steps → steps ≤ 2 ^ 16 * (length v.mine + 1)
    → MayLeave v w (record w { lost = true }) power power × HasTold v (next_hand v w (record w { lost = true })) true

-- A WORLD THAT IS LEFT AS IT WAS FOUND: what it shows is shown.
abbrev pub FoundMayLeave : Type 0
FoundMayLeave = (v : HandView) (w : WorldView) (power : Supply) → Knows w power v → v.out ≡ None → v.begun ≡ None
    → MayLeave v w w power power × IsLater v (next_hand v w w) × ((next_hand v w w).out ≡ None) × ((next_hand v w w).begun ≡ None) × ((next_hand v w w).done ≡ v.done) × ((next_hand v w w).full ≡ v.full)

-- A WORLD THAT IS GONE is left as gone, and shown so: whatever the worker came for, it stops.
abbrev pub GoneMayBeFound : Type 0
GoneMayBeFound =
    (v : HandView) (slot : ℕ) (d : Draft)
    → (v.begun ≡ None → v.out ≡ None → HasLooked v (record v { last = Gone }) Next.Over) × HasEnded v (record v { last = Gone }) slot d false × HasDropped v (record v { last = Gone })
    × HasTold v (record v { last = Gone }) false
