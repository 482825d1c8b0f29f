-- The machine over events. A call that is logged takes six: Begin, Fill, Claim, Store, Persist, Finish; every other call
-- is one, Begin. The machine has the history, the logged calls that are out with their stages, the claims of the lap, and
-- whether the round is over. It knows nothing of the medium.
use Rattle.std.specs.Prelude.{◌≡◌, ◌⊎◌, ℕ, ◌+◌, ◌<◌, ◌≤◌, Bool, true, false, not, ◌&&◌, List, [], ◌∷◌, ◌++◌, length, map, filter, find, Option, Some, None, is_some, is_none, ◌==◌, if◌then◌else◌}
use Rattle.std.specs.Option.{option_map_or}
use Rattle.posix_laws.specs.posix_types.declared.call.Call.{Call}
use Rattle.posix_laws.specs.posix_types.declared.call.Who.{Who}
use Rattle.posix_laws.specs.posix_types.declared.item.Item.{Item}
use Rattle.posix_laws.specs.posix_types.Scripts.{Scripts}
use Rattle.posix_laws.specs.posix_tables.Open.{same_who}
use Rattle.posix_laws.specs.posix_spec.FileRows.{content, truncate_rows}
use Rattle.posix_laws.specs.posix_tables.Outcomes.{first}
use Rattle.posix_laws.specs.posix_spec.Put.{put_by}
use Rattle.posix_laws.specs.posix_spec.Run.{Unfinished, run}
use Rattle.posix_laws.specs.posix_spec.Scripted.{call_count, items_of, next_call}
use Rattle.posix_laws.specs.posix_spec.State.{State}
use Rattle.posix_laws.specs.posix_spec.Step.{step}
use Rattle.crash_spec.specs.Busy.{is_busy, is_logged, Out, waits_for}

-- how far a logged call is
pub data Stage : Type 0 where
  Began : Stage
  Filled : Stage
  Claimed : Stage
  Stored : Stage
  Persisted : Stage

-- a logged call that is out, with its file
pub record Job : Type 0 where
  pub who : Who
  pub call : Call
  pub node : ℕ
  pub stage : Stage

-- `jobs` stand in the order of their beginning; `begun`: a call has begun since the start or the last Checkpoint.
pub record Machine : Type 0 where
  pub history : List Item
  pub jobs : List Job
  pub claims : ℕ
  pub over : Bool
  pub begun : Bool

-- what a machine runs on: the state that the image begins as, the scripts, and how many lines the log has
pub record Setting : Type 0 where
  pub start : State
  pub scripts : Scripts
  pub lines : ℕ

abbrev pub at_rest : Machine
at_rest = record { history = []; jobs = []; claims = 0; over = false; begun = false }

-- ---- what there is to do

abbrev pub state_of : Setting → Machine → State
state_of g m = run g.start m.history

-- a caller's next call
abbrev pub next_of : Setting → Machine → Who → Option Call
next_of g m who = next_call g.scripts m.history who

-- the job of a caller
abbrev pub is_of : Who → Job → Bool
is_of who job = same_who job.who who

abbrev pub job_of : Machine → Who → Option Job
job_of m who = find (is_of who) m.jobs

abbrev pub outs : Machine → List Out
outs m = map (λ job. (job.who, job.node)) m.jobs

-- the calls that had begun and not returned, in the order of their beginning
abbrev pub unfinished_call : Job → Unfinished
unfinished_call job = (job.who, job.call)

abbrev pub unfinished_of : Machine → List Unfinished
unfinished_of m = map unfinished_call m.jobs

-- a caller's call may come: a thread's does once all calls of the set-up have returned
abbrev pub is_set_up : Setting → Machine → Who → Bool
is_set_up g m Who.Setup = true
is_set_up g m (Who.Thread n) = length (items_of m.history Who.Setup) == length g.scripts.setup

-- A caller's next call may begin: it has no job, the set-up is done, the round is not over, and nothing keeps the call
-- waiting.
abbrev pub is_idle : Setting → Machine → Who → Call → Bool
is_idle g m who call = not (is_busy (state_of g m) (outs m) (who, call))

unfoldable pub may_begin : Setting → Machine → Who → Bool
may_begin g m who =
    is_none (job_of m who) && is_set_up g m who && not m.over && option_map_or (is_idle g m who) (next_of g m who) false

pub record Begins (g : Setting) (m : Machine) (who : Who) (call : Call) : Type 0 where
  pub may : may_begin g m who ≡ true
  pub next : next_of g m who ≡ Some call

-- all calls of all scripts have returned
abbrev pub have_ended : Setting → Machine → Bool
have_ended g m = length m.history == call_count g.scripts

-- ---- what an event makes of the machine

-- the item that step gives is added
abbrev pub item_for : Setting → Machine → Who → Call → Item
item_for g m who call =
    let outcome = (step (state_of g m) who call).outcome in
    record { who = who; index = length (items_of m.history who); call = call; reply = outcome.reply; room = outcome.room }

abbrev pub returned : Setting → Machine → Who → Call → Machine
returned g m who call = record m { history = m.history ++ item_for g m who call ∷ []; begun = true }

-- a job is added, moved on, taken away
abbrev pub with_job : Machine → Job → Machine
with_job m job = record m { jobs = m.jobs ++ job ∷ []; begun = true }

abbrev pub moved_on : Who → Stage → Job → Job
moved_on who stage job = if is_of who job then record job { stage = stage } else job

abbrev pub with_stage : Machine → Who → Stage → Machine
with_stage m who stage = record m { jobs = map (moved_on who stage) m.jobs }

abbrev pub without_job : Machine → Who → Machine
without_job m who = record m { jobs = filter (λ job. not (is_of who job)) m.jobs }

-- the caller has a job at this stage
pub record IsAt (m : Machine) (who : Who) (stage : Stage) (job : Job) : Type 0 where
  pub is : job_of m who ≡ Some job
  pub stage_is : job.stage ≡ stage

-- the calls that may find the round over for want of space: a write, or a `truncate` that lengthens, that is accepted
abbrev pub IsLengthening : State → Who → Call → Type 0
IsLengthening s who (Call.Truncate h n) = (first (truncate_rows s who h n) ≡ None) × (length (content s who h) < n)
IsLengthening s who call = ⊥

abbrev pub MayLackSpace : State → Who → Call → Type 0
MayLackSpace s who call = (is_some (put_by s who call) ≡ true) ⊎ IsLengthening s who call

-- ---- the events

pub data Event : Type 0 where
  Begin : Who → Event
  Fill : Who → Event
  Claim : Who → Event
  Store : Who → Event
  Persist : Who → Event
  Finish : Who → Event
  Checkpoint : Event

-- One event. A Claim that finds the lap full takes the call back to its start, and the round is over.
pub data Goes (g : Setting) (m : Machine) : Event → Machine → Type 0 where
  Returns : (who : Who) (call : Call) → Begins g m who call → is_logged (state_of g m) (who, call) ≡ false → Goes g m (Begin who) (returned g m who call)
  Logs : (who : Who) (call : Call) (node : ℕ) → Begins g m who call → is_logged (state_of g m) (who, call) ≡ true → waits_for (state_of g m) (who, call) ≡ Some node
      → Goes g m (Begin who) (with_job m (record { who = who; call = call; node = node; stage = Began }))
  Fills : (who : Who) (job : Job) → IsAt m who Began job → Goes g m (Fill who) (with_stage m who Filled)
  Claims : (who : Who) (job : Job) → IsAt m who Filled job → m.claims < g.lines → Goes g m (Claim who) (record (with_stage m who Claimed) { claims = m.claims + 1 })
  FindsFull : (who : Who) (job : Job) → IsAt m who Filled job → g.lines ≤ m.claims → Goes g m (Claim who) (record (without_job m who) { over = true })
  Stores : (who : Who) (job : Job) → IsAt m who Claimed job → Goes g m (Store who) (with_stage m who Stored)
  Persists : (who : Who) (job : Job) → IsAt m who Stored job → Goes g m (Persist who) (with_stage m who Persisted)
  Finishes : (who : Who) (job : Job) → IsAt m who Persisted job → Goes g m (Finish who) (returned g (without_job m who) who job.call)
  Checks : m.over ≡ true → m.jobs ≡ [] → Goes g m Checkpoint (record m { claims = 0; over = false; begun = false })

-- A Begin may find the round over for want of space, if a call has begun since the start or the last Checkpoint. This is
-- no event.
pub record LacksSpace (g : Setting) (m : Machine) (who : Who) (next : Machine) : Type 0 where
  pub call : Call
  pub may : Begins g m who call
  pub kind : MayLackSpace (state_of g m) who call
  pub begun : m.begun ≡ true
  pub next_is : next ≡ record m { over = true }
