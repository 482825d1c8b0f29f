-- The machine over events beside a World: what stands in the one stands in the other.
use Rattle.std.specs.Prelude.{◌≡◌, ◌≢◌, ◌⊎◌, ◌+◌, ◌<◌, ℕ, true, false, List, [], length, Option, Some, None, is_some, slice_get}
use Rattle.round_log.specs.pm_model.Parts.{Part}
use Rattle.round_log.specs.pm_model.Powers.{Supply}
use Rattle.round_log.specs.oplog_entry.declared.claims.Full.{Full}
use Rattle.round_log.specs.Rounds.{RoundView}
use Rattle.world_view_laws.specs.posix_types.declared.call.Who.{Who}
use Rattle.world_view_laws.specs.crash_spec.Busy.{waits_for}
use Rattle.world_view_laws.specs.crash_spec.Machine as machine
use Rattle.world_view_laws.specs.crash_spec.Orders.{none_picked, Order, Picks}
use Rattle.world_view_laws.specs.crash_spec.Schedules.{caller_of, Course, runnable}
use Rattle.world_view_laws.specs.live_model.Standing.{JobOut}
use Rattle.world_view_laws.specs.write_jobs.Jobs.{JobView}
use Rattle.world_view_laws.specs.Begins.{BeginsJob, EndsRound, Returns}
use Rattle.world_view_laws.specs.Jobs.{Finishes, GivesUp}
use Rattle.world_view_laws.specs.Rounds.{IsNextRound, IsRoundBegun}
use Rattle.world_view_laws.specs.Views.{state_of, WorldView}
use Rattle.run_laws.specs.declared.held.Held.{Held}
use Rattle.run_laws.specs.declared.held.Work.{Work}
use Rattle.run_laws.specs.Between.{Between}
use Rattle.run_laws.specs.EventsLaws.{opened_log, with_log}
use Rattle.run_laws.specs.Held.{nothing_out, OutView}

-- what the machine of a World runs on
abbrev pub setting_of : WorldView → machine.Setting
setting_of w = record { start = w.start; scripts = w.scripts; lines = w.geometry.log }

-- how far a job came, as the machine counts it
abbrev pub stage_in : Work → machine.Stage
stage_in (Work.Began job) = machine.Began
stage_in (Work.Filled job) = machine.Filled
stage_in (Work.Claimed job slot) = machine.Claimed
stage_in (Work.Stored job slot) = machine.Stored
stage_in (Work.Persisted job slot) = machine.Persisted

-- A JOB OF THE MACHINE is this one of the World, as far as it came; its node is still that of its file.
pub record IsJobBeside (w : WorldView) (p : JobOut) (h : Held) (job : machine.Job) : Type 0 where
  pub who : job.who ≡ p.who
  pub call : job.call ≡ p.call
  pub node : waits_for (state_of w) (p.who, p.call) ≡ Some job.node
  pub stage : job.stage ≡ stage_in h.work

-- the claims of the lap
abbrev pub claims_in : Option RoundView → ℕ
claims_in None = 0
claims_in (Some log) = log.tail

-- two jobs are of two files
abbrev pub HaveOwnFiles : List machine.Job → Type 0
HaveOwnFiles jobs = (i j : ℕ) (a b : machine.Job) → slice_get jobs i ≡ Some a → slice_get jobs j ≡ Some b → a.node ≡ b.node → i ≡ j

-- WHAT STANDS IN THE MACHINE IS WHAT STANDS IN THE WORLD: the history; the jobs that are out, in the order of their beginning, each at its
-- stage; the claims of the lap; whether the round is over. Where a job is out or a call returned since the round began, one has begun.
pub record IsCourse (g : machine.Setting) (w : WorldView) (out : OutView) (m : machine.Machine) : Type 0 where
  pub setting : g ≡ setting_of w
  pub history : m.history ≡ w.history
  pub count : length m.jobs ≡ length w.pending
  pub held : length out.jobs ≡ length w.pending
  pub jobs : (i : ℕ) (p : JobOut) (h : Held) (job : machine.Job) → slice_get w.pending i ≡ Some p → slice_get out.jobs i ≡ Some h → slice_get m.jobs i ≡ Some job → IsJobBeside w p h job
  pub files : HaveOwnFiles m.jobs
  pub claims : m.claims ≡ claims_in out.log
  pub over : m.over ≡ is_some w.over
  pub begun : (w.pending ≢ []) ⊎ (w.settled < length w.history) → m.begun ≡ true

-- ---- a run

-- WHAT AN EVENT DOES TO THE WORLD, as its calls say. To fill a job, and to store and persist an entry, is no call of it; nor is a claim
-- that finds a slot.
abbrev pub IsEventOf : machine.Event → WorldView → WorldView → Type 0
IsEventOf (machine.Begin who) old new = (before after : Supply) × (Returns who old new before after ⊎ ((job : JobView) × BeginsJob who old new after job))
IsEventOf (machine.Fill who) old new = new ≡ old
IsEventOf (machine.Claim who) old new = (new ≡ old) ⊎ ((p : JobOut) × (full : Full) × (p.who ≡ who) × GivesUp full p old new)
IsEventOf (machine.Store who) old new = new ≡ old
IsEventOf (machine.Persist who) old new = new ≡ old
IsEventOf (machine.Finish who) old new = (slot : ℕ) × (p : JobOut) × (power : Supply) × (p.who ≡ who) × Finishes slot p old new power
IsEventOf machine.Checkpoint old new = (power : Supply) × IsNextRound old new power

-- the machine at rest, with nothing picked
abbrev pub at_start : Course
at_start = record { machine = machine.at_rest; picker = none_picked }

-- THE EVENT COMES IN THE ORDER: one of the set-up is no pick; one of a thread is of the thread that is picked of those that can run; a
-- Checkpoint is no pick, and comes only while calls are left.
abbrev pub ComesBy : machine.Setting → Order → Course → machine.Event → Course → Option Who → Type 0
ComesBy g order c e next (Some Who.Setup) = machine.Goes g c.machine e next.machine × (next.picker ≡ c.picker)
ComesBy g order c e next (Some (Who.Thread n)) = machine.Goes g c.machine e next.machine × Picks (runnable g c.machine) c.picker order n next.picker
ComesBy g order c e next None = machine.Goes g c.machine e next.machine × (machine.have_ended g c.machine ≡ false) × (next.picker ≡ c.picker)

-- so does the Begin of this caller that finds the round over for want of space; that of a thread uses its pick
abbrev pub FindsOver : machine.Setting → Order → Course → Who → Course → Type 0
FindsOver g order c Who.Setup next = machine.LacksSpace g c.machine Who.Setup next.machine × (next.picker ≡ c.picker)
FindsOver g order c (Who.Thread n) next = machine.LacksSpace g c.machine (Who.Thread n) next.machine × Picks (runnable g c.machine) c.picker order n next.picker

-- SO MANY EVENTS LEAD FROM A WORLD that was mounted to this one, with what is out of it, and the machine to this course, which stands
-- beside it. Each is an event of both, in the order. A round that ends for want of space is no event: the World says why, as the caller
-- whose turn it is begins its call. Of how many blocks are free where it does, the World's word stands alone.
pub data Leads (order : Order) (first : WorldView) : ℕ → WorldView → OutView → Course → Type 0 where
  Starts : Leads order first 0 first nothing_out at_start
  Opens : (events : ℕ) (w new : WorldView) (out : OutView) (c : Course) (lines : List Part) (base : ℕ) → Leads order first events w out c → out.log ≡ None → IsRoundBegun w new lines base
      → Leads order first events new (with_log out (opened_log lines base)) c
  Acts : (events : ℕ) (w new : WorldView) (out left : OutView) (c next : Course) (e : machine.Event) → Leads order first events w out c → IsEventOf e w new
      → ComesBy (setting_of first) order c e next (caller_of e) → Between new left → IsCourse (setting_of first) new left next.machine → Leads order first (events + 1) new left next
  EndsForSpace : (events : ℕ) (w new : WorldView) (out : OutView) (c next : Course) (who : Who) (after : Supply) (need room : ℕ) → Leads order first events w out c → EndsRound who w new after need room
      → FindsOver (setting_of first) order c who next → Between new out → IsCourse (setting_of first) new out next.machine → Leads order first events new out next
