-- The logged calls that are out of a World between two events, each as far as it came, and the log of the round beside it.
use Rattle.std.specs.Prelude.{◌≡◌, ◌+◌, ℕ, true, false, List, [], length, Option, Some, None, slice_get}
use Rattle.std.specs.List.{filter_map}
use Rattle.round_log.specs.pm_model.Parts.{Part}
use Rattle.round_log.specs.image_model.LogRule.{HoldsEntry}
use Rattle.round_log.specs.oplog_entry.EntryLines.{entry_words}
use Rattle.round_log.specs.oplog_entry.LogLines.{line_at}
use Rattle.round_log.specs.Held.{HoldsRound}
use Rattle.round_log.specs.Rounds.{IsRound, RoundView}
use Rattle.round_log.specs.Stores.{HasStored}
use Rattle.world_view_laws.specs.list_laws.Members.{In}
use Rattle.world_view_laws.specs.live_model.Standing.{JobOut}
use Rattle.world_view_laws.specs.write_jobs.Jobs.{FilledView, JobView}
use Rattle.world_view_laws.specs.Begins.{IsFilledOut, IsJobOut}
use Rattle.world_view_laws.specs.Lines.{AreFresh}
use Rattle.world_view_laws.specs.Views.{WorldView}
use Rattle.run_laws.specs.declared.held.Held.{Held}
use Rattle.run_laws.specs.declared.held.Work.{Work}

-- What is out of a World between two events: the log of its round, if one goes on; and the logged calls, in the order of their beginning,
-- each with its caller and how far it came.
pub record OutView : Type 0 where
  pub log : Option RoundView
  pub jobs : List Held

abbrev pub nothing_out : OutView
nothing_out = record { log = None; jobs = [] }

-- ---- how far a job came

-- what is to be filled, and what is filled
abbrev pub job_in : Work → Option JobView
job_in (Work.Began job) = Some job
job_in (Work.Filled job) = None
job_in (Work.Claimed job slot) = None
job_in (Work.Stored job slot) = None
job_in (Work.Persisted job slot) = None

abbrev pub filled_in : Work → Option FilledView
filled_in (Work.Began job) = None
filled_in (Work.Filled job) = Some job
filled_in (Work.Claimed job slot) = Some job
filled_in (Work.Stored job slot) = Some job
filled_in (Work.Persisted job slot) = Some job

-- the slot that it claimed
abbrev pub slot_in : Work → Option ℕ
slot_in (Work.Began job) = None
slot_in (Work.Filled job) = None
slot_in (Work.Claimed job slot) = Some slot
slot_in (Work.Stored job slot) = Some slot
slot_in (Work.Persisted job slot) = Some slot

abbrev pub jobs_of : List Held → List JobView
jobs_of jobs = filter_map (λ (h : Held). job_in h.work) jobs

abbrev pub filled_of : List Held → List FilledView
filled_of jobs = filter_map (λ (h : Held). filled_in h.work) jobs

abbrev pub slots_of : List Held → List ℕ
slots_of jobs = filter_map (λ (h : Held). slot_in h.work) jobs

-- ---- the jobs of the World

-- it is the work of this job of the World, which is out; none that began has lost its power
abbrev pub IsWorkOut : WorldView → JobOut → Work → Type 0
IsWorkOut w p (Work.Began job) = IsJobOut w p job × (job.lost ≡ false)
IsWorkOut w p (Work.Filled job) = IsFilledOut w p job
IsWorkOut w p (Work.Claimed job slot) = IsFilledOut w p job
IsWorkOut w p (Work.Stored job slot) = IsFilledOut w p job
IsWorkOut w p (Work.Persisted job slot) = IsFilledOut w p job

-- THE JOBS OF THE WORLD AND THESE ARE THE SAME, place by place.
pub record AreHeld (w : WorldView) (jobs : List Held) : Type 0 where
  pub count : length jobs ≡ length w.pending
  pub each : (i : ℕ) (p : JobOut) (h : Held) → slice_get w.pending i ≡ Some p → slice_get jobs i ≡ Some h → (h.who ≡ p.who) × IsWorkOut w p h.work

-- ---- the log

-- HOW FAR THE LINE OF ITS SLOT CAME: it is the one that the round began with; all words of its entry stand behind those; or it holds its
-- entry, durable.
abbrev pub HasLine : List Part → RoundView → Work → Type 0
HasLine start log (Work.Began job) = Unit {0}
HasLine start log (Work.Filled job) = Unit {0}
HasLine start log (Work.Claimed job slot) = line_at log.lines slot ≡ line_at start slot
HasLine start log (Work.Stored job slot) = HasStored (line_at start slot).cells (entry_words job.draft (log.base + slot)) true (line_at log.lines slot).cells
HasLine start log (Work.Persisted job slot) = HoldsEntry (line_at log.lines slot).cells job.draft (log.base + slot)

-- no two jobs have one slot
abbrev pub HaveOwnSlots : List Held → Type 0
HaveOwnSlots jobs =
    (i j slot : ℕ) (h k : Held) → slice_get jobs i ≡ Some h → slice_get jobs j ≡ Some k → slot_in h.work ≡ Some slot → slot_in k.work ≡ Some slot → i ≡ j

-- THE ROUND'S LOG stands beside the World: its lines were fresh when the round began; it holds the World's claims, while the entries of
-- jobs are on their way into the slots that these claimed, one each; these are all slots that were claimed; and each line is as far as
-- its job.
pub record IsLogOf (w : WorldView) (log : RoundView) (jobs : List Held) : Type 0 where
  pub start : List Part
  pub fresh : AreFresh w start
  pub base : log.base ≡ w.base
  pub round : IsRound log
  pub holds : HoldsRound start log w.claims (slots_of jobs)
  pub count : log.tail ≡ length w.claims + length (slots_of jobs)
  pub lines : (h : Held) → In h jobs → HasLine start log h.work
  pub apart : HaveOwnSlots jobs

-- The log is there exactly where the lines are out; with them at home nothing is claimed, and no job is out.
abbrev pub HasLog : WorldView → Option RoundView → List Held → Type 0
HasLog w None jobs = (w.lines_out ≡ false) × (w.claims ≡ []) × (jobs ≡ [])
HasLog w (Some log) jobs = IsLogOf w log jobs

-- the lines that are out
abbrev pub lines_in : Option RoundView → List Part
lines_in None = []
lines_in (Some log) = log.lines

-- all its slots are claimed
abbrev pub IsFull : Option RoundView → Type 0
IsFull None = ⊥
IsFull (Some log) = log.tail ≡ length log.lines
