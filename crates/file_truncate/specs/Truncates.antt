-- What a `truncate` answers and leaves.
use Rattle.posix_tables.specs.block_counts.declared.TheConstants.{LONGEST_FILE}
use Rattle.std.specs.Prelude.{◌≡◌, ◌⊎◌, ◌≤◌, ◌<◌, ◌+◌, ◌-◌, ◌^◌, ℕ, Bool, true, false, List, [], ◌∷◌, length, Option, Some, None, Result, Ok, Err}
use Rattle.in_place.specs.pm_model.Powers.{is_on, Supply}
use Rattle.in_place.specs.layout_model.Places.{Geometry}
use Rattle.in_place.specs.write_plan.file_table.Files.{ChangesFile, Files, runs_in, spare_in}
use Rattle.file_calls.specs.live_step_laws.k_split.Bytes.{IsOverwriteCut, IsOverwriteDone, tail_zeros}
use Rattle.file_calls.specs.live_step_laws.k_split.declared.faults.KFault.{KFault}
use Rattle.file_calls.specs.live_step_laws.k_split.MapChanges.{IsSizeAnswer}
use Rattle.file_calls.specs.live_step_laws.world_model.JobLaws.{needs as needs_of}
use Rattle.file_calls.specs.live_step_laws.world_step_laws.Steps.{LetsJobsBe}
use Rattle.in_place.specs.write_plan.k_journal.Commits.{TakesAStep}
use Rattle.in_place.specs.write_plan.k_journal.declared.outcomes.Commit.{Commit}
use Rattle.in_place.specs.write_plan.k_split_model.View.{View}
use Rattle.file_calls.specs.k_split_laws.Left.{IsLeftOf}
use Rattle.posix_types.specs.declared.call.Call.{Call}
use Rattle.posix_types.specs.declared.call.Who.{Who}
use Rattle.posix_types.specs.declared.handle.Handle.{Handle}
use Rattle.posix_types.specs.declared.item.Item.{Item}
use Rattle.posix_types.specs.declared.item.Outcome.{Outcome}
use Rattle.posix_types.specs.declared.reply.Reply.{Reply}
use Rattle.posix_tables.specs.declared.open.Description.{Description}
use Rattle.posix_tables.specs.Open.{opened, Tables}
use Rattle.posix_tables.specs.Outcomes.{answer, first}
use Rattle.posix_tables.specs.Room.{growth}
use Rattle.in_place.specs.write_plan.posix_spec.FileRows.{content, truncate_rows}
use Rattle.in_place.specs.write_plan.posix_spec.Run.{after_call, run}
use Rattle.in_place.specs.write_plan.posix_spec.State.{room, State}
use Rattle.in_place.specs.write_plan.posix_spec.Step.{step}
use Rattle.in_place.specs.write_plan.posix_spec.Tree.{tree}
use Rattle.in_place.specs.write_plan.Rows.{truncate_row_by}
use Rattle.file_calls.specs.live_step_laws.live_model.Losses.{KeepsWhenLost}
use Rattle.file_calls.specs.live_step_laws.live_model.Standing.{Kept}
use Rattle.file_calls.specs.declared.names.outcomes.NoMemory.{NoMemory}
use Rattle.file_calls.specs.Runs.{RunsAs, with_files}
use Rattle.file_truncate.specs.declared.truncates.asking.Asked.{Asked}
use Rattle.file_truncate.specs.declared.truncates.outcomes.Truncated.{Truncated}

-- ---- how it goes, by numbers

-- the room that other writes leave
abbrev pub IsBeside : ℕ → ℕ → ℕ → ℕ → Asked → Type 0
IsBeside size old left needs (Asked.Answered outcome) = ⊥
IsBeside size old left needs (Asked.Full need rest) = (need ≡ growth old size) × (rest ≡ left - needs) × (rest < need)
IsBeside size old left needs Asked.Goes = growth old size ≤ left - needs

-- The row that fits answers it; or no row fits, and the others leave less than it takes; or it goes on.
abbrev pub IsAsked : Bool → ℕ → ℕ → ℕ → ℕ → Asked → Type 0
IsAsked may size old left needs (Asked.Answered outcome) = truncate_row_by may size old left ≡ Some outcome
IsAsked may size old left needs (Asked.Full need rest) =
    (truncate_row_by may size old left ≡ None) × (need ≡ growth old size) × (rest ≡ left - needs) × (rest < need)
IsAsked may size old left needs Asked.Goes =
    (truncate_row_by may size old left ≡ None) × (growth old size ≤ left - needs) × (size ≤ LONGEST_FILE)

-- what lacks, if it is room
abbrev pub lacking_by : Asked → Option (ℕ × ℕ)
lacking_by (Asked.Answered outcome) = None
lacking_by (Asked.Full need rest) = Some (need, rest)
lacking_by Asked.Goes = None

-- ---- the changes of K-Split

-- the rest of the last block is clean, where the file grows
abbrev pub IsClean : ℕ → ℕ → ℕ → View → View → Type 0
IsClean ino old size k l =
    ((size ≤ old) × (l ≡ k)) ⊎ ((old < size) × IsOverwriteDone ino old (tail_zeros k.volume ino old) k l)

abbrev pub IsCleanAnswer : ℕ → ℕ → ℕ → View → View → Commit → Type 0
IsCleanAnswer ino old size k l Commit.Done = IsClean ino old size k l
IsCleanAnswer ino old size k l Commit.PowerLost =
    (l ≡ record k { lost = true }) ⊎ IsOverwriteCut ino old (tail_zeros k.volume ino old) k l

abbrev pub IsCommitPaid : Supply → Commit → Type 0
IsCommitPaid new Commit.Done = is_on new ≡ true
IsCommitPaid new Commit.PowerLost = is_on new ≡ false

-- one that changes the file took a step
abbrev pub IsTruncatePaid : Supply → Supply → Result Truncated NoMemory → Type 0
IsTruncatePaid old new (Ok (Truncated.Answered outcome)) = (is_on new ≡ true) × TakesAStep old new
IsTruncatePaid old new (Ok (Truncated.RoundOver need left)) = is_on new ≡ true
IsTruncatePaid old new (Ok Truncated.PowerLost) = is_on new ≡ false
IsTruncatePaid old new (Err e) = is_on new ≡ true

-- it has the size
pub record HasSize (ino size : ℕ) (k : View) (f : Files) (l : View) (u : Files) : Type 0 where
  pub sized : IsSizeAnswer ino size k l (Ok tt)
  pub file : ChangesFile ino [] size f u
  pub spare : spare_in f ino ≤ spare_in u ino

abbrev pub IsSet : ℕ → ℕ → View → Files → View → Files → Result Truncated NoMemory → Type 0
IsSet ino size k f l u (Ok (Truncated.Answered outcome)) = (outcome ≡ answer Reply.Ok) × HasSize ino size k f l u
IsSet ino size k f l u (Ok (Truncated.RoundOver need left)) = ⊥
IsSet ino size k f l u (Ok Truncated.PowerLost) = (u ≡ f) × IsSizeAnswer ino size k l (Err KFault.PowerLost)
IsSet ino size k f l u (Err e) = (u ≡ f) × (l ≡ k)

-- First its last block is clean, and then it has the size.
abbrev pub IsGiven : ℕ → ℕ → ℕ → View → Files → View → Files → Result Truncated NoMemory → Type 0
IsGiven ino old size k f l u (Ok (Truncated.Answered outcome)) =
    (outcome ≡ answer Reply.Ok) × ((middle : View) × IsClean ino old size k middle × HasSize ino size middle f l u)
IsGiven ino old size k f l u (Ok (Truncated.RoundOver need left)) = ⊥
IsGiven ino old size k f l u (Ok Truncated.PowerLost) =
    (u ≡ f) × (IsCleanAnswer ino old size k l Commit.PowerLost
    ⊎ ((middle : View) × IsClean ino old size k middle × IsSizeAnswer ino size middle l (Err KFault.PowerLost)))
IsGiven ino old size k f l u (Err e) = (u ≡ f) × IsClean ino old size k l

-- ---- what it asks for

-- nothing is staged of the file of the handle
abbrev pub HasNothingStaged : Who → Handle → Tables → Files → Type 0
HasNothingStaged who h t f = (d : Description) → opened t who h ≡ Some d → runs_in f d.node ≡ []

-- The call finds the World so: the calls run in the state; the jobs that are out are of other callers and of other files, and
-- need so many blocks together.
pub record Finds (g : Geometry) (k : View) (t : Tables) (x : Kept) (n : ℕ) (s : State) (who : Who) (call : Call)
    (needs : ℕ) : Type 0 where
  pub runs : RunsAs g k t x n s
  pub few : n + 1 < 2 ^ 31
  pub beside : LetsJobsBe s (who, call) runs.numbers runs.jobs
  pub needs_are : needs ≡ needs_of s runs.jobs

-- ---- whether there is room

-- the jobs that are out leave what it takes, where no row refuses it
abbrev pub LeavesEnough : Who → Handle → ℕ → ℕ → View → Tables → Files → Type 0
LeavesEnough who h size needs k t f =
    (g : Geometry) (x : Kept) (n : ℕ) (s : State)
    → Finds g k t (with_files x f) n s who (Call.Truncate h size) needs
    → first (truncate_rows s who h size) ≡ None → growth (length (content s who h)) size ≤ room s - needs

-- No row refuses it, but the jobs that are out leave less room than it takes.
pub record LeavesLess (who : Who) (h : Handle) (size needs : ℕ) (k : View) (t : Tables) (f : Files) (need left : ℕ) : Type 0 where
  pub accepted : (g : Geometry) (x : Kept) (n : ℕ) (s : State)
      → Finds g k t (with_files x f) n s who (Call.Truncate h size) needs → first (truncate_rows s who h size) ≡ None
  pub need_is : (g : Geometry) (x : Kept) (n : ℕ) (s : State)
      → Finds g k t (with_files x f) n s who (Call.Truncate h size) needs → need ≡ growth (length (content s who h)) size
  pub left_is : (g : Geometry) (x : Kept) (n : ℕ) (s : State)
      → Finds g k t (with_files x f) n s who (Call.Truncate h size) needs → left ≡ room s - needs
  pub lacks : left < need

-- THE ROOM THAT LACKS: what it takes, and what the jobs that are out leave; or they leave enough.
abbrev pub IsLacking : Who → Handle → ℕ → ℕ → View → Tables → Files → Option (ℕ × ℕ) → Type 0
IsLacking who h size needs k t f None = LeavesEnough who h size needs k t f
IsLacking who h size needs k t f (Some (need, left)) = LeavesLess who h size needs k t f need left

-- ---- what it answers

-- It is done, or refused: they run in the next state, and the outcome is that of the step. Where no row refuses it, the jobs that are out
-- left what it takes.
pub record Answers (who : Who) (h : Handle) (size needs : ℕ) (k : View) (t : Tables) (f : Files) (l : View) (u : Files)
    (outcome : Outcome) : Type 0 where
  pub runs : (g : Geometry) (x : Kept) (n : ℕ) (s : State)
      → Finds g k t (with_files x f) n s who (Call.Truncate h size) needs
      → RunsAs g l t (with_files x u) (n + 1) (after_call s (who, Call.Truncate h size))
  pub outcome_is : (g : Geometry) (x : Kept) (n : ℕ) (s : State)
      → Finds g k t (with_files x f) n s who (Call.Truncate h size) needs
      → (step s who (Call.Truncate h size)).outcome ≡ outcome
  pub enough : LeavesEnough who h size needs k t f

-- It left the tree as it is, or took a step.
abbrev pub IsSpent : Who → Handle → ℕ → ℕ → View → Tables → Files → Supply → Supply → Type 0
IsSpent who h size needs k t f old new =
    (g : Geometry) (x : Kept) (n : ℕ) (s : State) → Finds g k t (with_files x f) n s who (Call.Truncate h size) needs
    → (tree (after_call s (who, Call.Truncate h size)) ≡ tree s) ⊎ TakesAStep old new

-- THE POWER WENT in it; and the device is left of the one before.
pub record Loses (who : Who) (h : Handle) (size needs : ℕ) (k : View) (t : Tables) (f : Files) (l : View) : Type 0 where
  pub kept : (g : Geometry) (x : Kept) (n : ℕ) (start : State) (history : List Item)
      → (finds : Finds g k t (with_files x f) n (run start history) who (Call.Truncate h size) needs)
      → KeepsWhenLost k.volume l.cells x finds.runs.jobs start history ((who, Call.Truncate h size) ∷ [])
  pub left : (g : Geometry) (x : Kept) (n : ℕ) (s : State)
      → Finds g k t (with_files x f) n s who (Call.Truncate h size) needs → IsLeftOf g k.cells l.cells

-- MEMORY RAN OUT: they run in the same state, with the same jobs.
abbrev pub StillRuns : Who → Handle → ℕ → ℕ → View → Tables → Files → View → Type 0
StillRuns who h size needs k t f l =
    (g : Geometry) (x : Kept) (n : ℕ) (s : State)
    → (finds : Finds g k t (with_files x f) n s who (Call.Truncate h size) needs)
    → (now : RunsAs g l t (with_files x f) n s) × (now.jobs ≡ finds.runs.jobs) × (now.numbers ≡ finds.runs.numbers)

-- WHAT A `truncate` ANSWERS AND LEAVES, and what it takes of the power.
abbrev pub IsTruncated : Who → Handle → ℕ → ℕ → View → Tables → Files → View → Files → Supply → Supply
    → Result Truncated NoMemory → Type 0
IsTruncated who h size needs k t f l u old new (Ok (Truncated.Answered outcome)) =
    Answers who h size needs k t f l u outcome × (is_on new ≡ true) × IsSpent who h size needs k t f old new
IsTruncated who h size needs k t f l u old new (Ok (Truncated.RoundOver need left)) =
    LeavesLess who h size needs k t f need left × (l ≡ k) × (u ≡ f) × (new ≡ old)
IsTruncated who h size needs k t f l u old new (Ok Truncated.PowerLost) =
    Loses who h size needs k t f l × (u ≡ f) × (is_on new ≡ false)
IsTruncated who h size needs k t f l u old new (Err e) = StillRuns who h size needs k t f l × (u ≡ f) × (is_on new ≡ true)
