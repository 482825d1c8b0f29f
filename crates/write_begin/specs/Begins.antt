-- What the beginning of a write answers and leaves.
use Rattle.std.specs.Prelude.{◌≡◌, ◌≢◌, ◌⊎◌, ◌<◌, ◌≤◌, ◌+◌, ◌-◌, ◌/◌, ◌^◌, ℕ, true, false, List, [], ◌∷◌, ◌++◌, length, Option, Some, None, Result, Ok, Err}
use Rattle.std.specs.declared.alloc.AllocError.{AllocError}
use Rattle.block_counts.specs.Counts.{blocks_for}
use Rattle.write_plan.specs.pm_model.Powers.{is_on, Supply}
use Rattle.write_plan.specs.layout_model.Places.{Geometry}
use Rattle.write_plan.specs.file_table.Files.{Files}
use Rattle.write_plan.specs.k_split_model.View.{View}
use Rattle.in_place.specs.k_split_laws.Left.{IsLeftOf}
use Rattle.posix_types.specs.declared.call.Call.{Call}
use Rattle.posix_types.specs.declared.call.Mode.{Mode}
use Rattle.posix_types.specs.declared.call.Who.{Who}
use Rattle.posix_types.specs.declared.handle.Handle.{Handle}
use Rattle.posix_types.specs.declared.item.Item.{Item}
use Rattle.posix_types.specs.declared.item.Outcome.{Outcome}
use Rattle.posix_types.specs.declared.reply.Reply.{Reply}
use Rattle.posix_tables.specs.Open.{Tables}
use Rattle.posix_tables.specs.Outcomes.{answer, first}
use Rattle.write_plan.specs.posix_laws.Views.{need_of}
use Rattle.write_plan.specs.posix_spec.FileRows.{file_number, write_rows}
use Rattle.write_plan.specs.posix_spec.Put.{put_by}
use Rattle.write_plan.specs.posix_spec.Run.{after_call, run}
use Rattle.write_plan.specs.posix_spec.Step.{step}
use Rattle.write_plan.specs.posix_spec.State.{room, State}
use Rattle.in_place.specs.Holes.{FillsRange, LacksFree}
use Rattle.live_step_laws.specs.staging_files.Keeps.{Staged}
use Rattle.live_step_laws.specs.staging_files.Reserves.{IsLacking}
use Rattle.live_step_laws.specs.world_model.JobLaws.{needs}
use Rattle.live_step_laws.specs.world_model.Jobs.{Job}
use Rattle.live_step_laws.specs.live_model.Losses.{KeepsWhenLost}
use Rattle.live_step_laws.specs.live_model.Standing.{Kept, reserved_run, StandsAt}
use Rattle.live_step_laws.specs.live_model.Jobs.{SpellCall}
use Rattle.live_step_laws.specs.world_step_laws.Steps.{LetsJobsBe}
use Rattle.write_plan.specs.crash_spec.Busy.{is_logged}
use Rattle.write_plan.specs.AsksLaws.{call_of, start_of}
use Rattle.write_plan.specs.Asks.{CanMoveBy, moved_by}
use Rattle.write_plan.specs.Plans.{placed_at, staged_run}
use Rattle.write_plan.specs.write_jobs.Jobs.{blocks_of, JobView}
use Rattle.write_begin.specs.Goes.{KeepsMaps}
use Rattle.write_begin.specs.Stages.{with_parts}
use Rattle.write_begin.specs.declared.begins.beginning.WriteBegun.{WriteBegun}

-- A WORLD IN WHICH THE CALL BEGINS, over this K-Split with these tables, while the log lines are out: it stands together, in
-- this mode; the callers of the jobs that are out are others, and their files too; and together they need so many blocks.
pub record Found (mode : Mode) (k : View) (t : Tables) (staging : Staged) (files : Files) (who : Who) (call : Call) (taken : ℕ) : Type 0 where
  pub g : Geometry
  pub kept : Kept
  pub n : ℕ
  pub few : n < 2 ^ 62
  pub s : State
  pub stands : StandsAt g k t (with_parts kept staging files) true n s
  pub mode_is : s.mode ≡ mode
  pub beside : LetsJobsBe s (who, call) stands.numbers stands.jobs
  pub taken_is : taken ≡ needs s stands.jobs

-- ---- it returns at once

-- A ROW REFUSED IT, or it has no bytes: it is answered so in the state.
abbrev pub IsAnsweredBy : Mode → Who → Handle → Option ℕ → List ℕ → View → Tables → Staged → Files → ℕ → Outcome → Type 0
IsAnsweredBy mode who h at x k t staging files taken outcome =
    (found : Found mode k t staging files who (call_of h at x) taken) → first (write_rows found.s who h (start_of found.s who h at) x) ≡ Some outcome

-- no row fits
abbrev pub IsAccepted : Mode → Who → Handle → Option ℕ → List ℕ → View → Tables → Staged → Files → ℕ → Type 0
IsAccepted mode who h at x k t staging files taken =
    (found : Found mode k t staging files who (call_of h at x) taken) → first (write_rows found.s who h (start_of found.s who h at) x) ≡ None

-- ---- room

-- The jobs that are out leave less room than the call needs.
pub record LacksBeside (s : State) (who : Who) (call : Call) (jobs : List Job) (need left : ℕ) : Type 0 where
  pub need_is : need ≡ need_of s who call
  pub left_is : left ≡ room s - needs s jobs
  pub lacks : left < need

-- what the call writes in place has its blocks; where it writes nothing there, all is as it was
abbrev pub FillsFor : View → View → Staged → Files → ℕ → Option (ℕ × ℕ) → Type 0
FillsFor k l staging files ino None = l ≡ k
FillsFor k l staging files ino (Some range) = FillsRange k l staging files ino (range.0 / 4096) (blocks_for range.1 - range.0 / 4096)

-- or too few blocks are free for those
abbrev pub LacksFor : View → View → Staged → Files → ℕ → Option (ℕ × ℕ) → ℕ → ℕ → Type 0
LacksFor k l staging files ino None need left = ⊥
LacksFor k l staging files ino (Some range) need left = LacksFree k l staging files ino (range.0 / 4096) (blocks_for range.1 - range.0 / 4096) need left

-- The jobs that are out leave enough, but too few blocks are free for its holes; nothing was done.
pub record LacksHoles (s : State) (who : Who) (call : Call) (jobs : List Job) (k l : View) (staging : Staged) (files : Files) (ino need left : ℕ) : Type 0 where
  pub beside : (n m : ℕ) → ¬ LacksBeside s who call jobs n m
  pub free : LacksFor k l staging files ino (placed_at s (put_by s who call)) need left

-- The jobs that are out leave enough, but the staging has no room for the blocks of its plan.
pub record LacksStaging (s : State) (who : Who) (call : Call) (jobs : List Job) (count : ℕ) (old : Staged) (k : View) (need left : ℕ) : Type 0 where
  pub beside : (n m : ℕ) → ¬ LacksBeside s who call jobs n m
  pub lacks : IsLacking count old k need left

-- Or its holes could be filled; and with them filled, which leaves l, the staging has no room for the blocks of its plan.
pub record LacksRunOf (s : State) (who : Who) (call : Call) (jobs : List Job) (k l : View) (staging : Staged) (files : Files) (ino need left : ℕ) : Type 0 where
  pub whole : (n m : ℕ) → ¬ LacksHoles s who call jobs k k staging files ino n m
  pub holes : FillsFor k l staging files ino (placed_at s (put_by s who call))
  pub run : ℕ × ℕ
  pub run_is : staged_run s (put_by s who call) ≡ Some run
  pub lacks : LacksStaging s who call jobs run.1 staging l need left

-- ---- it is logged

-- A JOB IS OUT, last of those that are out, with its entry, its blocks and the words of the call; the jobs that were out left what it
-- needs, there was room for its holes, which are filled, and the staging had a run for it; the World stands together with it, in the same
-- state; its blocks are those of its plan, and lie in the file as its entry leaves it; and just its run went out.
pub record BeginsWrite (mode : Mode) (who : Who) (h : Handle) (at : Option ℕ) (x : List ℕ) (k l : View) (t : Tables)
    (old new : Staged) (files then : Files) (taken : ℕ) (job : JobView) (blocks : List ℕ) : Type 0 where
  pub accepted : IsAccepted mode who h at x k t old files taken
  pub enough : (found : Found mode k t old files who (call_of h at x) taken) (need left : ℕ) → ¬ LacksBeside found.s who (call_of h at x) found.stands.jobs need left
  pub holes : (found : Found mode k t old files who (call_of h at x) taken) (need left : ℕ) → ¬ LacksHoles found.s who (call_of h at x) found.stands.jobs k k old files (file_number t who h) need left
  pub middle : View
  pub filled : (found : Found mode k t old files who (call_of h at x) taken) → FillsFor k middle old files (file_number t who h) (placed_at found.s (put_by found.s who (call_of h at x)))
  pub below : KeepsMaps middle.volume l.volume files then None
  pub run : (found : Found mode k t old files who (call_of h at x) taken) (r : ℕ × ℕ) (need left : ℕ) → staged_run found.s (put_by found.s who (call_of h at x)) ≡ Some r → ¬ IsLacking r.1 old middle need left
  pub job_who : job.who ≡ who
  pub blocks_are : blocks_of job.loans ≡ blocks
  pub fresh : job.lost ≡ false
  pub ends : job.draft.file_block + job.draft.count ≤ blocks_for job.draft.size
  pub plan : (found : Found mode k t old files who (call_of h at x) taken) → staged_run found.s (put_by found.s who (call_of h at x)) ≡ Some (job.draft.file_block, job.draft.count)
  pub out : new.out ≡ old.out ++ reserved_run job.draft ∷ []
  pub words : (found : Found mode k t old files who (call_of h at x) taken)
      → SpellCall found.s (record { who = who; call = call_of h at x; draft = job.draft; blocks = blocks }) job.words
  pub stands : (found : Found mode k t old files who (call_of h at x) taken)
      → StandsAt found.g l t
      (record (with_parts found.kept new then) { pending = found.kept.pending ++ record { who = who; call = call_of h at x; draft = job.draft; blocks = blocks } ∷ [] }) true found.n found.s

-- ---- it is written in place

-- IT IS WRITTEN IN PLACE: no row refuses it, the jobs that are out left what it needs, it does not reach past the end, and there was room
-- for its holes, which are filled; then cells alone are others, so its bytes lie in the blocks that its file has; nothing was staged; and
-- with the tables moved, which is the caller's to do, the World stands together in the state after it.
pub record WritesNow (mode : Mode) (who : Who) (h : Handle) (at : Option ℕ) (x : List ℕ) (k l : View) (t : Tables) (old new : Staged) (files then : Files) (taken : ℕ) : Type 0 where
  pub accepted : IsAccepted mode who h at x k t old files taken
  pub enough : (found : Found mode k t old files who (call_of h at x) taken) (need left : ℕ) → ¬ LacksBeside found.s who (call_of h at x) found.stands.jobs need left
  pub unlogged : (found : Found mode k t old files who (call_of h at x) taken) → is_logged found.s (who, call_of h at x) ≡ false
  pub holes : (found : Found mode k t old files who (call_of h at x) taken) (need left : ℕ) → ¬ LacksHoles found.s who (call_of h at x) found.stands.jobs k k old files (file_number t who h) need left
  pub middle : View
  pub filled : (found : Found mode k t old files who (call_of h at x) taken) → FillsFor k middle old files (file_number t who h) (placed_at found.s (put_by found.s who (call_of h at x)))
  pub in_place : l ≡ record middle { cells = l.cells }
  pub staging : new ≡ old
  pub same : then ≡ files
  pub may : (found : Found mode k t old files who (call_of h at x) taken) → CanMoveBy t then who (call_of h at x)
  pub stands : (found : Found mode k t old files who (call_of h at x) taken)
      → StandsAt found.g l (moved_by t then who (call_of h at x)) (with_parts found.kept new then) true (found.n + 1) (after_call found.s (who, call_of h at x))
  pub outcome : (found : Found mode k t old files who (call_of h at x) taken) → (step found.s who (call_of h at x)).outcome ≡ answer (Reply.Count (length x))

-- ---- it is not begun

-- No call sees a change: each World stands together in its state still, and as many runs are out.
pub record StaysStanding (mode : Mode) (who : Who) (call : Call) (k l : View) (t : Tables) (old new : Staged) (files then : Files) (taken : ℕ) : Type 0 where
  pub runs : length new.out ≡ length old.out
  pub stands : (found : Found mode k t old files who call taken) → StandsAt found.g l t (with_parts found.kept new then) true found.n found.s

-- THE ROUND IS OVER for want of space, and these two numbers say why, asked in this order: what the call needs and what the jobs that
-- are out leave; what its holes need free, and is; or, with its holes filled, what the staging needs free for the blocks of its plan, and
-- has. Some run is out: of a job, or of an earlier write of this lap. The staging is as it was, and K-Split in the first two cases.
pub record EndsRound (mode : Mode) (who : Who) (h : Handle) (at : Option ℕ) (x : List ℕ) (k l : View) (t : Tables)
    (old new : Staged) (files then : Files) (taken need left : ℕ) : Type 0 where
  pub accepted : IsAccepted mode who h at x k t old files taken
  pub cause : (found : Found mode k t old files who (call_of h at x) taken)
      → (LacksBeside found.s who (call_of h at x) found.stands.jobs need left × (l ≡ k))
      ⊎ (LacksHoles found.s who (call_of h at x) found.stands.jobs k l old files (file_number t who h) need left
      ⊎ LacksRunOf found.s who (call_of h at x) found.stands.jobs k l old files (file_number t who h) need left)
  pub late : old.out ≢ []
  pub same : new ≡ old
  pub stays : StaysStanding mode who (call_of h at x) k l t old new files then taken

-- ---- the power

-- THE POWER WENT in it, and the device is left of the one before.
pub record LosesWrite (mode : Mode) (who : Who) (call : Call) (k l : View) (t : Tables) (staging : Staged) (files : Files) (taken : ℕ) : Type 0 where
  pub left : (found : Found mode k t staging files who call taken) → IsLeftOf found.g k.cells l.cells
  pub kept : (found : Found mode k t staging files who call taken) (start : State) (history : List Item) → found.s ≡ run start history
      → KeepsWhenLost k.volume l.cells found.kept found.stands.jobs start history ((who, call) ∷ [])

-- ---- all of it

-- WHAT `begin_write` ANSWERS AND LEAVES. A row that fits answers it, and nothing changed; it became a job; it was written in place; the
-- round is over; the power went; or memory ran out.
abbrev pub IsBegun : Mode → Who → Handle → Option ℕ → List ℕ → ℕ → View → View → Tables → Staged → Staged → Files → Files → Result WriteBegun AllocError → Type 0
IsBegun mode who h at x taken k l t old new files then (Ok (WriteBegun.Answered outcome)) =
    IsAnsweredBy mode who h at x k t old files taken outcome × (l ≡ k) × (new ≡ old) × (then ≡ files)
IsBegun mode who h at x taken k l t old new files then (Ok (WriteBegun.Job job blocks)) = BeginsWrite mode who h at x k l t old new files then taken job blocks.items
IsBegun mode who h at x taken k l t old new files then (Ok WriteBegun.Written) = WritesNow mode who h at x k l t old new files then taken
IsBegun mode who h at x taken k l t old new files then (Ok (WriteBegun.RoundOver need left)) = EndsRound mode who h at x k l t old new files then taken need left
IsBegun mode who h at x taken k l t old new files then (Ok WriteBegun.PowerLost) = LosesWrite mode who (call_of h at x) k l t old files taken
IsBegun mode who h at x taken k l t old new files then (Err e) = StaysStanding mode who (call_of h at x) k l t old new files then taken

-- `PowerLost` exactly where the power is off
abbrev pub IsPaid : Supply → Result WriteBegun AllocError → Type 0
IsPaid power (Ok (WriteBegun.Answered outcome)) = is_on power ≡ true
IsPaid power (Ok (WriteBegun.Job job blocks)) = is_on power ≡ true
IsPaid power (Ok WriteBegun.Written) = is_on power ≡ true
IsPaid power (Ok (WriteBegun.RoundOver need left)) = is_on power ≡ true
IsPaid power (Ok WriteBegun.PowerLost) = is_on power ≡ false
IsPaid power (Err e) = is_on power ≡ true
