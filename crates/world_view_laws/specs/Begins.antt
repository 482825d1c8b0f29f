-- What `begin` leaves, and what is so before it.
use Rattle.std.specs.Prelude.{◌≡◌, ◌≢◌, ◌⊎◌, ◌<◌, ◌≤◌, ◌+◌, ◌-◌, ◌/◌, ℕ, true, false, [], ◌∷◌, ◌++◌, length, Option, Some, None, IsSome, sum_by, if◌then◌else◌}
use Rattle.in_flight.specs.pm_model.Powers.{is_on, Supply}
use Rattle.in_flight.specs.layout_model.Places.{reserve}
use Rattle.in_flight.specs.k_journal.Commits.{TakesAStep}
use Rattle.in_flight.specs.list_laws.Members.{In}
use Rattle.in_flight.specs.posix_types.declared.call.Call.{Call}
use Rattle.in_flight.specs.posix_types.declared.call.Mode.{Mode}
use Rattle.in_flight.specs.posix_types.declared.call.Who.{Who}
use Rattle.in_flight.specs.posix_types.declared.item.Item.{Item}
use Rattle.in_flight.specs.posix_types.declared.reply.Reply.{Reply}
use Rattle.in_flight.specs.layout_model.declared.lines.Draft.{Draft}
use Rattle.in_flight.specs.layout_model.declared.lines.Kind.TheVariants.{File}
use Rattle.in_flight.specs.block_counts.Counts.{blocks_for, chains_for}
use Rattle.file_calls.specs.extent_model.Extents.{disk_at}
use Rattle.file_calls.specs.live_step_laws.world_write_laws.HolesLaws.{KeepsLine}
use Rattle.in_flight.specs.posix_tables.declared.open.Description.{Description}
use Rattle.in_flight.specs.posix_tables.Open.{opened}
use Rattle.in_flight.specs.posix_laws.Views.{need_of}
use Rattle.in_flight.specs.posix_tables.Outcomes.{first}
use Rattle.in_flight.specs.posix_tables.Room.{growth}
use Rattle.in_flight.specs.posix_spec.FileRows.{content, truncate_rows}
use Rattle.in_flight.specs.posix_spec.Put.{put_by}
use Rattle.in_flight.specs.posix_spec.Run.{after_call}
use Rattle.in_flight.specs.posix_spec.State.{room}
use Rattle.in_flight.specs.posix_spec.Step.{step}
use Rattle.in_flight.specs.posix_spec.Tree.{tree}
use Rattle.in_flight.specs.crash_spec.Busy.{is_busy, is_logged}
use Rattle.in_flight.specs.Busy.{IsKeeping}
use Rattle.in_flight.specs.Histories.{item_with}
use Rattle.in_flight.specs.staging_files.Reserves.{has_empty, HasNoFreeRun}
use Rattle.in_flight.specs.live_model.Standing.{JobOut, reserved_run}
use Rattle.in_flight.specs.live_model.Jobs.{SpellCall}
use Rattle.in_flight.specs.write_jobs.Jobs.{blocks_of, FilledView, JobView}
use Rattle.write_end.specs.Blocks.{AreBlocksOut}
use Rattle.world_view_laws.specs.declared.views.over.Over.{Over}
use Rattle.write_end.specs.in_place.write_plan.Plans.{placed_at, staged_run}
use Rattle.world_view_laws.specs.Holes.{file_of, holes_of, is_absent}
use Rattle.world_view_laws.specs.Views.{Disk, files_out, inode_on, map_on, next_of, state_of, WorldView}

-- ---- jobs that are out

-- THE JOB IS ONE OF THIS WORLD, OUT: it has the caller, the entry and the blocks of one that is out, which are lent still, and the words
-- of its call.
pub record IsJobOut (w : WorldView) (p : JobOut) (job : JobView) : Type 0 where
  pub there : In p w.pending
  pub who : job.who ≡ p.who
  pub draft : job.draft ≡ p.draft
  pub blocks : blocks_of job.loans ≡ p.blocks
  pub words : SpellCall (state_of w) p job.words
  pub lent : AreBlocksOut p.blocks w.disk.cells

-- so is a filled one
pub record IsFilledOut (w : WorldView) (p : JobOut) (job : FilledView) : Type 0 where
  pub there : In p w.pending
  pub who : job.who ≡ p.who
  pub draft : job.draft ≡ p.draft
  pub blocks : blocks_of job.loans ≡ p.blocks
  pub words : SpellCall (state_of w) p job.words
  pub lent : AreBlocksOut p.blocks w.disk.cells

-- The jobs of other callers that are out stay so.
abbrev pub OthersStay : WorldView → WorldView → Who → Type 0
OthersStay old new who =
    ((p : JobOut) (job : JobView) → p.who ≢ who → IsJobOut old p job → IsJobOut new p job)
    × ((p : JobOut) (job : FilledView) → p.who ≢ who → IsFilledOut old p job → IsFilledOut new p job)

-- ---- what a call needs, and what there is

-- how many blocks a call needs that is logged, or a `truncate` that no row refuses
abbrev pub IsNeed : WorldView → Who → Call → ℕ → Type 0
IsNeed w who (Call.Truncate h size) need = (first (truncate_rows (state_of w) who h size) ≡ None) × (need ≡ growth (length (content (state_of w) who h)) size)
IsNeed w who call need = (is_logged (state_of w) (who, call) ≡ true) × (need ≡ need_of (state_of w) who call)

-- Only the jobs that are out make the call need more than there is room for. (`write_begin` and `file_truncate` say it, as they do the next
-- ones, of a state and of jobs of K-Split: there is no World below this crate.)
pub record LacksBeside (w : WorldView) (who : Who) (call : Call) (need left : ℕ) : Type 0 where
  pub need_is : IsNeed w who call need
  pub left_is : left ≡ room (state_of w) - sum_by (λ (p : JobOut). need_of (state_of w) p.who p.call) w.pending
  pub fits : need ≤ room (state_of w)
  pub lacks : left < need

-- how many blocks have to be free beside those of the plan: one for each run that is out, and the reserve less 2
abbrev pub wanted_by : WorldView → ℕ
wanted_by w = length w.disk.staging.out + reserve w.geometry - 2

-- so many have to be free where an empty staging file is to be given the blocks of the plan: these, those that are wanted beside, and one
abbrev pub IsStagingNeed : WorldView → Option (ℕ × ℕ) → ℕ → Type 0
IsStagingNeed w None need = ⊥
IsStagingNeed w (Some run) need = need ≡ run.1 + wanted_by w + 1

-- no run of free blocks of a staging file is as long as the plan, or too few blocks are free for the runs that are out
abbrev pub HasNoRun : WorldView → Option (ℕ × ℕ) → Type 0
HasNoRun w None = ⊥
HasNoRun w (Some run) = (w.disk.free < wanted_by w) ⊎ HasNoFreeRun w.disk.staging run.1

-- Or the jobs leave enough, but its staging has no room for them: it has no run, and too few blocks are free to give an empty staging file
-- its own; where none is empty, there are none for that.
pub record LacksStaging (w : WorldView) (who : Who) (call : Call) (need left : ℕ) : Type 0 where
  pub beside : (n m : ℕ) → ¬ LacksBeside w who call n m
  pub need_is : IsStagingNeed w (staged_run (state_of w) (put_by (state_of w) who call)) need
  pub no_run : HasNoRun w (staged_run (state_of w) (put_by (state_of w) who call))
  pub left_is : left ≡ (if has_empty w.disk.staging then w.disk.free else 0)
  pub lacks : left < need

-- ---- holes

-- Or the holes of what it writes in place are more than may be filled: of the free blocks those that are wanted beside have to stay.
pub record LacksHoles (w : WorldView) (who : Who) (call : Call) (need left : ℕ) : Type 0 where
  pub beside : (n m : ℕ) → ¬ LacksBeside w who call n m
  pub some : 1 ≤ holes_of w who call
  pub need_is : need ≡ holes_of w who call + wanted_by w
  pub left_is : left ≡ w.disk.free
  pub lacks : left < need

-- the World with this below the calls
abbrev pub with_disk : WorldView → Disk → WorldView
with_disk w disk = record w { disk = disk }

-- THE BLOCK IS ABSENT, one of those of this file that the call writes in place.
pub record IsAbsentOf (w : WorldView) (who : Who) (call : Call) (ino block : ℕ) : Type 0 where
  pub own : file_of w who call ≡ Some ino
  pub range : ℕ × ℕ
  pub placed : placed_at (state_of w) (put_by (state_of w) who call) ≡ Some range
  pub from : range.0 / 4096 ≤ block
  pub below : block < blocks_for range.1
  pub absent : is_absent w.start.mode w.disk ino block ≡ true

-- THE HOLES OF ITS FILE ARE FILLED. A call that has none leaves all as it is; of one that has, none is left. Only cells, the map of its file with
-- the line of the inode, and what is free differ; all other files keep lines and maps; each block that was mapped is where it was, and each that is
-- mapped now was, or was absent where the call writes in place; and of the free blocks as many are gone as were absent, and what the chain has more.
pub record HasFilled (w : WorldView) (who : Who) (call : Call) (disk : Disk) : Type 0 where
  pub rest : disk ≡ record w.disk { cells = disk.cells; inodes = disk.inodes; maps = disk.maps; free = disk.free }
  pub none : holes_of w who call ≡ 0 → disk ≡ w.disk
  pub filled : holes_of (with_disk w disk) who call ≡ 0
  pub lines : (ino : ℕ) → KeepsLine (inode_on w.disk ino) (inode_on disk ino)
  pub others : (ino : ℕ) → file_of w who call ≢ Some ino → (inode_on disk ino ≡ inode_on w.disk ino) × (map_on disk ino ≡ map_on w.disk ino)
  pub kept : (ino block b : ℕ) → disk_at (map_on w.disk ino) block ≡ Some b → disk_at (map_on disk ino) block ≡ Some b
  pub new : (ino block b : ℕ) → disk_at (map_on disk ino) block ≡ Some b → (disk_at (map_on w.disk ino) block ≡ Some b) ⊎ IsAbsentOf w who call ino block
  pub free : w.start.mode ≢ Mode.Posix → (ino : ℕ) → file_of w who call ≡ Some ino
      → disk.free + holes_of w who call + chains_for (length (map_on disk ino)) ≡ w.disk.free + chains_for (length (map_on w.disk ino))

-- OF EACH FILE the map and the line are the same, but for the place of the chain, and what is staged of it, and its size.
pub record KeepsFiles (d e : Disk) : Type 0 where
  pub lines : (ino : ℕ) → (inode_on d ino).kind ≡ File → KeepsLine (inode_on d ino) (inode_on e ino)
  pub maps : (ino : ℕ) → (inode_on d ino).kind ≡ File → map_on e ino ≡ map_on d ino
  pub overlays : e.overlays ≡ d.overlays
  pub sizes : e.sizes ≡ d.sizes

-- Or its holes could be filled; and with them filled, which leaves this disk, the staging has no room.
pub record LacksRun (w : WorldView) (filled : Disk) (who : Who) (call : Call) (need left : ℕ) : Type 0 where
  pub whole : (n m : ℕ) → ¬ LacksHoles w who call n m
  pub holes : HasFilled w who call filled
  pub staging : LacksStaging (with_disk w filled) who call need left

-- WHY IT FINDS NO SPACE, asked in this order: only the jobs that are out leave too little; or its holes cannot be filled; or with its holes filled the
-- staging has no room.
abbrev pub LacksSpace : WorldView → Disk → Who → Call → ℕ → ℕ → Type 0
LacksSpace w filled who call need left = LacksBeside w who call need left ⊎ (LacksHoles w who call need left ⊎ LacksRun w filled who call need left)

-- ---- the next call

-- It begins: the round is not over, the power was not lost, and no job that is out keeps it waiting.
pub record Begins (w : WorldView) (who : Who) (call : Call) : Type 0 where
  pub next : next_of w who ≡ Some call
  pub going : w.over ≡ None
  pub awake : w.lost ≡ false
  pub idle : is_busy (state_of w) (files_out w) (who, call) ≡ false

-- the item that a call gives at the end of the history
abbrev pub item_of : WorldView → Who → Call → Item
item_of w who call = item_with w.history who call (step (state_of w) who call).outcome

-- an `fsync` published its file, if it is open: no entry of this lap is left that the file has not applied
abbrev pub Publishes : Who → Call → WorldView → WorldView → Type 0
Publishes who (Call.Fsync h) old new =
    (file : Description) (slot : ℕ) (d : Draft) → opened old.disk.tables who h ≡ Some file → In (slot, d) old.claims
    → d.ino ≡ file.node → d.generation ≡ (inode_on new.disk file.node).generation → d.order ≤ (inode_on new.disk file.node).applied
Publishes who call old new = Unit {0}

-- one that answers ok is of an open file
abbrev pub IsOfOpenFile : Who → Call → WorldView → Type 0
IsOfOpenFile who (Call.Fsync h) w = (step (state_of w) who (Call.Fsync h)).outcome.reply ≡ Reply.Ok → IsSome (opened w.disk.tables who h)
IsOfOpenFile who call w = Unit {0}

-- IT IS WRITTEN WHERE IT LIES: with its holes filled, cells alone differ, and the offset of its handle.
pub record IsInPlace (w : WorldView) (who : Who) (call : Call) (disk : Disk) : Type 0 where
  pub middle : Disk
  pub filled : HasFilled w who call middle
  pub cells : disk ≡ record middle { cells = disk.cells; tables = disk.tables }

-- IT RETURNED: it is not logged, the jobs that are out left what it needs, its holes could be filled, and its item stands at the end of the
-- history. Outside POSIX mode nothing was staged for it, what it writes in place lies where it lay, and it left the tree as it is or took a
-- step.
pub record Returns (who : Who) (old new : WorldView) (before after : Supply) : Type 0 where
  pub call : Call
  pub begins : Begins old who call
  pub unlogged : is_logged (state_of old) (who, call) ≡ false
  pub new_is : new ≡ record old { history = old.history ++ item_of old who call ∷ []; acts = old.acts + 1; disk = new.disk }
  pub enough : (need left : ℕ) → ¬ LacksBeside old who call need left
  pub holes : (need left : ℕ) → ¬ LacksHoles old who call need left
  pub published : Publishes who call old new
  pub of_file : IsOfOpenFile who call old
  pub staging : old.start.mode ≢ Mode.Posix → new.disk.staging ≡ old.disk.staging
  pub in_place : old.start.mode ≢ Mode.Posix → (range : ℕ × ℕ) → placed_at (state_of old) (put_by (state_of old) who call) ≡ Some range → IsInPlace old who call new.disk
  pub stay : OthersStay old new who
  pub on : is_on after ≡ true
  pub spent : old.start.mode ≢ Mode.Posix → (tree (after_call (state_of old) (who, call)) ≡ tree (state_of old)) ⊎ TakesAStep before after

-- the entry is of the blocks of its plan, and of no other
abbrev pub IsOfPlan : Option (ℕ × ℕ) → Draft → Type 0
IsOfPlan None d = ⊥
IsOfPlan (Some run) d = (d.file_block ≡ run.0) × (d.count ≡ run.1)

-- IT IS LOGGED, and there was room for it, with its holes filled; a job is out, the last one, with the blocks of its plan, and no other run
-- went out; but for cells, free blocks, the staging files and the run that went out, what stands below is as with the holes filled; its entry
-- is that of no other job; nothing has returned.
pub record BeginsJob (who : Who) (old new : WorldView) (after : Supply) (job : JobView) : Type 0 where
  pub call : Call
  pub begins : Begins old who call
  pub logged : is_logged (state_of old) (who, call) ≡ true
  pub enough : (need left : ℕ) → ¬ LacksBeside old who call need left
  pub holes : (need left : ℕ) → ¬ LacksHoles old who call need left
  pub middle : Disk
  pub filled : HasFilled old who call middle
  pub below : KeepsFiles middle new.disk
  pub run : (need left : ℕ) → ¬ LacksStaging (with_disk old middle) who call need left
  pub pending : JobOut
  pub who_is : pending.who ≡ who
  pub call_is : pending.call ≡ call
  pub apart : (q : JobOut) → In q old.pending → q.draft ≢ pending.draft
  pub new_is : new ≡ record old { pending = old.pending ++ pending ∷ []; acts = old.acts + 1; disk = new.disk }
  pub tables : new.disk.tables ≡ old.disk.tables
  pub plan : IsOfPlan (staged_run (state_of old) (put_by (state_of old) who call)) pending.draft
  pub run_is : new.disk.staging.out ≡ old.disk.staging.out ++ reserved_run pending.draft ∷ []
  pub out : IsJobOut new pending job
  pub fresh : job.lost ≡ false
  pub stay : OthersStay old new who
  pub on : is_on after ≡ true

-- a job of this caller, which is out of the file with this inode, keeps the call waiting
abbrev pub IsKeptBy : WorldView → Who → Call → ℕ → Who → Type 0
IsKeptBy w who call ino holder = IsKeeping (state_of w) w.pending who call ino holder

-- IT WAITS for a job of another caller; nothing was done.
pub record Waits (who : Who) (old new : WorldView) (before after : Supply) (ino : ℕ) (holder : Who) : Type 0 where
  pub call : Call
  pub next : next_of old who ≡ Some call
  pub going : old.over ≡ None
  pub awake : old.lost ≡ false
  pub kept : IsKeptBy old who call ino holder
  pub same : new ≡ old
  pub spared : after ≡ before
  pub on : is_on after ≡ true

-- ---- the round is over

-- THE ROUND ENDS for want of space, while jobs are out or after calls that returned since it began. These two numbers say why. Its holes
-- are filled where only the staging has no room, and else nothing changed.
pub record EndsRound (who : Who) (old new : WorldView) (after : Supply) (need left : ℕ) : Type 0 where
  pub call : Call
  pub begins : Begins old who call
  pub cause : LacksSpace old new.disk who call need left
  pub late : (old.pending ≢ []) ⊎ (old.settled < length old.history)
  pub new_is : new ≡ record old { over = Some (Over.Space need left); acts = old.acts + 1; disk = new.disk }
  pub nothing : LacksBeside old who call need left ⊎ LacksHoles old who call need left → new.disk ≡ old.disk
  pub stay : OthersStay old new who
  pub on : is_on after ≡ true

-- it was over before, and the script of the caller has a call left
abbrev pub IsOver : Who → WorldView → WorldView → Supply → Supply → Over → Type 0
IsOver who old new before after over =
    (old.over ≡ Some over) × (old.lost ≡ false) × (next_of old who ≢ None) × (new ≡ old) × (after ≡ before) × (is_on after ≡ true)

abbrev pub IsRoundOver : Who → WorldView → WorldView → Supply → Supply → Over → Type 0
IsRoundOver who old new before after (Over.Lap full) = IsOver who old new before after (Over.Lap full)
IsRoundOver who old new before after (Over.Space need left) = IsOver who old new before after (Over.Space need left) ⊎ EndsRound who old new after need left

-- ---- the power

-- IT LOST ITS POWER: it is unfinished from now on, behind the jobs that are out, which stay so.
pub record LosesCall (who : Who) (old new : WorldView) (after : Supply) : Type 0 where
  pub call : Call
  pub next : next_of old who ≡ Some call
  pub awake : old.lost ≡ false
  pub new_is : new ≡ record old { unfinished = (who, call) ∷ []; acts = old.acts + 1; disk = new.disk; lost = true }
  pub stay : OthersStay old new who
  pub off : is_on after ≡ false

-- its call may have begun: the power was off before, or nothing kept a call from it
abbrev pub MayHaveBegun : WorldView → Who → Supply → Type 0
MayHaveBegun w who before = (is_on before ≡ false) ⊎ ((call : Call) × Begins w who call)

-- or it had gone, or was lost; or it went before a script that has ended was looked at
abbrev pub IsPowerLost : Who → WorldView → WorldView → Supply → Supply → Type 0
IsPowerLost who old new before after =
    ((old.lost ≡ true) × (new ≡ old) × (after ≡ before))
    ⊎ (LosesCall who old new after × MayHaveBegun old who before)
    ⊎ ((old.lost ≡ false) × (next_of old who ≡ None) × (new ≡ record old { acts = old.acts + 1; lost = true }) × (after ≡ before) × (is_on after ≡ false))

-- MEMORY RUNS OUT, on the way: no call sees a change, and the World is only to be dropped.
pub record WantsMemory (old new : WorldView) (after : Supply) : Type 0 where
  pub awake : old.lost ≡ false
  pub on : is_on after ≡ true
  pub new_is : new ≡ record old { disk = new.disk; usable = false }

-- ---- before a call begins

-- its next call waits for a job that is out, of this file and this caller
pub record WaitsFor (w : WorldView) (who : Who) (ino : ℕ) (holder : Who) : Type 0 where
  pub call : Call
  pub next : next_of w who ≡ Some call
  pub kept : IsKeptBy w who call ino holder

-- it waits for none
pub record MayBegin (w : WorldView) (who : Who) : Type 0 where
  pub call : Call
  pub next : next_of w who ≡ Some call
  pub idle : is_busy (state_of w) (files_out w) (who, call) ≡ false
