-- A write that no row refuses, and that finds room beside the jobs that are out, on its way.
use Rattle.block_counts.specs.declared.TheConstants.{LONGEST_FILE, LONGEST_WRITE}
use Rattle.std.specs.Prelude.{◌≡◌, ◌≢◌, ◌≤◌, ◌<◌, ◌+◌, ◌/◌, ◌^◌, ℕ, true, false, List, [], ◌∷◌, ◌++◌, length, Option, None, Some, Result, Ok, Err}
use Rattle.std.specs.declared.alloc.AllocError.{AllocError}
use Rattle.block_counts.specs.Counts.{blocks_for}
use Rattle.write_plan.specs.layout_model.declared.lines.Kind.TheVariants.{File}
use Rattle.write_plan.specs.layout_model.Places.{data_blocks, Geometry}
use Rattle.write_plan.specs.image_model.Volume.{extents, inode, Volume}
use Rattle.write_plan.specs.eof_laws.Ends.{FilesEnd}
use Rattle.write_plan.specs.eof_laws.block_io.Overwrites.{blocks_reached}
use Rattle.write_plan.specs.file_table.Files.{Files, runs_in, size_in}
use Rattle.write_plan.specs.k_split_model.View.{View}
use Rattle.write_plan.specs.list_laws.Members.{In}
use Rattle.in_place.specs.k_split_laws.Left.{IsLeftOf}
use Rattle.posix_types.specs.declared.call.Call.{Call}
use Rattle.posix_types.specs.declared.call.Mode.{Mode}
use Rattle.posix_types.specs.declared.call.Who.{Who}
use Rattle.posix_types.specs.declared.handle.Handle.{Handle}
use Rattle.posix_types.specs.declared.item.Item.{Item}
use Rattle.posix_tables.specs.Open.{is_open, Tables}
use Rattle.posix_tables.specs.Room.{write_need}
use Rattle.live_step_laws.specs.commute_laws.Frames.{AreThreads}
use Rattle.write_plan.specs.posix_laws.Views.{need_of}
use Rattle.write_plan.specs.posix_spec.FileRows.{file_number}
use Rattle.write_plan.specs.posix_spec.Run.{after_call, run}
use Rattle.write_plan.specs.posix_spec.State.{room, State}
use Rattle.live_step_laws.specs.staging_files.declared.runs.StageRun.{StageRun}
use Rattle.live_step_laws.specs.staging_files.GivesUp.{IsGivenBack, nothing_staged}
use Rattle.live_step_laws.specs.staging_files.Keeps as staging
use Rattle.live_step_laws.specs.staging_files.Keeps.{Agrees, AreFreeSingle, IsRunSingle, IsThere, Staged}
use Rattle.live_step_laws.specs.staging_files.Reserves.{IsLacking}
use Rattle.live_step_laws.specs.world_model.JobLaws.{needs}
use Rattle.live_step_laws.specs.world_model.Jobs.{Job}
use Rattle.live_step_laws.specs.world_model.Stands.{number}
use Rattle.live_step_laws.specs.world_write_laws.HolesLaws.{KeepsLine}
use Rattle.live_step_laws.specs.live_model.Losses.{KeepsWhenLost}
use Rattle.live_step_laws.specs.live_model.Standing.{Kept, JobOut, reserved_run, StandsAt}
use Rattle.live_step_laws.specs.live_model.Jobs.{SpellCall}
use Rattle.in_place.specs.Holes.{IsPresent}
use Rattle.write_plan.specs.declared.asks.asking.Target.{Target}
use Rattle.write_plan.specs.Asks.{moved_by, room_in}
use Rattle.write_plan.specs.write_jobs.Jobs.{blocks_of, JobView}
use Rattle.write_begin.specs.Stages.{IsJobOf, IsStaged, PutsFrom, Ready, with_parts}
use Rattle.write_begin.specs.declared.begins.beginning.WriteBegun.{WriteBegun}

-- the bytes are those of a write that fits the longest file
pub record FitsTarget (files : Files) (target : Target) (len : ℕ) : Type 0 where
  pub some : 1 ≤ len
  pub most : len ≤ LONGEST_WRITE
  pub fits : target.start + len ≤ LONGEST_FILE
  pub size : target.size ≡ size_in files target.ino

-- Nothing of a file lies past its end, and all files leave the room that the write needs: so as the first of a lap it has its blocks.
pub record HasRoom (mode : Mode) (v : Volume) (files : Files) (target : Target) (len : ℕ) : Type 0 where
  pub ends : FilesEnd v files
  pub room : write_need mode target.size target.start (target.start + len) ≤ room_in (data_blocks v.geometry) files

-- Where no run is out nothing is staged at all: so the first write of a lap has its run.
abbrev pub IsBareAtRest : Staged → Type 0
IsBareAtRest s = s.out ≡ [] → s ≡ nothing_staged

-- A World in which a call puts a write of which these bytes are the part from the target's place on, of what lies before its file has the
-- blocks, and finds room beside the jobs that are out, which are of other callers and other files.
pub record Goes (mode : Mode) (k : View) (staging : Staged) (files : Files) (who : Who) (target : Target) (x : List ℕ) : Type 0 where
  pub g : Geometry
  pub t : Tables
  pub kept : Kept
  pub n : ℕ
  pub few : n < 2 ^ 62
  pub s : State
  pub call : Call
  pub stands : StandsAt g k t (with_parts kept staging files) true n s
  pub mode_is : s.mode ≡ mode
  pub opened : is_open t target.ino ≡ true
  pub puts : PutsFrom s who call (number stands.numbers target.ino) target x
  pub present : (i : ℕ) → puts.put.place ≤ i → i < target.start → IsPresent k.volume files target.ino (i / 4096)
  pub fits : needs s stands.jobs + need_of s who call ≤ room s
  pub others : (j : Job) → In j stands.jobs → j.draft.ino ≢ target.ino
  pub callers : (p : JobOut) → In p kept.pending → AreThreads who p.who

-- and the bytes are all of the write
abbrev pub GoesWhole : Mode → View → Staged → Files → Who → Target → List ℕ → Type 0
GoesWhole mode k staging files who target x = (goes : Goes mode k staging files who target x) × (goes.puts.put.place ≡ target.start)

-- the job as the World keeps it
abbrev pub job_of : Who → Call → JobView → List ℕ → JobOut
job_of who call job blocks = record { who = who; call = call; draft = job.draft; blocks = blocks }

-- Of each file the line is the same, but for the place of its chain, and the map, but for that of this one; so is what is staged of
-- it, and its size; nothing comes to lie past the end of a file; and the log's base is the same.
pub record KeepsMaps (v w : Volume) (files then : Files) (own : Option ℕ) : Type 0 where
  pub kinds : (ino : ℕ) → (inode w ino).kind ≡ (inode v ino).kind
  pub lines : (ino : ℕ) → (inode v ino).kind ≡ File → KeepsLine (inode v ino) (inode w ino)
  pub maps : (ino : ℕ) → (inode v ino).kind ≡ File → own ≢ Some ino → extents w ino ≡ extents v ino
  pub runs : (ino : ℕ) → runs_in then ino ≡ runs_in files ino
  pub sizes : then.sizes ≡ files.sizes
  pub ends : FilesEnd v files → FilesEnd w then
  pub base : w.base ≡ v.base

-- the file whose holes the mode may fill
abbrev pub filled_in : Mode → ℕ → Option ℕ
filled_in Mode.Strict ino = None
filled_in Mode.Sync ino = Some ino
filled_in Mode.Posix ino = Some ino

abbrev pub filled_by : Mode → Tables → Who → Handle → Option ℕ
filled_by mode t who h = filled_in mode (file_number t who h)

-- ---- how it went on

-- the blocks that a part reaches, from that of its first byte on
abbrev pub reached_run : Target → ℕ → Option (ℕ × ℕ)
reached_run target len = Some (target.start / 4096, blocks_reached target.start len)

-- IT IS A JOB, with the blocks of its run; and just these went out.
pub record BecomesJob (mode : Mode) (k l : View) (old new : Staged) (files then : Files) (who : Who) (target : Target) (x : List ℕ) (run : Option (ℕ × ℕ)) (job : JobView) (blocks : List ℕ) : Type 0 where
  pub found : (need left : ℕ) → ¬ IsLacking job.draft.count old k need left
  pub job_who : job.who ≡ who
  pub blocks_are : blocks_of job.loans ≡ blocks
  pub fresh : job.lost ≡ false
  pub ends : job.draft.file_block + job.draft.count ≤ blocks_for job.draft.size
  pub plan : run ≡ Some (job.draft.file_block, job.draft.count)
  pub out : new.out ≡ old.out ++ reserved_run job.draft ∷ []
  pub words : (goes : Goes mode k old files who target x) → SpellCall goes.s (job_of who goes.call job blocks) job.words
  pub stands : (goes : Goes mode k old files who target x)
      → StandsAt goes.g l goes.t (record (with_parts goes.kept new then) { pending = goes.kept.pending ++ job_of who goes.call job blocks ∷ [] }) true goes.n goes.s

-- it is none, and no call sees a change
pub record GoesNoFurther (mode : Mode) (k l : View) (old new : Staged) (files then : Files) (who : Who) (target : Target) (x : List ℕ) : Type 0 where
  pub runs : length new.out ≡ length old.out
  pub stands : (goes : Goes mode k old files who target x) → StandsAt goes.g l goes.t (with_parts goes.kept new then) true goes.n goes.s

-- the staging has no run for it, and one at least is out; K-Split and the staging are as they were
pub record LacksRun (mode : Mode) (k l : View) (old new : Staged) (files then : Files) (who : Who) (target : Target) (x : List ℕ) (run : Option (ℕ × ℕ)) (need left : ℕ) : Type 0 where
  pub needed : ℕ × ℕ
  pub run_is : run ≡ Some needed
  pub lacks : IsLacking needed.1 old k need left
  pub late : old.out ≢ []
  pub same : new ≡ old
  pub nothing : l ≡ k
  pub stays : GoesNoFurther mode k l old new files then who target x

-- the power went
pub record LosesTarget (mode : Mode) (k l : View) (old : Staged) (files : Files) (who : Who) (target : Target) (x : List ℕ) : Type 0 where
  pub left : (goes : Goes mode k old files who target x) → IsLeftOf goes.g k.cells l.cells
  pub kept : (goes : Goes mode k old files who target x) (start : State) (history : List Item) → goes.s ≡ run start history
      → KeepsWhenLost k.volume l.cells goes.kept goes.stands.jobs start history ((who, goes.call) ∷ [])

-- it stages nothing and is written in place, where cells alone are others: with the tables moved the World stands together in the state after it
pub record PlacesTarget (mode : Mode) (k l : View) (old new : Staged) (files then : Files) (who : Who) (target : Target) (x : List ℕ) (run : Option (ℕ × ℕ)) : Type 0 where
  pub none : run ≡ None
  pub same : new ≡ old
  pub kept : then ≡ files
  pub in_place : l ≡ record k { cells = l.cells }
  pub stands : (goes : GoesWhole mode k old files who target x)
      → StandsAt goes.0.g l (moved_by goes.0.t then who goes.0.call) (with_parts goes.0.kept new then) true (goes.0.n + 1) (after_call goes.0.s (who, goes.0.call))

-- all of it, for a write that stages this run
abbrev pub IsGone : Mode → View → View → Staged → Staged → Files → Files → Who → Target → List ℕ → Option (ℕ × ℕ) → Result WriteBegun AllocError → Type 0
IsGone mode k l old new files then who target x run (Ok (WriteBegun.Answered outcome)) = ⊥
IsGone mode k l old new files then who target x run (Ok (WriteBegun.Job job blocks)) = BecomesJob mode k l old new files then who target x run job blocks.items
IsGone mode k l old new files then who target x run (Ok WriteBegun.Written) = PlacesTarget mode k l old new files then who target x run
IsGone mode k l old new files then who target x run (Ok (WriteBegun.RoundOver need left)) = LacksRun mode k l old new files then who target x run need left
IsGone mode k l old new files then who target x run (Ok WriteBegun.PowerLost) = LosesTarget mode k l old files who target x
IsGone mode k l old new files then who target x run (Err e) = GoesNoFurther mode k l old new files then who target x

-- ---- with its run

-- the run is a job's
pub record StagedAsJob (k l : View) (old new : Staged) (files : Files) (who : Who) (target : Target) (x : List ℕ) (run : StageRun) (job : JobView) (blocks : List ℕ) : Type 0 where
  pub job_is : IsJobOf k files who target (length x) run job blocks
  pub staged : (ready : Ready k files who target x run) → IsStaged k l files who target x run job.words blocks ready
  pub cells_alone : l ≡ record k { cells = l.cells }
  pub same : new ≡ old

-- or it is given back
pub record RunGivenBack (k l : View) (old new : Staged) (run : StageRun) : Type 0 where
  pub same : l ≡ k
  pub back : IsGivenBack run old new
  pub keeps : staging.IsStaged new
  pub agrees : Agrees old k → IsThere k run → Agrees new k
  pub single : AreFreeSingle old k → IsRunSingle k run → AreFreeSingle new k

abbrev pub IsJobBegun : View → View → Staged → Staged → Files → Who → Target → List ℕ → StageRun → Result WriteBegun AllocError → Type 0
IsJobBegun k l old new files who target x run (Ok (WriteBegun.Answered outcome)) = ⊥
IsJobBegun k l old new files who target x run (Ok (WriteBegun.Job job blocks)) = StagedAsJob k l old new files who target x run job blocks.items
IsJobBegun k l old new files who target x run (Ok WriteBegun.Written) = ⊥
IsJobBegun k l old new files who target x run (Ok (WriteBegun.RoundOver need left)) = ⊥
IsJobBegun k l old new files who target x run (Ok WriteBegun.PowerLost) = ⊥
IsJobBegun k l old new files who target x run (Err e) = RunGivenBack k l old new run
