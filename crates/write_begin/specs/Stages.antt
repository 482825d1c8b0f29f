-- A logged write that has its run of staging blocks becomes a job.
use Rattle.std.specs.Prelude.{◌≡◌, ◌≢◌, ◌≤◌, ◌<◌, ◌+◌, ◌-◌, ◌*◌, ◌/◌, ◌%◌, ◌^◌, ℕ, true, false, Contains, List, [], ◌∷◌, ◌++◌, length, drop, Some}
use Rattle.write_jobs.specs.layout_model.declared.lines.Draft.{Draft}
use Rattle.write_jobs.specs.layout_model.declared.lines.Kind.TheVariants.{File}
use Rattle.write_jobs.specs.layout_model.Places.{Geometry, reserve}
use Rattle.write_jobs.specs.image_model.Room.{unused_blocks}
use Rattle.write_jobs.specs.image_model.Volume.{inode}
use Rattle.live_step_laws.specs.file_table.Files.{Files, size_in, spare_in}
use Rattle.in_place.specs.Zeros.{ReadZero}
use Rattle.write_jobs.specs.k_split_model.View.{View}
use Rattle.write_plan.specs.list_laws.Members.{In}
use Rattle.posix_types.specs.declared.call.Call.{Call}
use Rattle.posix_types.specs.declared.call.Mode.{Mode}
use Rattle.posix_types.specs.declared.call.Who.{Who}
use Rattle.posix_tables.specs.Open.{Tables}
use Rattle.write_jobs.specs.commute_laws.Frames.{AreThreads}
use Rattle.posix_laws.specs.Views.{need_of}
use Rattle.posix_laws.specs.posix_spec.Put.{Put, put_by}
use Rattle.posix_laws.specs.posix_spec.State.{room, State}
use Rattle.live_step_laws.specs.staging_files.declared.runs.StageRun.{StageRun}
use Rattle.live_step_laws.specs.staging_files.Keeps.{AreApart, IsRunSingle, IsThere, Staged}
use Rattle.write_jobs.specs.world_model.JobLaws.{needs}
use Rattle.write_jobs.specs.world_model.Jobs.{Job, live_claims}
use Rattle.write_jobs.specs.world_model.Stands.{number}
use Rattle.live_step_laws.specs.live_model.Standing.{Kept, JobOut, reserved_run, StandsAt}
use Rattle.live_step_laws.specs.live_model.Jobs.{SpellCall}
use Rattle.in_place.specs.Holes.{IsPresent}
use Rattle.write_plan.specs.declared.asks.asking.Target.{Target}
use Rattle.write_plan.specs.Drafts.{draft_in, HasRun}
use Rattle.write_jobs.specs.Jobs.{blocks_of, JobView}

-- what the World keeps, with this staging and these files
abbrev pub with_parts : Kept → Staged → Files → Kept
with_parts kept staging files = record kept { staging = staging; files = files }

-- THE CALL PUTS A WRITE OF WHICH THIS IS THE PART FROM HERE ON, into this node: the bytes before it lie below the file's old end, and end
-- with a block; in strict mode there are none.
pub record PutsFrom (s : State) (who : Who) (call : Call) (node : ℕ) (target : Target) (x : List ℕ) : Type 0 where
  pub put : Put
  pub is : put_by s who call ≡ Some put
  pub node_is : put.node ≡ node
  pub place : put.place ≤ target.start
  pub bytes : x ≡ drop (target.start - put.place) put.bytes
  pub front : put.place < target.start → (target.start ≤ target.size) × (target.start % 4096 ≡ 0) × (target.size ≤ put.place + length put.bytes)
  pub strict : s.mode ≡ Mode.Strict → put.place ≡ target.start

-- THE WRITE CAN BE STAGED in this run: the World stands together; the call puts a write of which these bytes are the part from the
-- target's place on, of what lies before the file has the blocks, and it finds room beside the jobs that are out, which are of other
-- callers and other files; the file has the size of the target, and what lies between its end and the block of the part reads zero;
-- and the run is out, none of a live entry or of a job, its blocks are there, and those that all runs want are free.
pub record Ready (k : View) (files : Files) (who : Who) (target : Target) (x : List ℕ) (run : StageRun) : Type 0 where
  pub g : Geometry
  pub t : Tables
  pub staging : Staged
  pub kept : Kept
  pub n : ℕ
  pub few : n < 2 ^ 62
  pub s : State
  pub call : Call
  pub stands : StandsAt g k t (with_parts kept staging files) true n s
  pub file : (inode k.volume target.ino).kind ≡ File
  pub size_is : target.size ≡ size_in files target.ino
  pub puts : PutsFrom s who call (number stands.numbers target.ino) target x
  pub present : (i : ℕ) → puts.put.place ≤ i → i < target.start → IsPresent k.volume files target.ino (i / 4096)
  pub fits : needs s stands.jobs + need_of s who call ≤ room s
  pub others : (j : Job) → In j stands.jobs → j.draft.ino ≢ target.ino
  pub callers : (p : JobOut) → In p kept.pending → AreThreads who p.who
  pub spare : 3 ≤ spare_in files target.ino
  pub zero : ReadZero k files target.ino target.size (4096 * (target.start / 4096))
  pub old : List StageRun
  pub has_run : HasRun k.volume staging target (length x) run
  pub claims_out : (d : Draft) → In d (live_claims k.volume kept.claims) → Contains old (reserved_run d)
  pub jobs_out : (p : JobOut) → In p kept.pending → Contains old (reserved_run p.draft)
  pub apart : (other : StageRun) → Contains old other → AreApart other run
  pub there : IsThere k run
  pub single : IsRunSingle k run
  pub owed : length (live_claims k.volume kept.claims) + length stands.jobs + 1 ≤ length staging.out
  pub free : length staging.out + reserve k.volume.geometry ≤ unused_blocks k.volume + 3

-- the job as the World keeps it
abbrev pub pending_of : View → Files → Who → Call → Target → ℕ → StageRun → List ℕ → JobOut
pending_of k files who call target len run blocks = record { who = who; call = call; draft = draft_in k.volume files target len run; blocks = blocks }

-- THE JOB IS OUT: the World stands together with it as the last one, in the same state, and its words are those of its call.
pub record IsStaged (k l : View) (files : Files) (who : Who) (target : Target) (x : List ℕ) (run : StageRun) (words blocks : List ℕ)
    (ready : Ready k files who target x run) : Type 0 where
  pub stands : StandsAt ready.g l ready.t (record (with_parts ready.kept ready.staging files) { pending = ready.kept.pending ++ pending_of k files who ready.call target (length x) run blocks ∷ [] }) true ready.n ready.s
  pub spells : SpellCall ready.s (pending_of k files who ready.call target (length x) run blocks) words

-- The job has the entry of the write, and its blocks are these.
pub record IsJobOf (k : View) (files : Files) (who : Who) (target : Target) (len : ℕ) (run : StageRun) (job : JobView) (blocks : List ℕ) : Type 0 where
  pub who_is : job.who ≡ who
  pub draft : job.draft ≡ draft_in k.volume files target len run
  pub blocks_are : blocks_of job.loans ≡ blocks
  pub fresh : job.lost ≡ false
