-- What the end of a logged write finds of a World, and what it leaves.
use Rattle.std.specs.Prelude.{◌≡◌, ◌≢◌, ◌+◌, ℕ, true, List, [], ◌∷◌, ◌++◌}
use Rattle.in_place.specs.write_plan.layout_model.Places.{Geometry}
use Rattle.in_place.specs.write_plan.file_table.Files.{Files}
use Rattle.in_place.specs.live_model.write_jobs.world_image_laws.k_split_model.View.{View}
use Rattle.in_place.specs.write_plan.list_laws.Members.{In}
use Rattle.posix_types.specs.declared.call.Call.{Call}
use Rattle.posix_types.specs.declared.call.Mode.{Mode}
use Rattle.in_place.specs.write_plan.posix_tables.Open.{Tables}
use Rattle.in_place.specs.write_plan.posix_spec.Run.{after_call, Unfinished}
use Rattle.in_place.specs.write_plan.posix_spec.State.{State}
use Rattle.in_place.specs.live_model.staging_files.Keeps.{Staged}
use Rattle.in_place.specs.live_model.write_jobs.Jobs.{blocks_of, FilledView}
use Rattle.in_place.specs.live_model.Standing.{Kept, JobOut, StandsAt}
use Rattle.in_place.specs.live_model.Jobs.{SpellCall, without}

-- THE JOB IS OUT: it is that of one that is kept as out, with its entry, its blocks and the words of its call.
pub record IsOut (kept : Kept) (s : State) (p : JobOut) (job : FilledView) : Type 0 where
  pub there : In p kept.pending
  pub who : job.who ≡ p.who
  pub draft : job.draft ≡ p.draft
  pub blocks : blocks_of job.loans ≡ p.blocks
  pub words : SpellCall s p job.words

-- A World over this K-Split in which the job is out, while the log lines are out.
pub record HasJob (k : View) (job : FilledView) : Type 0 where
  pub g : Geometry
  pub t : Tables
  pub kept : Kept
  pub n : ℕ
  pub s : State
  pub p : JobOut
  pub stands : StandsAt g k t kept true n s
  pub out : IsOut kept s p job

-- the call of one that is out
abbrev pub begun_by : JobOut → Unfinished
begun_by p = (p.who, p.call)

-- the call of the job
abbrev pub call_out : (k : View) (job : FilledView) → HasJob k job → Unfinished
call_out k job has = (has.p.who, has.p.call)

-- ---- it finishes

-- It has these tables and this file table, the job is of this call, and the mode is strict or sync.
pub record HasWrite (k : View) (job : FilledView) (t : Tables) (files : Files) (call : Call) (has : HasJob k job) : Type 0 where
  pub tables : has.t ≡ t
  pub files_are : has.kept.files ≡ files
  pub call_is : has.p.call ≡ call
  pub mode : has.s.mode ≢ Mode.Posix

abbrev pub CanFinish : View → FilledView → Tables → Files → Call → Type 0
CanFinish k job t files call = (has : HasJob k job) × HasWrite k job t files call has

-- what is kept then
abbrev pub finished : Kept → ℕ → JobOut → Files → Kept
finished kept slot p files = record kept { files = files; claims = kept.claims ++ (slot, p.draft) ∷ []; pending = without p.who kept.pending }

-- THE WRITE IS FINISHED: its call has acted, its entry is claimed in the slot, and the World stands together without the job, by
-- the same numbers. The jobs that are still out have the words of their calls still.
pub record LeavesFinished (k : View) (job : FilledView) (has : HasJob k job) (slot : ℕ) (l : View) (u : Tables) (files : Files) : Type 0 where
  pub stands : StandsAt has.g l u (finished has.kept slot has.p files) true (has.n + 1) (after_call has.s (call_out k job has))
  pub numbers : stands.numbers ≡ has.stands.numbers
  pub words : (q : JobOut) (words : List ℕ) → In q (without has.p.who has.kept.pending) → SpellCall has.s q words → SpellCall (after_call has.s (call_out k job has)) q words

-- ---- it is given up

abbrev pub CanGiveUp : View → FilledView → Staged → Type 0
CanGiveUp k job staging = (has : HasJob k job) × (has.kept.staging ≡ staging)

abbrev pub given_up : Kept → JobOut → Staged → Kept
given_up kept p staging = record kept { staging = staging; pending = without p.who kept.pending }

-- THE WRITE IS GIVEN UP: the World stands together without the job, in the state before its call, by the same numbers.
pub record LeavesGivenUp (k : View) (job : FilledView) (has : HasJob k job) (l : View) (staging : Staged) : Type 0 where
  pub stands : StandsAt has.g l has.t (given_up has.kept has.p staging) true has.n has.s
  pub numbers : stands.numbers ≡ has.stands.numbers
