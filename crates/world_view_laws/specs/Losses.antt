-- What a crash asks for.
use Rattle.std.specs.Prelude.{◌≡◌, ◌≢◌, ◌⊎◌, ◌++◌, ℕ, Bool, true, false, List, [], filter, map, AllPairs}
use Rattle.in_flight.specs.pm_model.declared.Cell.{Cell}
use Rattle.in_flight.specs.pm_model.Parts.{Part}
use Rattle.in_flight.specs.layout_model.declared.lines.Draft.{Draft}
use Rattle.in_flight.specs.list_laws.Members.{In}
use Rattle.in_flight.specs.posix_types.declared.call.Who.{Who}
use Rattle.in_flight.specs.posix_spec.Run.{Unfinished}
use Rattle.in_flight.specs.world_image_laws.Promised.{KeepsPromise}
use Rattle.in_flight.specs.live_model.Standing.{JobOut}
use Rattle.in_flight.specs.write_jobs.Jobs.{FilledView, JobView}
use Rattle.write_end.specs.Blocks.{AreBlocksHome}
use Rattle.write_end.specs.CrashesLaws.{MissesNone}
use Rattle.write_end.specs.Ends.{begun_by}
use Rattle.world_view_laws.specs.Begins.{IsFilledOut, IsJobOut}
use Rattle.world_view_laws.specs.Lines.{AreCrashLines}
use Rattle.world_view_laws.specs.Views.{WorldView}

-- the callers of these jobs
abbrev pub callers_of : List JobView → List FilledView → List Who
callers_of out filled = map (λ (job : JobView). job.who) out ++ map (λ (job : FilledView). job.who) filled

-- two callers are not one
abbrev pub AreTwo : Who → Who → Type 0
AreTwo who other = who ≢ other

-- THE JOBS ARE ALL THAT ARE OUT, one each; those whose blocks are at home, since they ended after the loss, are not among them.
pub record AreAllOut (w : WorldView) (out : List JobView) (filled : List FilledView) : Type 0 where
  pub each_out : (job : JobView) → In job out → (p : JobOut) × IsJobOut w p job
  pub each_filled : (job : FilledView) → In job filled → (p : JobOut) × IsFilledOut w p job
  pub one_each : AllPairs AreTwo (callers_of out filled)
  pub all : (p : JobOut) → In p w.pending → AreBlocksHome p.blocks w.disk.cells
      ⊎ (((job : JobView) × In job out × IsJobOut w p job) ⊎ ((job : FilledView) × In job filled × IsFilledOut w p job))

-- WHAT A CRASH ASKS FOR: all jobs that are out; and the lines of the round, as far as the claims and these jobs came, or none where
-- they are at home.
pub record MayCrash (w : WorldView) (lines : List Part) (out : List JobView) (filled : List FilledView) : Type 0 where
  pub jobs : AreAllOut w out filled
  pub lines_are : w.lines_out ≡ true → (taken : List (ℕ × Draft)) × AreCrashLines w filled taken lines
  pub none : w.lines_out ≡ false → lines ≡ []

-- ---- the calls that may have acted

-- THE CALLS THAT MAY HAVE ACTED, by a test of the jobs that are out: those of the jobs for which it holds, in the order of their beginning,
-- and the one that lost its power.
abbrev pub calls_acted : WorldView → (JobOut → Bool) → List Unfinished
calls_acted w acts = map begun_by (filter acts w.pending) ++ w.unfinished

-- The test misses none, by the entries that stand in the lines of the round as far as they came.
abbrev pub TellsActed : WorldView → List Part → List FilledView → (JobOut → Bool) → Type 0
TellsActed w lines filled acts = w.lines_out ≡ true → (taken : List (ℕ × Draft)) × AreCrashLines w filled taken lines × MissesNone w.pending w.disk.cells taken acts

-- THE DEVICE KEEPS THE PROMISE FOR THE CALLS THAT MAY HAVE ACTED, whatever test tells them.
abbrev pub KeepsActed : WorldView → List Part → List FilledView → List Cell → Type 0
KeepsActed w lines filled pm = (acts : JobOut → Bool) → TellsActed w lines filled acts → KeepsPromise w.geometry pm w.start w.history (calls_acted w acts)
