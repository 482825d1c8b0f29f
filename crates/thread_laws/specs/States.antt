-- How a worker stands by its view: idle, with a job, or stopped.
use Rattle.std.specs.Prelude.{◌≡◌, ◌≢◌, ◌⊎◌, ℕ, true, List, [], ◌∷◌, ◌++◌, Option, Some, None}
use Rattle.round_laws.specs.world_view_laws.oplog_entry.layout_model.declared.lines.Draft.{Draft}
use Rattle.round_laws.specs.world_view_laws.posix_types.declared.call.Who.{Who}
use Rattle.round_laws.specs.world_view_laws.live_model.Standing.{JobOut}
use Rattle.round_laws.specs.world_view_laws.write_jobs.Jobs.{FilledView, JobView}
use Rattle.round_laws.specs.world_view_laws.Begins.{IsFilledOut, IsJobOut}
use Rattle.round_laws.specs.world_view_laws.Views.{WorldView}
use Rattle.thread_laws.specs.Hands.{Gone, HandView, Nothing, Sees, Shown}

-- its caller may begin: a thread was shown a set-up that is done
abbrev pub IsShownSetUp : Who → Shown → Type 0
IsShownSetUp Who.Setup shown = Unit {0}
IsShownSetUp (Who.Thread n) Nothing = ⊥
IsShownSetUp (Who.Thread n) (Sees last) = last.set_up ≡ true
IsShownSetUp (Who.Thread n) Gone = ⊥

-- IT IS IDLE: it has no job, and its caller may begin.
pub record IsIdle (who : Who) (v : HandView) : Type 0 where
  pub who_is : v.who ≡ who
  pub none_out : v.out ≡ None
  pub none_begun : v.begun ≡ None
  pub set_up : IsShownSetUp who v.last

-- IT HAS THIS JOB, to be filled: that of its view's entry, which was out with its words and blocks when it began.
pub record HasJob (v : HandView) (job : JobView) : Type 0 where
  pub then : WorldView
  pub out : JobOut
  pub begun : v.begun ≡ Some then
  pub who : out.who ≡ v.who
  pub is : IsJobOut then out job
  pub entry : v.out ≡ Some job.draft
  pub set_up : IsShownSetUp v.who v.last

-- or this one, filled
pub record HasFilledJob (v : HandView) (job : FilledView) : Type 0 where
  pub then : WorldView
  pub out : JobOut
  pub begun : v.begun ≡ Some then
  pub who : out.who ≡ v.who
  pub is : IsFilledOut then out job
  pub entry : v.out ≡ Some job.draft
  pub set_up : IsShownSetUp v.who v.last

-- a loss of the power was shown
abbrev pub IsShownLost : Shown → Type 0
IsShownLost Nothing = ⊥
IsShownLost (Sees last) = last.lost ≡ true
IsShownLost Gone = ⊥

-- WHY ALL STOP: the round is over, the power was lost, or the World is gone
abbrev pub StopsAll : Shown → Type 0
StopsAll Nothing = ⊥
StopsAll (Sees last) = (last.over ≢ None) ⊎ (last.lost ≡ true)
StopsAll Gone = Unit {0}

-- WHY IT STOPS: its script has ended; or as all do
abbrev pub HasStopped : Shown → Type 0
HasStopped Nothing = ⊥
HasStopped (Sees last) = (last.ended ≡ true) ⊎ StopsAll (Sees last)
HasStopped Gone = Unit {0}

-- with no job in hand: none is out; or that of the last pair that it gave to `finish`, which lost the power
abbrev pub IsOutAtEnd : HandView → Type 0
IsOutAtEnd v = (v.out ≡ None) ⊎ ((front : List (ℕ × Draft)) × (slot : ℕ) × (d : Draft) × (v.done ≡ front ++ (slot, d) ∷ []) × (v.out ≡ Some d) × IsShownLost v.last)
