-- What holds of a World and of the views of all workers while nobody has it.
use Rattle.std.specs.Prelude.{◌≡◌, ◌≢◌, ◌⊎◌, ◌≤◌, ◌+◌, ◌*◌, ◌^◌, ℕ, Bool, true, false, List, [], ◌∷◌, length, map, sum_by, Option, Some, None, slice_get}
use Rattle.round_laws.specs.world_view_laws.pm_model.Powers.{Supply}
use Rattle.round_laws.specs.world_view_laws.oplog_entry.layout_model.declared.lines.Draft.{Draft}
use Rattle.round_laws.specs.world_view_laws.list_laws.Members.{In}
use Rattle.round_laws.specs.world_view_laws.posix_types.declared.call.Who.{Who}
use Rattle.round_laws.specs.world_view_laws.live_model.Standing.{JobOut}
use Rattle.round_laws.specs.world_view_laws.write_end.Blocks.{AreBlocksHome}
use Rattle.round_laws.specs.world_view_laws.Acts.{jobs_of, Last, shows, StaysOf}
use Rattle.round_laws.specs.world_view_laws.Views.{WorldView}
use Rattle.thread_laws.specs.Hands.{Gone, HandView, lap_of, mine_of, Nothing, Sees, Shown}

-- ---- the World

-- THE BOUND OF A LOSS: where the power was lost it was made for a number of steps, which so many calls can take.
abbrev pub IsBounded : WorldView → Supply → Type 0
IsBounded w power = w.lost ≡ true → (steps : ℕ) × (power.given ≡ Some steps) × (steps ≤ 2 ^ 31 * (length w.history + 2))

-- THE WORLD IS IN ITS ROUND, with the power that its calls have taken: its log's lines are out; each act pays for 2^26 steps.
pub record IsInRound (w : WorldView) (power : Supply) : Type 0 where
  pub usable : w.usable ≡ true
  pub lines_out : w.lines_out ≡ true
  pub settled : w.settled ≤ length w.history
  pub paid : power.taken ≤ 2 ^ 26 * w.acts
  pub bound : IsBounded w power

-- ---- what one worker knows

abbrev pub listed : Option Draft → List Draft
listed None = []
listed (Some d) = d ∷ []

-- WHAT BECAME OF ITS JOB. Where none is in hand, the World has none of its caller; or one whose finish lost the power, with its blocks at home.
-- Where one is, the World has the jobs of its caller that it had when that began, and they are out as they were.
abbrev pub IsJobOf : WorldView → Who → Option WorldView → Type 0
IsJobOf w who None = (jobs_of who w.pending ≡ []) ⊎ ((w.lost ≡ true) × ((p : JobOut) → In p (jobs_of who w.pending) → AreBlocksHome p.blocks w.disk.cells))
IsJobOf w who (Some then) = (jobs_of who then.pending ≡ jobs_of who w.pending) × (jobs_of who w.pending ≢ []) × StaysOf who then w

-- what was shown still stands: the end of a script, of a round, a loss of the power, a set-up that is done. None was shown that the World is gone.
pub record StillStands (now was : Last) : Type 0 where
  pub ended : was.ended ≡ true → now.ended ≡ true
  pub over : was.over ≢ None → now.over ≡ was.over
  pub lost : was.lost ≡ true → now.lost ≡ true
  pub set_up : was.set_up ≡ true → now.set_up ≡ true

abbrev pub IsStillShown : Last → Shown → Type 0
IsStillShown now Nothing = Unit {0}
IsStillShown now (Sees was) = StillStands now was
IsStillShown now Gone = ⊥

-- WHAT A WORKER KNOWS OF THE WORLD by its view, whenever it finds one.
pub record IsViewOf (w : WorldView) (power : Supply) (v : HandView) : Type 0 where
  pub lap : lap_of w ≡ v.lap
  pub given : power.given ≡ v.given
  pub mine : mine_of w v.who ≡ v.mine
  pub out : map (λ (p : JobOut). p.draft) (jobs_of v.who w.pending) ≡ listed v.out
  pub done : (pair : ℕ × Draft) → In pair v.done → In pair w.claims
  pub job : IsJobOf w v.who v.begun
  pub shown : IsStillShown (shows w v.who) v.last

-- ---- all of them

-- THE CLAIMS OF THE LAP are the pairs of all workers together, each once: however pairs are weighed, they weigh as much; and each is some worker's.
pub record AreTogether (claims : List (ℕ × Draft)) (views : List HandView) : Type 0 where
  pub weigh : (f : ℕ × Draft → ℕ) → sum_by f claims ≡ sum_by (λ (v : HandView). sum_by f v.done) views
  pub from : (pair : ℕ × Draft) → In pair claims → (i : ℕ) × (v : HandView) × (slice_get views i ≡ Some v) × In pair v.done

-- some worker gave a job up
pub record HasFull (views : List HandView) : Type 0 where
  pub place : ℕ
  pub view : HandView
  pub at : slice_get views place ≡ Some view
  pub full : view.full ≡ true

-- THE WORLD AND THE VIEWS STAND TOGETHER: each worker knows what its view says; no two have one caller or the entry of one job; the jobs that
-- are out are those of workers, and the claims theirs; and where a job was given up in this round, one of them gave it up.
pub record Stands (w : WorldView) (power : Supply) (views : List HandView) : Type 0 where
  pub world : IsInRound w power
  pub each : (i : ℕ) (v : HandView) → slice_get views i ≡ Some v → IsViewOf w power v
  pub callers : (i j : ℕ) (v u : HandView) → slice_get views i ≡ Some v → slice_get views j ≡ Some u → v.who ≡ u.who → i ≡ j
  pub drafts : (i j : ℕ) (v u : HandView) (d : Draft) → slice_get views i ≡ Some v → slice_get views j ≡ Some u → v.out ≡ Some d → u.out ≡ Some d → i ≡ j
  pub of_workers : (p : JobOut) → In p w.pending → (i : ℕ) × (v : HandView) × (slice_get views i ≡ Some v) × (p.who ≡ v.who)
  pub claims : AreTogether w.claims views
  pub given_up : (w.given_up ≡ 0) ⊎ HasFull views
