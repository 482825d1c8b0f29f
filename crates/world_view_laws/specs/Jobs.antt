-- What the ends of a job leave.
use Rattle.std.specs.Prelude.{◌≡◌, ◌≢◌, ◌⊎◌, ◌+◌, ℕ, true, false, [], ◌∷◌, ◌++◌, Option, Some, None, slice_index}
use Rattle.in_flight.specs.pm_model.Powers.{is_on, Supply}
use Rattle.write_end.specs.oplog_entry.declared.claims.Full.{Full}
use Rattle.in_flight.specs.list_laws.Members.{In}
use Rattle.in_flight.specs.staging_files.GivesUp.{IsGivenBack}
use Rattle.in_flight.specs.live_model.Standing.{JobOut, reserved_run}
use Rattle.in_flight.specs.live_model.Jobs.{without}
use Rattle.in_flight.specs.live_model.Overlays.{run_of}
use Rattle.in_flight.specs.write_jobs.Jobs.{FilledView}
use Rattle.write_end.specs.Blocks.{AreBlocksHome}
use Rattle.world_view_laws.specs.declared.views.over.Over.{Over}
use Rattle.world_view_laws.specs.Begins.{IsFilledOut, item_of, OthersStay}
use Rattle.world_view_laws.specs.Views.{next_of, runs_on, WorldView}

-- the job is one of this World, out
abbrev pub IsOfWorld : WorldView → FilledView → Type 0
IsOfWorld w job = (p : JobOut) × IsFilledOut w p job

-- IT FINISHES: its call was the next of its caller; its item stands at the end of the history, its pair of slot and entry among the claims,
-- and it is out no more. The run of its entry lies over its file, which has its size; other files keep runs and sizes.
pub record Finishes (slot : ℕ) (p : JobOut) (old new : WorldView) (power : Supply) : Type 0 where
  pub awake : old.lost ≡ false
  pub on : is_on power ≡ true
  pub next : next_of old p.who ≡ Some p.call
  pub new_is : new ≡ record old {
    history = old.history ++ item_of old p.who p.call ∷ [];
    claims = old.claims ++ (slot, p.draft) ∷ [];
    pending = without p.who old.pending;
    acts = old.acts + 1;
    disk = new.disk;
  }
  pub disk : new.disk ≡ record old.disk { cells = new.disk.cells; tables = new.disk.tables; overlays = new.disk.overlays; sizes = new.disk.sizes }
  pub others : (ino : ℕ) → ino ≢ p.draft.ino → (runs_on new.disk ino ≡ runs_on old.disk ino) × (slice_index new.disk.sizes ino ≡ slice_index old.disk.sizes ino)
  pub runs : runs_on new.disk p.draft.ino ≡ runs_on old.disk p.draft.ino ++ run_of p.draft ∷ []
  pub size : slice_index new.disk.sizes p.draft.ino ≡ p.draft.size
  pub stay : OthersStay old new p.who

-- the blocks of other jobs that are at home stay there
abbrev pub HomesStay : JobOut → WorldView → WorldView → Type 0
HomesStay p old new =
    (q : JobOut) → In q old.pending → q.who ≢ p.who → AreBlocksHome q.blocks old.disk.cells → AreBlocksHome q.blocks new.disk.cells

-- ITS POWER WENT: its blocks are at home, its claim counts, and it stays out as an unfinished call.
pub record LosesFinish (slot : ℕ) (p : JobOut) (old new : WorldView) (power : Supply) : Type 0 where
  pub off : (old.lost ≡ true) ⊎ (is_on power ≡ false)
  pub new_is : new ≡ record old { claims = old.claims ++ (slot, p.draft) ∷ []; acts = new.acts; disk = new.disk; lost = true }
  pub first_one : old.lost ≡ false → new.acts ≡ old.acts + 1
  pub later_one : old.lost ≡ true → new.acts ≡ old.acts
  pub back : AreBlocksHome p.blocks new.disk.cells
  pub homes : HomesStay p old new
  pub stay : OthersStay old new p.who

-- what ended the round stays; where it was not over, the claim that found no line ends it
abbrev pub over_by : Option Over → Full → Over
over_by None full = Over.Lap full
over_by (Some over) full = over

-- IT IS GIVEN UP: the call is back at its start, and the round is over, with what ended it first; also where the power went before.
-- Its blocks are at home, and while the power is on its run goes back to the staging, and no other.
pub record GivesUp (full : Full) (p : JobOut) (old new : WorldView) : Type 0 where
  pub new_is : new ≡ record old { pending = without p.who old.pending; over = Some (over_by old.over full); given_up = old.given_up + 1; disk = new.disk }
  pub disk : old.lost ≡ false → new.disk ≡ record old.disk { cells = new.disk.cells; staging = new.disk.staging }
  pub run_back : old.lost ≡ false → IsGivenBack (reserved_run p.draft) old.disk.staging new.disk.staging
  pub back : AreBlocksHome p.blocks new.disk.cells
  pub homes : HomesStay p old new
  pub stay : OthersStay old new p.who
