-- What one call leaves of a World, whoever makes it and whatever it answers; and what a World shows a caller.
use Rattle.std.specs.Prelude.{◌≡◌, ◌≢◌, ◌⊎◌, ◌+◌, ◌-◌, ◌*◌, ◌^◌, ◌==◌, ◌&&◌, ◌||◌, not, ℕ, Bool, true, List, [], ◌∷◌, ◌++◌, filter, length, Option, Some, None, is_none}
use Rattle.in_flight.specs.pm_model.Powers.{Steps, Supply}
use Rattle.in_flight.specs.list_laws.Members.{In}
use Rattle.in_flight.specs.posix_types.declared.call.Call.{Call}
use Rattle.in_flight.specs.posix_types.declared.call.Who.{Who}
use Rattle.in_flight.specs.posix_tables.Open.{same_who}
use Rattle.in_flight.specs.posix_spec.Scripted.{IsSetUp, items_of}
use Rattle.in_flight.specs.live_model.Jobs.{without}
use Rattle.in_flight.specs.live_model.Standing.{JobOut}
use Rattle.in_flight.specs.write_jobs.Jobs.{FilledView, JobView}
use Rattle.write_end.specs.Blocks.{AreBlocksHome}
use Rattle.world_view_laws.specs.declared.views.over.Over.{Over}
use Rattle.world_view_laws.specs.Begins.{IsFilledOut, IsJobOut, item_of, OthersStay}
use Rattle.world_view_laws.specs.Views.{HasNone, next_of, WorldView}

-- at most one item is added, that of the caller's next call
abbrev pub AddsOne : Who → WorldView → WorldView → Type 0
AddsOne who old new =
    (new.history ≡ old.history) ⊎ ((call : Call) × (next_of old who ≡ Some call) × (new.history ≡ old.history ++ item_of old who call ∷ []))

-- WHAT BECAME OF THE JOB THAT CLAIMED: its caller has none out any more; or the power went, and it stays as an unfinished call, with its
-- blocks at home.
abbrev pub EndsOwn : Who → JobOut → WorldView → WorldView → Type 0
EndsOwn who p old new = HasNone new who ⊎ ((new.lost ≡ true) × (new.pending ≡ old.pending) × AreBlocksHome p.blocks new.disk.cells)

-- and at most one pair is claimed, with the entry of a job of the caller that was out
abbrev pub ClaimsOne : Who → WorldView → WorldView → Type 0
ClaimsOne who old new =
    (new.claims ≡ old.claims)
    ⊎ ((slot : ℕ) × (p : JobOut) × In p old.pending × (p.who ≡ who) × (new.claims ≡ old.claims ++ (slot, p.draft) ∷ []) × EndsOwn who p old new)

-- the jobs of a caller that are out, in the order of their beginning
abbrev pub jobs_of : Who → List JobOut → List JobOut
jobs_of who pending = filter (λ (p : JobOut). same_who p.who who) pending

-- THE JOBS OF OTHER CALLERS are the same, in the same order.
abbrev pub KeepsOthers : Who → WorldView → WorldView → Type 0
KeepsOthers who old new = without who new.pending ≡ without who old.pending

-- The caller had no job out, and has one, with an entry that no other job has.
pub record BeginsOne (who : Who) (old new : WorldView) : Type 0 where
  pub job : JobOut
  pub none : HasNone old who
  pub one : jobs_of who new.pending ≡ job ∷ []
  pub apart : (q : JobOut) → In q old.pending → q.draft ≢ job.draft

-- its own job is as it was; or it has none any more; or one began
abbrev pub MovesOwn : Who → WorldView → WorldView → Type 0
MovesOwn who old new = (jobs_of who new.pending ≡ jobs_of who old.pending) ⊎ (HasNone new who ⊎ BeginsOne who old new)

-- at most one job was given up; then its caller has none, and the round is over
abbrev pub GivesUpOne : Who → WorldView → WorldView → Type 0
GivesUpOne who old new = (new.given_up ≡ old.given_up) ⊎ ((new.given_up ≡ old.given_up + 1) × HasNone new who × (new.over ≢ None))

-- once the power was lost, the blocks of the jobs of others that are at home stay there
abbrev pub KeepsHomes : Who → WorldView → WorldView → Type 0
KeepsHomes who old new =
    old.lost ≡ true → (q : JobOut) → In q old.pending → q.who ≢ who → AreBlocksHome q.blocks old.disk.cells → AreBlocksHome q.blocks new.disk.cells

-- the jobs of a caller that are out stay so, to be filled and filled
abbrev pub StaysOf : Who → WorldView → WorldView → Type 0
StaysOf who old new =
    ((p : JobOut) (job : JobView) → p.who ≡ who → IsJobOut old p job → IsJobOut new p job)
    × ((p : JobOut) (job : FilledView) → p.who ≡ who → IsFilledOut old p job → IsFilledOut new p job)

-- and the blocks of its jobs that are at home stay there
abbrev pub HomesOf : Who → WorldView → WorldView → Type 0
HomesOf who old new = (p : JobOut) → In p old.pending → p.who ≡ who → AreBlocksHome p.blocks old.disk.cells → AreBlocksHome p.blocks new.disk.cells

-- its own job stays out as it is, where the caller has the same and claimed nothing
abbrev pub KeepsOwn : Who → WorldView → WorldView → Type 0
KeepsOwn who old new = new.claims ≡ old.claims → jobs_of who new.pending ≡ jobs_of who old.pending → StaysOf who old new × HomesOf who old new

-- The lap is the same: the numbers of the log, its base, the words that its lines had when it began, whether they are out, and how many calls
-- had returned then.
pub record IsSameLap (old new : WorldView) : Type 0 where
  pub geometry : new.geometry ≡ old.geometry
  pub base : new.base ≡ old.base
  pub first : new.first ≡ old.first
  pub lines_out : new.lines_out ≡ old.lines_out
  pub settled : new.settled ≡ old.settled

-- ONE CALL OF A CALLER, within a round, that did not run out of memory: at most one item and one pair are added, both of the caller; its own
-- job began, ended or stayed, and what others have out stays; at most one job was given up; once the power was lost nothing returns, no call
-- more is unfinished, and blocks that are at home stay there; and the start, the scripts and the lap stay, a set-up that is done, the cause of
-- a round that is over, and a loss of the power. It is one act, or none, with at most 2^26 steps for the act.
pub record IsAct (who : Who) (old new : WorldView) (before after : Supply) : Type 0 where
  pub start : new.start ≡ old.start
  pub scripts : new.scripts ≡ old.scripts
  pub lap : IsSameLap old new
  pub item : AddsOne who old new
  pub pair : ClaimsOne who old new
  pub jobs : KeepsOthers who old new
  pub own : MovesOwn who old new
  pub own_stays : KeepsOwn who old new
  pub given_up : GivesUpOne who old new
  pub still : old.lost ≡ true → (new.history ≡ old.history) × (new.unfinished ≡ old.unfinished)
  pub homes : KeepsHomes who old new
  pub stay : OthersStay old new who
  pub set_up : (other : Who) → IsSetUp old.scripts old.history other → IsSetUp new.scripts new.history other
  pub over : (over : Over) → old.over ≡ Some over → new.over ≡ Some over
  pub lost : old.lost ≡ true → new.lost ≡ true
  pub usable : new.usable ≡ old.usable
  pub acts : (new.acts ≡ old.acts) ⊎ (new.acts ≡ old.acts + 1)
  pub steps : Steps (2 ^ 26 * (new.acts - old.acts)) before after

-- ---- what a caller is shown

-- WHAT A WORLD SHOWS A CALLER, each of which stays once it is so: whether its script has ended, what ended the round, whether the power was
-- lost, and whether the set-up is done.
pub record Last : Type 0 where
  pub ended : Bool
  pub over : Option Over
  pub lost : Bool
  pub set_up : Bool

abbrev pub shows : WorldView → Who → Last
shows w who = record {
  ended = is_none (next_of w who);
  over = w.over;
  lost = w.lost;
  set_up = length (items_of w.history Who.Setup) == length w.scripts.setup;
}

-- none of these keeps the caller from its next call; a job of another may
abbrev pub may_go_on : Who → Last → Bool
may_go_on who last = not last.ended && is_none last.over && not last.lost && (same_who who Who.Setup || last.set_up)
