-- What is so between two steps of a row: while the power is on, and once the World was told that it went.
use Rattle.std.specs.Prelude.{◌≡◌, ◌⊎◌, ◌<◌, ℕ, true, false, List, [], Some, Err, slice_get}
use Rattle.split_machine.specs.run_laws.oplog_entry.declared.claims.Full.{Full}
use Rattle.split_machine.specs.run_laws.pm_model.Powers.{Supply}
use Rattle.split_machine.specs.run_laws.list_laws.Members.{In}
use Rattle.split_machine.specs.run_laws.live_model.Standing.{JobOut}
use Rattle.split_machine.specs.run_laws.round_log.Rounds.{IsClaimed, RoundView}
use Rattle.split_machine.specs.run_laws.write_end.Blocks.{AreBlocksHome}
use Rattle.split_machine.specs.run_laws.world_view_laws.Begins.{IsFilledOut}
use Rattle.split_machine.specs.run_laws.world_view_laws.Jobs.{GivesUp, IsOfWorld, LosesFinish}
use Rattle.split_machine.specs.run_laws.world_view_laws.Views.{WorldView}
use Rattle.split_machine.specs.run_laws.declared.held.Held.{Held}
use Rattle.split_machine.specs.run_laws.declared.held.Work.{Work}
use Rattle.split_machine.specs.run_laws.EventsLaws.{IsHere}
use Rattle.split_machine.specs.run_laws.Between.{AreNextCalls, HaveOwnCallers, HaveOwnDrafts}
use Rattle.split_machine.specs.run_laws.Held.{IsLogOf, IsWorkOut, OutView}
use Rattle.split_machine.specs.Events.{IsUnderWay}

-- Each job that is held is one of the World, at a place of its own; and those of the World that are not held finished behind the loss, so
-- that their blocks are at home.
pub record AreStillHeld (w : WorldView) (jobs : List Held) : Type 0 where
  pub place : ℕ → ℕ
  pub apart : (i j : ℕ) → place i ≡ place j → i ≡ j
  pub each : (i : ℕ) (h : Held) → slice_get jobs i ≡ Some h → (p : JobOut) × (slice_get w.pending (place i) ≡ Some p) × (h.who ≡ p.who) × IsWorkOut w p h.work
  pub all : (p : JobOut) → In p w.pending → AreBlocksHome p.blocks w.disk.cells ⊎ ((h : Held) × In h jobs × IsWorkOut w p h.work)

-- THE WORLD WAS TOLD THAT THE POWER WENT, between two events. The log of the round is out, and each job that is held is as far as it came.
pub record IsAfterLoss (w : WorldView) (out : OutView) : Type 0 where
  pub usable : w.usable ≡ true
  pub lost : w.lost ≡ true
  pub none_unfinished : w.unfinished ≡ []
  pub log : RoundView
  pub log_is : out.log ≡ Some log
  pub log_of : IsLogOf w log out.jobs
  pub jobs : AreStillHeld w out.jobs
  pub next : AreNextCalls w
  pub callers : HaveOwnCallers w.pending
  pub drafts : HaveOwnDrafts w.pending

-- A MOMENT OF A ROW.
pub record IsAtMoment (w : WorldView) (out : OutView) (power : Supply) : Type 0 where
  pub on : w.lost ≡ false → IsUnderWay w out power
  pub off : w.lost ≡ true → IsAfterLoss w out

-- ---- what still comes of a job

-- Only a job that is durable in its slot finishes: one of this World, which goes on with its lines out.
abbrev pub MayFinish : WorldView → Work → Type 0
MayFinish w (Work.Persisted job slot) = (w.usable ≡ true) × (w.lines_out ≡ true) × IsOfWorld w job × (slot < w.geometry.log)
MayFinish w work = Unit {0}

-- IT FINISHED BEHIND THE LOSS.
abbrev pub LosesWork : WorldView → WorldView → Supply → Work → Type 0
LosesWork old new after (Work.Persisted job slot) = (p : JobOut) → IsFilledOut old p job → LosesFinish slot p old new after
LosesWork old new after work = ⊥

-- Only a filled job is given up, of this World.
abbrev pub MayGiveUp : WorldView → RoundView → Work → Type 0
MayGiveUp w log (Work.Filled job) = IsHere w log job
MayGiveUp w log work = Unit {0}

-- NO SLOT WAS LEFT FOR IT, AND IT WAS GIVEN UP.
abbrev pub GivesWork : WorldView → WorldView → RoundView → RoundView → Work → Type 0
GivesWork old new log same (Work.Filled job) = (full : Full) × IsClaimed log same (Err full) × ((p : JobOut) → IsFilledOut old p job → GivesUp full p old new)
GivesWork old new log same work = ⊥
