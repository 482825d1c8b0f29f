-- A plan on the tables, and what its landing leaves.
use Rattle.std.specs.Prelude.{◌≡◌, ◌<◌, ◌≤◌, Bool, true, false, List, [], length, Result, Ok, Err}
use Rattle.block_io.specs.pm_model.declared.Cell.{Cell}
use Rattle.block_io.specs.pm_model.Frames.{KeepsSingle}
use Rattle.block_io.specs.pm_model.Powers.{is_on, Supply}
use Rattle.block_io.specs.image_model.Volume.{Volume}
use Rattle.k_map_plans.specs.k_journal.Commits.{TakesAStep}
use Rattle.k_map_plans.specs.k_journal.declared.batches.Record.{Record}
use Rattle.k_group_commit.specs.Joins.{IsJoined}
use Rattle.k_group_commit.specs.PlanJoins.{KeepsData}
use Rattle.k_map_plans.specs.k_journal.declared.outcomes.Commit.{Commit}
use Rattle.k_map_plans.specs.k_plans.LandingsPlans.{NewChain, Turns}
use Rattle.k_map_plans.specs.k_plans.PlansPlans.{IsPlan}
use Rattle.k_map_plans.specs.k_plans.View.{TablesView}
use Rattle.k_tables.specs.k_split_model.Stands.{Stands}
use Rattle.k_split.specs.declared.faults.KFault.{KFault}
use Rattle.k_split.specs.Answers.{Changes}
use Rattle.k_split.specs.Order.{IsReady}

-- A change without new maps was planned, from the tables t to the tables p, on a K-Split that was ready.
pub record IsPlanOn (t p : TablesView) (group b : List Record) (d : List Cell) (batched : Bool) : Type 0 where
  pub ready : IsReady t group [] d batched
  pub plan : IsPlan t p b
  pub keeps : KeepsData t.volume p.volume

-- the batch turns the volume of the device into w, in four lines at most
pub record IsPlanned (v w : Volume) (b : List Record) (d : List Cell) : Type 0 where
  pub stands : Stands v.geometry v d
  pub turns : Turns v.geometry [] v w b
  pub most : length b ≤ 4

-- done: the device stands at w
pub record IsLandedDone (v w : Volume) (b : List Record) (old new : List Cell) (before after : Supply) : Type 0 where
  pub changes : Changes v w old new
  pub stands : Stands w.geometry w new
  pub singles : KeepsSingle old new
  pub on : is_on after ≡ true
  pub took : 0 < length b → TakesAStep before after

-- or the power went
pub record IsLandedLost (v w : Volume) (old new : List Cell) (after : Supply) : Type 0 where
  pub changes : Changes v w old new
  pub off : is_on after ≡ false

abbrev pub IsLanded : Volume → Volume → List Record → List Cell → List Cell → Supply → Supply → Result (Unit {0}) KFault → Type 0
IsLanded v w b old new before after (Ok done) = IsLandedDone v w b old new before after
IsLanded v w b old new before after (Err KFault.PowerLost) = IsLandedLost v w old new after
IsLanded v w b old new before after (Err (KFault.Refused errno)) = ⊥
IsLanded v w b old new before after (Err (KFault.Room room)) = ⊥
IsLanded v w b old new before after (Err KFault.NoMemory) = ⊥

-- Where changes gather it joined the group, or the power went in a commit of the group.
abbrev pub IsLandedJoin : Volume → TablesView → TablesView → TablesView → List NewChain → List Record → List Record → List Record → List Cell → List Cell
    → Supply → Result (Unit {0}) KFault → Type 0
IsLandedJoin u t p h maps a b c d e after (Ok done) = IsJoined u t p h maps a b c d e Commit.Done × (is_on after ≡ true)
IsLandedJoin u t p h maps a b c d e after (Err KFault.PowerLost) = IsJoined u t p h maps a b c d e Commit.PowerLost × (is_on after ≡ false)
IsLandedJoin u t p h maps a b c d e after (Err (KFault.Refused errno)) = ⊥
IsLandedJoin u t p h maps a b c d e after (Err (KFault.Room room)) = ⊥
IsLandedJoin u t p h maps a b c d e after (Err KFault.NoMemory) = ⊥
