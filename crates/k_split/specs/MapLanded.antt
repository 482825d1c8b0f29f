-- A plan with new maps on the tables of a K-Split that was ready, and what is left where it joined.
use Rattle.std.specs.Prelude.{◌≡◌, ◌⊎◌, ◌||◌, ℕ, Bool, List, []}
use Rattle.block_io.specs.pm_model.declared.Cell.{Cell}
use Rattle.block_io.specs.pm_model.Frames.{KeepsSingle}
use Rattle.block_io.specs.image_model.Volume.{Volume}
use Rattle.k_group_commit.specs.Gathered.{IsJoining, IsOpen}
use Rattle.k_group_commit.specs.Joins.{Fits, Goes, IsBlocksCut}
use Rattle.k_map_plans.specs.block_pool.FreeSets.{is_among}
use Rattle.k_map_plans.specs.k_journal.Batch.{AreLaid}
use Rattle.k_map_plans.specs.k_journal.declared.batches.Record.{Record}
use Rattle.k_map_plans.specs.k_journal.declared.outcomes.Commit.{Commit}
use Rattle.k_map_plans.specs.k_plans.Free.{is_freed}
use Rattle.k_map_plans.specs.k_plans.LandingsPlans.{NewChain}
use Rattle.k_map_plans.specs.k_plans.Switching.{IsMapPlan}
use Rattle.k_map_plans.specs.k_plans.View.{TablesView}
use Rattle.k_split.specs.Order.{IsReady, IsUnstagedSingle}

-- A change with these new maps was planned, from the tables t to the tables p: it may be landed, and may join the changes that
-- gathered. Data blocks that no staging file has then stay single.
pub record IsMapPlanOn (t p : TablesView) (maps : List NewChain) (group b : List Record) (d : List Cell) (batched : Bool) : Type 0 where
  pub ready : IsReady t group [] d batched
  pub plan : IsMapPlan maps t.volume p.volume b
  pub joining : IsJoining t p maps b
  pub keeps : (e : List Cell) → KeepsSingle d e → IsUnstagedSingle p.volume e

-- A change for which these blocks were written joined the group a of a device at the volume v, where the blocks of the list waited.
pub record HasJoinedWith (blocks : List ℕ) (u v : Volume) (waiting : List ℕ) (t p h : TablesView) (a b c : List Record) (d e : List Cell) : Type 0 where
  pub opened : IsOpen v h c e
  pub waits : (x : ℕ) → is_among h.waiting x ≡ (is_among waiting x || is_freed t.volume p.volume x)
  pub laid : AreLaid a b c
  pub goes : Goes blocks u v d e
  pub singles : KeepsSingle d e

-- Either its lines fit beside those of the group, and it joined these; or they do not, and the group was committed before.
abbrev pub IsJoinedWith : List ℕ → Volume → TablesView → TablesView → TablesView → List Record → List Record → List Record → List Cell → List Cell
    → Commit → Type 0
IsJoinedWith blocks u t p h a b c d e Commit.Done =
    (Fits a b × HasJoinedWith blocks u u t.waiting t p h a b c d e) ⊎ ((Fits a b → ⊥) × HasJoinedWith blocks u t.volume [] t p h [] b c d e)
IsJoinedWith blocks u t p h a b c d e Commit.PowerLost = ((Fits a b → ⊥) × Goes [] u t.volume d e) ⊎ IsBlocksCut blocks u t a b d e
