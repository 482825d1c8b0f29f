-- Another log base, and all else as it was.
use Rattle.std.proofs.Common.{◌≡◌, ◌+◌, ◌<◌, ◌≤◌, ℕ, List, [], arith, length, refl, ap, subst, sym}
use Rattle.k_reading.specs.block_pool.FreeSets.{FreeSet}
use Rattle.k_tables.specs.image_model.Reading.{base_set}
use Rattle.k_tables.specs.image_model.Volume.{Volume}
use Rattle.volume_change_laws.specs.MapLaws.{base-keeps}
use Rattle.map_chain.specs.volume_laws.OwnerLaws.{owners-base}
use Rattle.k_journal.specs.declared.batches.Record.{Record}
use Rattle.k_plans.specs.PlanLaws.{turns-none}
use Rattle.k_plans.specs.LandingsPlans.{NewChain, Turns}
use Rattle.k_plans.specs.Free.{AreTables}
use Rattle.k_plans.specs.PlansPlans.{IsPlan}
use Rattle.k_plans.specs.View.{TablesView, with_volume}
use Rattle.k_plans.specs.Whole.{IsWhole}
use Rattle.k_plans.proofs.Wholes.{plan-from, tables-same}

base-whole : (base : ℕ) (v : Volume) → IsWhole v → IsWhole (base_set base v)
base-whole base v whole = record {
  kept = record {
    kept = base-keeps base v whole.kept.kept whole.kept.all;
    all = record { inode_count = whole.kept.all.inode_count; name_count = whole.kept.all.name_count };
    geometry = whole.kept.geometry;
  };
  maps = record { chain_count = whole.maps.chain_count; map_count = whole.maps.map_count };
  inodes = whole.inodes;
  chains = whole.chains;
}

module _ (t : TablesView) (base : ℕ) where
  pub base-tables : (pool held : FreeSet) → AreTables t pool held → AreTables (with_volume (base_set base t.volume) t) pool held
  base-tables pool held are = tables-same t (base_set base t.volume) pool held are (base-whole base t.volume are.whole) refl (λ b. owners-base t.volume base b)

  pub base-plan : (old : TablesView) (a b : List Record) → t ≡ old → IsWhole t.volume → a ≡ [] → 0 < length b → length b ≤ length a + 1
      → ((news : List NewChain) (v w : Volume) → Turns t.volume.geometry news v w a → Turns t.volume.geometry news v (base_set base w) b)
      → old.aside ≡ [] → IsPlan old (with_volume (base_set base t.volume) t) b
  base-plan old a b same whole empty some count turns idle =
      plan-from t old (with_volume (base_set base t.volume) t) (base_set base t.volume) b same refl
      (turns [] t.volume t.volume (subst (Turns t.volume.geometry [] t.volume t.volume) (sym empty) (turns-none t.volume.geometry [] t.volume)))
      some (omega (arith, count, ap length empty)) (λ ino least most. refl) (base-whole base t.volume whole)
      idle refl (λ k. owners-base t.volume base k)
