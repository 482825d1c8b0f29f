-- A plan with new maps is one that can be landed, and what its landing leaves.
use Rattle.std.proofs.Common.{◌≡◌, ℕ, ◌*◌, ◌/◌, ◌<◌, true, false, List, length, get_or, sym, ◌∙◌, subst, arith}
use Rattle.std.specs.Prelude.{All}
use Rattle.std.proofs.lemmas.Bool.Decides.{nat_tests}
use Rattle.block_io.specs.pm_model.declared.Cell.{Cell}
use Rattle.block_io.specs.pm_model.Cells.{cell, Settles}
use Rattle.block_io.specs.pm_model.Frames.{KeepsSingle, SameLent}
use Rattle.block_io.specs.pm_model.Images.{Follows}
use Rattle.block_io.specs.pm_model.Powers.{is_on, Supply}
use Rattle.block_io.specs.layout_model.Places.{Geometry, is_data_block}
use Rattle.block_io.specs.image_model.Placed.{AreInDevice, block_at}
use Rattle.block_io.specs.image_model.Volume.{Volume}
use Rattle.k_map_plans.specs.k_journal.Commits.{TakesAStep}
use Rattle.k_map_plans.specs.k_journal.declared.batches.Record.{Record}
use Rattle.k_map_plans.specs.k_plans.LandingLaws.{lines-new}
use Rattle.k_map_plans.specs.k_plans.Landings.{IsElsewhere}
use Rattle.k_map_plans.specs.k_plans.Maps.{MayWriteAll}
use Rattle.k_map_plans.specs.k_plans.LandingsPlans.{NewChain, Turns, blocks_of, new_at}
use Rattle.k_map_plans.specs.k_plans.WrittenLaws.{in_data-each}
use Rattle.k_tables.specs.k_split_model.Stands.{IsOldOrNew, Stands}
use Rattle.k_map_plans.specs.volume_change_laws.Switches.{unused-data}
use Rattle.k_map_plans.specs.volume_laws.Uses.{is_unused}
use Rattle.k_split.specs.MapChanges.{ChangesMaps, IsMapLandedDone, IsMapLandedLost, IsMapPlanned}

module _ (g : Geometry) (news : List NewChain) (v w : Volume) (b : List Record) (d : List Cell) (numbers : g ≡ w.geometry)
    (planned : IsMapPlanned news v w b d) where
  same : g ≡ v.geometry
  same = numbers ∙ planned.plan.geometry

  stands : Stands g v d
  stands = subst (λ h. Stands h v d) (sym same) planned.stands

  turns : Turns g news v w b
  turns = subst (λ h. Turns h news v w b) (sym same) planned.plan.turns

  in_data : All (λ k. is_data_block v.geometry k ≡ true) (blocks_of news)
  in_data k e below = unused-data v (get_or (blocks_of news) k e) (planned.plan.unused k e below)

  pub in-device : (k : ℕ) → k < length news → AreInDevice (length d) (new_at news k).blocks
  in-device k below j within =
      let inside = in_data-each v.geometry news k below in_data j 0 within in
      let size = planned.stands.size in
      inside-device v.geometry (block_at (new_at news k).blocks j) (length d) inside size
    where
      inside-device : (h : Geometry) (block size : ℕ) → is_data_block h block ≡ true → size ≡ 512 * h.blocks → block < size / 512
      inside-device h block size inside is =
          let high : block < h.blocks = grind (arith, nat_tests, inside) in
          omega (arith, high, is)

  pub may-write : MayWriteAll news d
  may-write = record {
    each = λ k below. record {
      count = planned.plan.counts k below;
      distinct = planned.plan.distinct k below;
      in_device = in-device k below;
      single = planned.single k below;
    };
    apart = planned.plan.apart;
  }

  changed : (e : List Cell) → length e ≡ length d → SameLent d e
      → ((x y : Volume) → Stands g x d → All (λ k. is_unused x k ≡ true) (blocks_of news) → Turns g news x y b → Follows (IsOldOrNew g (blocks_of news) x y) d e)
      → ((i : ℕ) → IsElsewhere b (blocks_of news) i → Settles (cell d i) (cell e i)) → ChangesMaps (blocks_of news) v w d e
  changed e size lent each_image others = record {
    size = size;
    lent = lent;
    each_image = subst (λ h. Follows (IsOldOrNew h (blocks_of news) v w) d e) same (each_image v w stands planned.plan.unused turns);
    others = λ i journal line outside. others i (record {
      journal = journal;
      lines = lines-new v.geometry b (i / 8) planned.plan.turns.lines line;
      outside = outside;
    });
  }

  pub map-landed : (e : List Cell) (p q : Supply) → length e ≡ length d → SameLent d e
      → ((x y : Volume) → Stands g x d → All (λ k. is_unused x k ≡ true) (blocks_of news) → Turns g news x y b → Follows (IsOldOrNew g (blocks_of news) x y) d e)
      → ((i : ℕ) → IsElsewhere b (blocks_of news) i → Settles (cell d i) (cell e i))
      → ((x y : Volume) → Stands g x d → All (λ k. is_unused x k ≡ true) (blocks_of news) → Turns g news x y b → Stands g y e)
      → KeepsSingle d e → is_on q ≡ true → (0 < length b → TakesAStep p q)
      → IsMapLandedDone (blocks_of news) v w d e p q
  map-landed e p q size lent each_image others done singles on took = record {
    changes = changed e size lent each_image others;
    stands = subst (λ h. Stands h w e) numbers (done v w stands planned.plan.unused turns);
    singles = singles;
    on = on;
    took = took planned.plan.some;
  }

  pub map-lost : (e : List Cell) (q : Supply) → length e ≡ length d → SameLent d e
      → ((x y : Volume) → Stands g x d → All (λ k. is_unused x k ≡ true) (blocks_of news) → Turns g news x y b → Follows (IsOldOrNew g (blocks_of news) x y) d e)
      → ((i : ℕ) → IsElsewhere b (blocks_of news) i → Settles (cell d i) (cell e i)) → is_on q ≡ false → IsMapLandedLost (blocks_of news) v w d e q
  map-lost e q size lent each_image others off = record { changes = changed e size lent each_image others; off = off }
