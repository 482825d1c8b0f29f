-- A plan on the tables is one that can be landed, and what its landing leaves.
use Rattle.std.proofs.Common.{◌≡◌, ℕ, ◌+◌, ◌*◌, ◌/◌, ◌<◌, ◌≤◌, true, false, List, [], length, sym, ◌∙◌, subst, arith}
use Rattle.block_io.specs.pm_model.declared.Cell.{Cell}
use Rattle.block_io.specs.pm_model.Cells.{cell, Settles}
use Rattle.block_io.specs.pm_model.Frames.{KeepsSingle, SameLent}
use Rattle.block_io.specs.pm_model.ImageLaws.{IsImage-words_of}
use Rattle.block_io.specs.pm_model.Images.{Follows, words_of}
use Rattle.block_io.specs.pm_model.Powers.{is_on, Steps, Supply}
use Rattle.block_io.specs.layout_model.Journal.{journaled}
use Rattle.block_io.specs.layout_model.Places.{Geometry}
use Rattle.block_io.specs.image_model.Volume.{Volume}
use Rattle.k_map_plans.specs.k_journal.Commits.{MayCommit, TakesAStep}
use Rattle.k_map_plans.specs.k_journal.declared.batches.Record.{Record}
use Rattle.k_map_plans.specs.k_plans.LandingLaws.{lines-new, may-commit}
use Rattle.k_map_plans.specs.k_plans.Landings.{IsElsewhere}
use Rattle.k_map_plans.specs.k_plans.LandingsPlans.{Turns}
use Rattle.k_tables.specs.k_split_model.Stands.{IsOldOrNew, Stands}
use Rattle.k_split.specs.Answers.{Changes}
use Rattle.k_split.specs.Landed.{IsLandedDone, IsLandedLost, IsPlanned}

-- the volume of a plan has the numbers of the old one
pub same_geometry : (v w : Volume) (b : List Record) (d : List Cell) → IsPlanned v w b d → w.geometry ≡ v.geometry
same_geometry v w b d planned =
    (planned.turns.reads (journaled (words_of d)) (λ k below. absurd (omega arith)) (planned.stands.reads (words_of d) (IsImage-words_of d))).geometry

module _ (g : Geometry) (v w : Volume) (b : List Record) (d : List Cell) (numbers : g ≡ w.geometry) (planned : IsPlanned v w b d) where
  same : g ≡ v.geometry
  same = numbers ∙ same_geometry v w b d planned

  stands : Stands g v d
  stands = subst (λ h. Stands h v d) (sym same) planned.stands

  turns : Turns g [] v w b
  turns = subst (λ h. Turns h [] v w b) (sym same) planned.turns

  pub may-land : MayCommit g b d
  may-land = may-commit g [] v w b d stands turns

  changed : (e : List Cell) → length e ≡ length d → SameLent d e
      → ((x y : Volume) → Stands g x d → Turns g [] x y b → Follows (IsOldOrNew g [] x y) d e)
      → ((i : ℕ) → IsElsewhere b [] i → Settles (cell d i) (cell e i)) → Changes v w d e
  changed e size lent each_image others = record {
    size = size;
    lent = lent;
    each_image = subst (λ h. Follows (IsOldOrNew h [] v w) d e) same (each_image v w stands turns);
    others = λ i journal line. others i (record {
      journal = journal;
      lines = lines-new v.geometry b (i / 8) planned.turns.lines line;
      outside = λ k below at. absurd (omega arith);
    });
  }

  pub landed : (e : List Cell) (p q : Supply) → length e ≡ length d → SameLent d e
      → ((x y : Volume) → Stands g x d → Turns g [] x y b → Follows (IsOldOrNew g [] x y) d e)
      → ((i : ℕ) → IsElsewhere b [] i → Settles (cell d i) (cell e i))
      → ((x y : Volume) → Stands g x d → Turns g [] x y b → Stands g y e)
      → KeepsSingle d e → is_on q ≡ true → (0 < length b → TakesAStep p q)
      → IsLandedDone v w b d e p q
  landed e p q size lent each_image others done singles on took = record {
    changes = changed e size lent each_image others;
    stands = subst (λ h. Stands h w e) numbers (done v w stands turns);
    singles = singles;
    on = on;
    took = took;
  }

  pub landed-lost : (e : List Cell) (q : Supply) → length e ≡ length d → SameLent d e
      → ((x y : Volume) → Stands g x d → Turns g [] x y b → Follows (IsOldOrNew g [] x y) d e)
      → ((i : ℕ) → IsElsewhere b [] i → Settles (cell d i) (cell e i)) → is_on q ≡ false → IsLandedLost v w d e q
  landed-lost e q size lent each_image others off = record { changes = changed e size lent each_image others; off = off }

pub few-steps : (n : ℕ) (p q : Supply) → n ≤ 4 → Steps (32 * n + 16) p q → Steps 256 p q
few-steps n p q few steps = record { given = steps.given; on_before = steps.on_before; later = steps.later; bound = omega (arith, steps.bound, few) }
