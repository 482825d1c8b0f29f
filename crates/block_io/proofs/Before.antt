-- The image before a change that writes some words, which had one candidate each.
use Rattle.std.specs.Prelude.{◌≡◌, ◌⊎◌, ℕ, true, List, refl}
use Rattle.std.proofs.Common.{subst, sym, inl, inr}
use Rattle.std.proofs.lemmas.Bool.{both_ways}
use Rattle.pm_lines.specs.pm_model.declared.Cell.{Cell}
use Rattle.pm_lines.specs.pm_model.CellLaws.{candidate-settles, newest-candidate, single-home}
use Rattle.pm_lines.specs.pm_model.Cells.{cell, IsCandidate, is_lent, is_single, newest, Settles}
use Rattle.pm_lines.specs.pm_model.Images.{ComesFrom, IsImage}
use Rattle.pm_lines.specs.pm_model.Words.{Words}

module _ (Written : ℕ → Type 0) (is_written : (i : ℕ) → Written i ⊎ ¬ Written i) (old new : List Cell)
    (single : (i : ℕ) → Written i → is_single (cell old i) ≡ true) (others : (i : ℕ) → ¬ Written i → Settles (cell old i) (cell new i)) where
  choose : (i : ℕ) → Written i ⊎ ¬ Written i → ℕ → ℕ
  choose i (inl here) x = newest (cell old i)
  choose i (inr off) x = x

  -- it has the old words where some are written, and else those of the image
  pub before : Words → Words
  before image i = choose i (is_written i) (image i)

  pub before_in : (image : Words) (i : ℕ) → Written i → before image i ≡ newest (cell old i)
  unfolding before choose
  before_in image i here = by (is_written i) where
    by : (t : Written i ⊎ ¬ Written i) → choose i t (image i) ≡ newest (cell old i)
    by (inl now) = refl
    by (inr off) = absurd (off here)

  pub before_off : (image : Words) (i : ℕ) → ¬ Written i → before image i ≡ image i
  unfolding before choose
  before_off image i off = by (is_written i) where
    by : (t : Written i ⊎ ¬ Written i) → choose i t (image i) ≡ image i
    by (inl here) = absurd (off here)
    by (inr now) = refl

  pub comes : (image : Words) → IsImage new image → ComesFrom old image (before image)
  comes image is = record {
    is_image = λ i. elim (is_written i) [
      | inl here ↦ subst (IsCandidate (cell old i)) (sym (before_in image i here)) (newest-candidate (cell old i))
      | inr off ↦ subst (IsCandidate (cell old i)) (sym (before_off image i off)) (candidate-settles (cell old i) (cell new i) (image i) (others i off) (is i))
    ];
    lent = λ i lent. elim (is_written i) [
      | inl here ↦ absurd (both_ways (is_lent (cell old i)) (single-home (cell old i) (single i here)) lent)
      | inr off ↦ before_off image i off
    ];
  }
