-- What blocks that were zeroed leave of the images.
use Rattle.std.specs.Prelude.{◌≡◌, ◌≢◌, ◌⊎◌, ◌<◌, ◌/◌, ℕ, zero, suc, true, List, [], ◌∷◌, length}
use Rattle.std.proofs.Common.{arith, ap, sym, subst, inl, inr}
use Rattle.std.proofs.lemmas.Bool.{cases_eq}
use Rattle.pm_lines.specs.pm_model.declared.Cell.{Cell}
use Rattle.pm_lines.specs.pm_model.declared.Cell.TheVariants.{Single}
use Rattle.pm_lines.specs.pm_model.CellLaws.{settled-single}
use Rattle.pm_lines.specs.pm_model.Cells.{cell, IsCandidate, is_single, Settles}
use Rattle.pm_lines.specs.pm_model.Frames.{KeepsSingle}
use Rattle.pm_lines.specs.pm_model.Images.{Follows}
use Rattle.k_split_model.specs.image_model.Placed.{AreSingle, block_at, IsOutside}
use Rattle.block_io.specs.Overwrites.{IsZeroed, SameBeside}
use Rattle.block_io.proofs.Before as written

-- one of the blocks is b, or none is
Among : List ℕ → ℕ → Type 0
Among blocks b = (k : ℕ) × (k < length blocks) × (block_at blocks k ≡ b)

is_among : (blocks : List ℕ) (b : ℕ) → Among blocks b ⊎ ¬ Among blocks b
unfolding Among
is_among [] b = inr (λ here. absurd (omega (arith, here.1)))
is_among (c ∷ blocks) b = elim (cases_eq c b) [
  | inl here ↦ inl (0, omega arith, here)
  | inr other ↦ elim (is_among blocks b) [
    | inl later ↦ inl (suc later.0, omega (arith, later.1), later.2)
    | inr none ↦ inr (λ here. behind here.0 here.1 here.2 other none)
  ]
] where
  behind : (k : ℕ) → k < length (c ∷ blocks) → block_at (c ∷ blocks) k ≡ b → c ≢ b → ¬ Among blocks b → ⊥
  behind zero below at other none = other at
  behind (suc k) below at other none = none (k, omega (arith, below), at)

module _ (blocks : List ℕ) (old new : List Cell) (single : AreSingle blocks old) (others : (i : ℕ) → IsOutside blocks i → Settles (cell old i) (cell new i)) where
  Written : ℕ → Type 0
  Written i = Among blocks (i / 512)

  outside : (i : ℕ) → ¬ Written i → IsOutside blocks i
  unfolding Written Among
  outside i off k below at = off (k, below, at)

  is_single_in : (i : ℕ) → Written i → is_single (cell old i) ≡ true
  unfolding Written Among
  is_single_in i here = single here.0 i here.1 (sym here.2)

  is_written : (i : ℕ) → Written i ⊎ ¬ Written i
  unfolding Written
  is_written i = is_among blocks (i / 512)

  unwritten : (i : ℕ) → ¬ Written i → Settles (cell old i) (cell new i)
  unwritten i off = others i (outside i off)

  pub zeroing : Follows (SameBeside blocks) old new
  unfolding Written Among
  zeroing image is = (
    written.before Written is_written old new is_single_in unwritten image,
    written.comes Written is_written old new is_single_in unwritten image is,
    λ i out. sym (written.before_off Written is_written old new is_single_in unwritten image i (λ here. out here.0 here.1 here.2)),
  )

  module _ (done : (k i : ℕ) → k < length blocks → i / 512 ≡ block_at blocks k → cell new i ≡ Single 0) where
    pub zeroed : Follows (IsZeroed blocks) old new
    zeroed image is =
        let same = zeroing image is in (
          same.0,
          same.1,
          record { zero = λ k i below at. subst (λ c. IsCandidate c (image i)) (done k i below at) (is i); others = same.2 },
        )

    pub kept : KeepsSingle old new
    unfolding Written Among
    kept i one = elim (is_written i) [
      | inl here ↦ ap is_single (done here.0 i here.1 (sym here.2))
      | inr off ↦ ap is_single (settled-single (cell old i) (cell new i) (unwritten i off) one)
    ]
