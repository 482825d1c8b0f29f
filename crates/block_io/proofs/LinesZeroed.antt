-- What lines that were zeroed leave of the images.
use Rattle.std.specs.Prelude.{◌≡◌, ◌⊎◌, ◌+◌, ◌/◌, ℕ, true, List}
use Rattle.std.proofs.Common.{arith, ap, sym, subst, inl, inr}
use Rattle.std.proofs.lemmas.Bool.{cases_lt}
use Rattle.pm_lines.specs.pm_model.declared.Cell.{Cell}
use Rattle.pm_lines.specs.pm_model.declared.Cell.TheVariants.{Single}
use Rattle.pm_lines.specs.pm_model.CellLaws.{settled-single}
use Rattle.pm_lines.specs.pm_model.Cells.{cell, IsCandidate, is_single, Settles}
use Rattle.pm_lines.specs.pm_model.Frames.{KeepsSingle}
use Rattle.pm_lines.specs.pm_model.Images.{Follows}
use Rattle.block_io.specs.Overwrites.{AreLinesZeroed, IsInLines, MayZeroLines, SameBesideLines}
use Rattle.block_io.proofs.Before as written

pub is_in_lines : (first count i : ℕ) → IsInLines first count i ⊎ ¬ IsInLines first count i
is_in_lines first count i = elim (cases_lt (i / 8) first) [
  | inl before ↦ inr (λ here. (let from = here.from in omega (arith, before, from)))
  | inr from ↦ elim (cases_lt (i / 8) (first + count)) [
    | inl below ↦ inl (record { from = from; below = below })
    | inr past ↦ inr (λ here. (let below = here.below in omega (arith, past, below)))
  ]
]

module _ (first count : ℕ) (old new : List Cell) (may : MayZeroLines first count old) (others : (i : ℕ) → ¬ IsInLines first count i → Settles (cell old i) (cell new i)) where
  Written : ℕ → Type 0
  Written i = IsInLines first count i

  is_written : (i : ℕ) → Written i ⊎ ¬ Written i
  unfolding Written
  is_written i = is_in_lines first count i

  single : (i : ℕ) → Written i → is_single (cell old i) ≡ true
  unfolding Written
  single i here = may.single i here

  unwritten : (i : ℕ) → ¬ Written i → Settles (cell old i) (cell new i)
  unfolding Written
  unwritten i off = others i off

  pub zeroing_lines : Follows (SameBesideLines first count) old new
  unfolding Written
  zeroing_lines image is = (
    written.before Written is_written old new single unwritten image,
    written.comes Written is_written old new single unwritten image is,
    λ i out. sym (written.before_off Written is_written old new single unwritten image i out),
  )

  module _ (done : (i : ℕ) → IsInLines first count i → cell new i ≡ Single 0) where
    pub zeroed_lines : Follows (AreLinesZeroed first count) old new
    zeroed_lines image is =
        let same = zeroing_lines image is in (
          same.0,
          same.1,
          record { zero = λ i here. subst (λ c. IsCandidate c (image i)) (done i here) (is i); others = same.2 },
        )

    pub kept_lines : KeepsSingle old new
    unfolding Written
    kept_lines i one = elim (is_written i) [
      | inl here ↦ ap is_single (done i here)
      | inr off ↦ ap is_single (settled-single (cell old i) (cell new i) (unwritten i off) one)
    ]
