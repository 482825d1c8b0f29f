-- Words on their way to zero, through a fence.
use Rattle.std.specs.Prelude.{◌≡◌, ℕ, Bool, true, false, List, if◌then◌else◌, refl}
use Rattle.std.proofs.Common.{◌∙◌, subst, sym, inl, inr}
use Rattle.pm_lines.specs.pm_model.declared.Cell.{Cell}
use Rattle.pm_lines.specs.pm_model.declared.Cell.TheVariants.{Single}
use Rattle.pm_lines.specs.pm_model.Cells.{cell, fenced}
use Rattle.block_io.specs.Overwrites.{AreGoingToZero, GoesToZero, IsInLines}

-- a fence comes, or none
pub going_fence : (on : Bool) (first count : ℕ) (old middle new : List Cell) → ((i : ℕ) → IsInLines first count i → GoesToZero (cell old i) (cell middle i))
    → (on ≡ true → (i : ℕ) → IsInLines first count i → fenced (cell middle i) ≡ Single 0) → ((i : ℕ) → cell new i ≡ (if on then fenced (cell middle i) else cell middle i))
    → AreGoingToZero first count old new
going_fence true first count old middle new going done last = inr (λ i here. last i ∙ done refl i here)
going_fence false first count old middle new going done last = inl (λ i here. subst (GoesToZero (cell old i)) (sym (last i)) (going i here))
