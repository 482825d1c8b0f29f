-- The candidates of a cell through a flush and a fence, and the step that a fence takes.
use Rattle.std.specs.Prelude.{◌≡◌, ◌⊎◌, ◌<◌, ◌+◌, ℕ, Bool, true, false, Option, None, Some, if◌then◌else◌}
use Rattle.std.proofs.Common.{◌∙◌, ap, arith, subst, sym, inl, inr}
use Rattle.pm_lines.specs.pm_model.declared.Cell.{Cell}
use Rattle.pm_lines.specs.pm_model.declared.Cell.TheVariants.{Single, Two, Marked, Lent}
use Rattle.pm_lines.specs.pm_model.CellLaws.{candidate-fenced}
use Rattle.pm_lines.specs.pm_model.Cells.{fenced, flushed, Settles}
use Rattle.pm_lines.specs.pm_model.Powers.{is_left, is_on, stepped, Steps, Supply, taken_after}
use Rattle.block_io.specs.Puts.{HoldsEither}

either_flushed : (a t : ℕ) (c : Cell) → HoldsEither a t c → HoldsEither a t (flushed c)
either_flushed a t (Single x) is = is
either_flushed a t (Two x y) is = is
either_flushed a t (Marked x y) is = is
either_flushed a t Lent is = is

-- a flush adds no candidate
pub either_after : (a t : ℕ) (on : Bool) (c d : Cell) → d ≡ (if on then flushed c else c) → HoldsEither a t c → HoldsEither a t d
either_after a t true c d same is = subst (HoldsEither a t) (sym same) (either_flushed a t c is)
either_after a t false c d same is = subst (HoldsEither a t) (sym same) is

-- a cell that holds one value, which is one of the two
pub either_single : (a t x : ℕ) (c : Cell) → c ≡ Single x → (x ≡ a) ⊎ (x ≡ t) → HoldsEither a t c
either_single a t x c same is = subst (HoldsEither a t) (sym same) (λ y here. subst (λ z. (z ≡ a) ⊎ (z ≡ t)) (sym here) is)

either_of_fenced : (a t : ℕ) (c : Cell) → HoldsEither a t c → HoldsEither a t (fenced c)
either_of_fenced a t c is x here = is x (candidate-fenced c x here)

-- nor does a fence
pub either_fenced : (a t : ℕ) (on : Bool) (c d : Cell) → d ≡ (if on then fenced c else c) → HoldsEither a t c → HoldsEither a t d
either_fenced a t true c d same is = subst (HoldsEither a t) (sym same) (either_of_fenced a t c is)
either_fenced a t false c d same is = subst (HoldsEither a t) (sym same) is

-- a cell that was left alone until a fence
pub settled : (on : Bool) (c d e : Cell) → d ≡ c → e ≡ (if on then fenced d else d) → Settles c e
settled true c d e same last = inr (last ∙ ap fenced same)
settled false c d e same last = inl (last ∙ same)

-- a cell that was stored and flushed, after a fence
pub fence_done : (on : Bool) (t : ℕ) (c d : Cell) → on ≡ true → d ≡ (if on then fenced c else c) → fenced c ≡ Single t → d ≡ Single t
fence_done true t c d is same last = same ∙ last
fence_done false t c d is same last = cc

-- ---- a step is taken where one is left

taken_more : (given : Option ℕ) (taken n : ℕ) → is_left given taken ≡ true → given ≡ Some n → taken < taken_after given taken
taken_more None taken n on is = cc
taken_more (Some most) taken n on is = subst (λ (b : Bool). taken < (if b then taken + 1 else taken)) (sym on) (omega arith)

-- behind steps that were taken before it
pub took_last : (m n : ℕ) (p q r : Supply) → Steps m p q → Steps n q r → r ≡ stepped q → is_on r ≡ true → (given : ℕ) → p.given ≡ Some given → p.taken < r.taken
took_last m n p q r first last one on given some =
    let more : q.taken < r.taken = subst (λ (s : Supply). q.taken < s.taken) (sym one) (taken_more q.given q.taken given (last.on_before on) (first.given ∙ some)) in
    omega (arith, first.later, more)
