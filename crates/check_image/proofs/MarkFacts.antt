-- Marks that are counted up, one use after the other.
use Rattle.std.proofs.Common.{◌≡◌, ℕ, ◌<◌, List, length, get_or, ◌∙◌, ap, arith, replicate}
use Rattle.std.specs.Prelude.{min}
use Rattle.std.proofs.lemmas.List.{get_or-replicate, length-replicate}
use Rattle.check_image.specs.Marks.{AreMarks}

-- the same uses, told otherwise
pub marks-agree : (marks : List ℕ) (x y : ℕ → ℕ) → ((i : ℕ) → i < length marks → x i ≡ y i) → AreMarks marks x → AreMarks marks y
marks-agree marks x y same are = record { each = λ i below. are.each i below ∙ ap (min 2) (same i below) }

-- no uses
pub marks-none : (marks : List ℕ) (n : ℕ) → marks ≡ replicate n 0 → AreMarks marks (λ i. 0)
marks-none marks n is = record {
  each = λ i below. ap (λ l. get_or l i 0) is ∙ get_or-replicate n i 0 0 (omega (arith, below, ap length is, length-replicate {A = ℕ} n 0));
}
