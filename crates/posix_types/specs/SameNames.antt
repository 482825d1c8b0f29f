-- Tests that are true exactly of equal texts and of equal lists of names.
use Rattle.std.specs.Prelude.{◌≡◌, ℕ, Bool, true, false, List, nat_eq, IsTrue, refl}
use Rattle.std.specs.Cmp.{IsEquivalence}
use Rattle.std.specs.Cmp.Lexicographic.{pointwise, pointwise_decides, bytes_decides}
use Rattle.std.proofs.Common.{sym, ◌∙◌, ap}

abbrev pub same_bytes : List ℕ → List ℕ → Bool
same_bytes = pointwise nat_eq

abbrev pub same_names : List (List ℕ) → List (List ℕ) → Bool
same_names = pointwise same_bytes

-- a test is true exactly of equal values
abbrev pub DecidesEqual : {A : Type 0} → (A → A → Bool) → Type 0
DecidesEqual {A} same = (a b : A) → (same a b ≡ true → a ≡ b) × (a ≡ b → same a b ≡ true)

pub names_decide : DecidesEqual same_names
names_decide = pointwise_decides bytes_decides

-- such a test is an equivalence
symmetric : (a b : Bool) → (a ≡ true → b ≡ true) → (b ≡ true → a ≡ true) → a ≡ b
symmetric true b onward back = sym (onward refl)
symmetric false true onward back = back refl
symmetric false false onward back = refl

pub equivalence : {A : Type 0} {same : A → A → Bool} → DecidesEqual same → IsEquivalence same
equivalence {A} {same} d = record {
  refl = λ x. (d x x).1 refl;
  symm = λ x y. symmetric (same x y) (same y x) (λ e. (d y x).1 (sym ((d x y).0 e))) (λ e. (d x y).1 (sym ((d y x).0 e)));
  congr = λ x y z e. ap (λ w. same w z) ((d x y).0 e);
}

-- what the answer of such a test has told
pub told : {A : Type 0} {same : A → A → Bool} → DecidesEqual same → (a b : A) (r : Bool) → r ≡ same a b → (IsTrue r → a ≡ b) × (a ≡ b → IsTrue r)
told d a b r is = (λ so. (d a b).0 (sym is ∙ so), λ e. is ∙ (d a b).1 e)
