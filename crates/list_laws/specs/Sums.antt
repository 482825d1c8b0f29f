-- Sums over the views of a table, by places.
use Rattle.std.proofs.Common.{◌≡◌, ◌≢◌, ℕ, zero, suc, ◌+◌, ◌≤◌, List, [], ◌∷◌, ◌++◌, set, sym, refl, ap, arith, inl, inr}
use Rattle.std.specs.Prelude.{slice_get, slice_set, sum_by, Some}
use Rattle.std.proofs.lemmas.Bool.{cases_lt}
use Rattle.std.proofs.lemmas.List.Sums.{sum_by-cons, sum_by-append}
use mathlib.Core.Option.{some, some-injective, some-ne-none}
use lib.ListN.{get_elem?}

module _ {A : Type 0} where
  -- one term is changed
  pub sum_set : (f : A → ℕ) (l : List A) (i : ℕ) (v w : A) → get_elem? l i ≡ some v → sum_by f (set l i w) + f v ≡ sum_by f l + f w
  sum_set f [] i v w at = absurd (some-ne-none v (sym at))
  sum_set f (x ∷ xs) zero v w at = omega (arith, sum_by-cons f x xs, sum_by-cons f w xs, ap f (some-injective x v at))
  sum_set f (x ∷ xs) (suc i) v w at = omega (arith, sum_by-cons f x xs, sum_by-cons f x (set xs i w), sum_set f xs i v w at)

  -- a term is within the sum, and two are
  pub sum_at : (f : A → ℕ) (l : List A) (i : ℕ) (v : A) → get_elem? l i ≡ some v → f v ≤ sum_by f l
  sum_at f [] i v at = absurd (some-ne-none v (sym at))
  sum_at f (x ∷ xs) zero v at = omega (arith, sum_by-cons f x xs, ap f (some-injective x v at))
  sum_at f (x ∷ xs) (suc i) v at = omega (arith, sum_by-cons f x xs, sum_at f xs i v at)

  pub sum_two : (f : A → ℕ) (l : List A) (i j : ℕ) (v w : A) → i ≢ j → get_elem? l i ≡ some v → get_elem? l j ≡ some w → f v + f w ≤ sum_by f l
  sum_two f [] i j v w apart at there = absurd (some-ne-none v (sym at))
  sum_two f (x ∷ xs) zero zero v w apart at there = absurd (apart refl)
  sum_two f (x ∷ xs) zero (suc j) v w apart at there = omega (arith, sum_by-cons f x xs, ap f (some-injective x v at), sum_at f xs j w there)
  sum_two f (x ∷ xs) (suc i) zero v w apart at there = omega (arith, sum_by-cons f x xs, ap f (some-injective x w there), sum_at f xs i v at)
  sum_two f (x ∷ xs) (suc i) (suc j) v w apart at there = omega (arith, sum_by-cons f x xs, sum_two f xs i j v w (λ e. apart (ap suc e)) at there)

  -- a sum of nothing, and of one term alone
  pub sum_none : (f : A → ℕ) (l : List A) → ((j : ℕ) (w : A) → get_elem? l j ≡ some w → f w ≡ 0) → sum_by f l ≡ 0
  sum_none f [] none = refl
  sum_none f (x ∷ xs) none = omega (arith, sum_by-cons f x xs, none 0 x refl, sum_none f xs (λ j w at. none (suc j) w at))

  pub sum_one : (f : A → ℕ) (l : List A) (i : ℕ) (v : A) → get_elem? l i ≡ some v → ((j : ℕ) (w : A) → j ≢ i → get_elem? l j ≡ some w → f w ≡ 0) → sum_by f l ≡ f v
  sum_one f [] i v at none = absurd (some-ne-none v (sym at))
  sum_one f (x ∷ xs) zero v at none =
      omega (arith, sum_by-cons f x xs, ap f (some-injective x v at), sum_none f xs (λ j w there. none (suc j) w (λ e. omega arith) there))
  sum_one f (x ∷ xs) (suc i) v at none =
      let rest = sum_one f xs i v at (λ j w other there. none (suc j) w (λ e. other (omega arith)) there) in
      omega (arith, sum_by-cons f x xs, none 0 x (λ e. omega arith) refl, rest)

  -- a sum of smaller terms
  pub sum_le : (f g : A → ℕ) (l : List A) → ((j : ℕ) (v : A) → get_elem? l j ≡ some v → f v ≤ g v) → sum_by f l ≤ sum_by g l
  sum_le f g [] less = omega arith
  sum_le f g (x ∷ xs) less = omega (arith, sum_by-cons f x xs, sum_by-cons g x xs, less 0 x refl, sum_le f g xs (λ j v at. less (suc j) v at))

  -- one view is changed, and a new one comes behind
  pub sum_split : (f : A → ℕ) (l : List A) (i : ℕ) (v w u : A) → get_elem? l i ≡ some v → sum_by f (set l i w ++ u ∷ []) + f v ≡ sum_by f l + f w + f u
  sum_split f l i v w u at = omega (arith, sum_by-append f (set l i w) (u ∷ []), sum_by-cons f u [], sum_set f l i v w at)

-- ---- by places that a list may lack

module _ {A : Type 0} where
  -- one term is changed
  pub sum_at_place : (f : A → ℕ) (l : List A) (i : ℕ) (v w : A) → slice_get l i ≡ Some v → sum_by f (slice_set l i w) + f v ≡ sum_by f l + f w
  sum_at_place f [] i v w at = cc
  sum_at_place f (x ∷ xs) zero v w at = let same : x ≡ v = cc in omega (arith, sum_by-cons f x xs, sum_by-cons f w xs, ap f same)
  sum_at_place f (x ∷ xs) (suc i) v w at = omega (arith, sum_by-cons f x xs, sum_by-cons f x (slice_set xs i w), sum_at_place f xs i v w at)

  -- a term is within the sum
  pub term_within : (f : A → ℕ) (l : List A) (i : ℕ) (v : A) → slice_get l i ≡ Some v → f v ≤ sum_by f l
  term_within f [] i v at = cc
  term_within f (x ∷ xs) zero v at = let same : x ≡ v = cc in omega (arith, sum_by-cons f x xs, ap f same)
  term_within f (x ∷ xs) (suc i) v at = omega (arith, sum_by-cons f x xs, term_within f xs i v at)

  -- and a sum of something has a term of something
  pub some_of_sum : (f : A → ℕ) (l : List A) → 1 ≤ sum_by f l → (i : ℕ) × (v : A) × (slice_get l i ≡ Some v) × (1 ≤ f v)
  some_of_sum f [] much = absurd (omega (arith, much))
  some_of_sum f (x ∷ xs) much = elim (cases_lt 0 (f x)) [
    | inl one ↦ (0, x, refl, omega (arith, one))
    | inr none ↦ let rest = some_of_sum f xs (omega (arith, much, none, sum_by-cons f x xs)) in (suc rest.0, rest.1, rest.2, rest.3)
  ]
