-- Numbers that are given out once, and how often a number stands in a list.
use Rattle.std.specs.Prelude.{◌==◌, nat_lt, if◌then◌else◌, Contains, count_by}
use Rattle.std.proofs.Common.{◌≡◌, ℕ, suc, ◌+◌, ◌<◌, ◌≤◌, Bool, true, false, cond, eqb, List, [], ◌∷◌, ◌++◌, refl, ap, arith}
use Rattle.std.proofs.lemmas.Bool.Decides.{nat_tests, Decides-eqb}
use Rattle.std.proofs.lemmas.List.Sums.{get_or-le-sum_by, sum_by-append, sum_by-cons}

-- 1 for each number below n, and 0 for the others
abbrev pub once_below : ℕ → ℕ → ℕ
once_below x n = if nat_lt x n then 1 else 0

-- how often the number x is that of an element
abbrev pub count_with : {A : Type 0} → (A → ℕ) → ℕ → List A → ℕ
count_with f x l = count_by (λ a. f a == x) l

-- whether a number is x, as a count
abbrev pub one_if : ℕ → ℕ → ℕ
one_if n x = cond (eqb n x) 1 0

pub one_if-same : (n : ℕ) → one_if n n ≡ 1
one_if-same n = grind (arith, nat_tests)

-- the numbers below one more
pub once_more : (x n : ℕ) → once_below x (n + 1) ≡ once_below x n + one_if n x
once_more x n = grind (arith, nat_tests)

pub once-le : (x n : ℕ) → once_below x n ≤ 1
once-le x n = grind (arith, nat_tests)

pub below_of_once : (x n : ℕ) → 1 ≤ once_below x n → x < n
below_of_once x n one = grind (arith, nat_tests)

pub once_of_below : (x n : ℕ) → x < n → once_below x n ≡ 1
once_of_below x n below = grind (arith, nat_tests)

pub once_past : (x n : ℕ) → n ≤ x → once_below x n ≡ 0
once_past x n past = grind (arith, nat_tests)

module _ {A : Type 0} (f : A → ℕ) where
  -- an element is counted at its number, and what is counted is the number of an element
  pub with_of_member : (l : List A) (a : A) → Contains l a → 1 ≤ count_with f (f a) l
  with_of_member l a has =
      let g : A → ℕ = λ b. one_if (f b) (f a) in
      omega (arith, get_or-le-sum_by g l has.0 a has.1, ap g has.2, one_if-same (f a))

  pub member_of_with : (l : List A) (x : ℕ) → 1 ≤ count_with f x l → (a : A) × Contains l a × (f a ≡ x)
  member_of_with [] x some = absurd (omega arith)
  member_of_with (b ∷ l) x some = by (eqb (f b) x) refl (member_of_with l x) where
    count : count_with f x (b ∷ l) ≡ one_if (f b) x + count_with f x l
    count = sum_by-cons (λ (a : A). one_if (f a) x) b l

    by : (t : Bool) → eqb (f b) x ≡ t → (1 ≤ count_with f x l → (a : A) × Contains l a × (f a ≡ x)) → (a : A) × Contains (b ∷ l) a × (f a ≡ x)
    by true is rest = (b, (0, omega arith, refl), (Decides-eqb (f b) x).0 is)
    by false is rest =
        let its = rest (omega (arith, count, ap {B = ℕ} (λ (t : Bool). cond t 1 0) is)) in
        let at = its.1 in
        (its.0, (suc at.0, omega (arith, at.1), at.2), its.2)

  pub count_with-append : (x : ℕ) (l m : List A) → count_with f x (l ++ m) ≡ count_with f x l + count_with f x m
  count_with-append x l m = sum_by-append (λ (a : A). one_if (f a) x) l m

  pub count_with-one : (x : ℕ) (a : A) → count_with f x (a ∷ []) ≡ one_if (f a) x
  count_with-one x a = omega arith
