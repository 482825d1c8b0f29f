-- Lists of what a function gives numbers in a row, where two functions agree on them or differ at one of them; sums
-- of sums; and counts of what passes a test.
use Rattle.std.specs.Prelude.{◌≡◌, ◌≢◌, ◌⊎◌, ℕ, zero, suc, ◌+◌, ◌-◌, ◌<◌, ◌≤◌, ◌==◌, ◌&&◌, nat_le, nat_lt, min, List, [], ◌∷◌, ◌++◌, length, map, Bool, true, cond, sum_by, Option, refl}
use Rattle.std.specs.List.{filter_map, cons_option, flat_map, range_with_len, count_by}
use Rattle.std.proofs.Common.{arith, ap, sym, ◌∙◌, inl, inr, get_or}
use Rattle.std.proofs.Math.ListN.{set}
use Rattle.std.proofs.Math.Path.{fun_ext}
use Rattle.std.proofs.lemmas.Bool.{cases_Bool, cases_eq, cases_lt}
use Rattle.std.proofs.lemmas.Bool.Decides.{nat_tests}
use Rattle.std.proofs.lemmas.List.Sums.{sum_by-cons, sum_by-set}

-- functions that agree on the numbers give the same
pub map-agree : {X : Type 0} (f h : ℕ → X) (a n : ℕ) → ((k : ℕ) → a ≤ k → k < a + n → f k ≡ h k)
    → map f (range_with_len a n) ≡ map h (range_with_len a n)
map-agree f h a zero same = refl
map-agree f h a (suc n) same =
    let head = same a (omega arith) (omega arith) in
    let rest = map-agree f h (a + 1) n (λ k low high. same k (omega arith) (omega arith)) in
    λ i. head i ∷ rest i

pub filter_map-agree : {X : Type 0} (f h : ℕ → Option X) (a n : ℕ) → ((k : ℕ) → a ≤ k → k < a + n → f k ≡ h k)
    → filter_map f (range_with_len a n) ≡ filter_map h (range_with_len a n)
filter_map-agree f h a zero same = refl
filter_map-agree f h a (suc n) same =
    let head = same a (omega arith) (omega arith) in
    let rest = filter_map-agree f h (a + 1) n (λ k low high. same k (omega arith) (omega arith)) in
    λ i. cons_option (head i) (rest i)

pub flat_map-agree : {X : Type 0} (f h : ℕ → List X) (a n : ℕ) → ((k : ℕ) → a ≤ k → k < a + n → f k ≡ h k)
    → flat_map f (range_with_len a n) ≡ flat_map h (range_with_len a n)
flat_map-agree f h a zero same = refl
flat_map-agree f h a (suc n) same =
    let head = same a (omega arith) (omega arith) in
    let rest = flat_map-agree f h (a + 1) n (λ k low high. same k (omega arith) (omega arith)) in
    λ i. head i ++ rest i

pub sum_by-agree : (f h : ℕ → ℕ) (a n : ℕ) → ((k : ℕ) → a ≤ k → k < a + n → f k ≡ h k)
    → sum_by f (range_with_len a n) ≡ sum_by h (range_with_len a n)
sum_by-agree f h a zero same = refl
sum_by-agree f h a (suc n) same =
    omega (
      arith,
      sum_by-cons f a (range_with_len (a + 1) n),
      sum_by-cons h a (range_with_len (a + 1) n),
      same a (omega arith) (omega arith),
      sum_by-agree f h (a + 1) n (λ k low high. same k (omega arith) (omega arith)),
    )

pub count_by-agree : (f h : ℕ → Bool) (a n : ℕ) → ((k : ℕ) → a ≤ k → k < a + n → f k ≡ h k)
    → count_by f (range_with_len a n) ≡ count_by h (range_with_len a n)
count_by-agree f h a n same =
    sum_by-agree (λ k. cond (f k) 1 0) (λ k. cond (h k) 1 0) a n (λ k low high. ap (λ b. cond b 1 0) (same k low high))

-- the sum of functions that agree but at one number
pub sum_by-but_one : (f h : ℕ → ℕ) (a n at : ℕ) → a ≤ at → at < a + n → ((k : ℕ) → k ≢ at → f k ≡ h k)
    → sum_by f (range_with_len a n) + h at ≡ sum_by h (range_with_len a n) + f at
sum_by-but_one f h a zero at low high same = absurd (omega arith)
sum_by-but_one f h a (suc n) at low high same = elim (cases_eq a at) [
  | inl here ↦
      omega (
        arith,
        sum_by-cons f a (range_with_len (a + 1) n),
        sum_by-cons h a (range_with_len (a + 1) n),
        ap f here,
        ap h here,
        sum_by-agree f h (a + 1) n (λ k above below. same k (omega arith)),
      )
  | inr apart ↦
      omega (
        arith,
        sum_by-cons f a (range_with_len (a + 1) n),
        sum_by-cons h a (range_with_len (a + 1) n),
        same a apart,
        sum_by-but_one f h (a + 1) n at (omega arith) (omega arith) same,
      )
]

-- what a number in the row adds is in the sum
pub at-le-sum_by : (f : ℕ → ℕ) (a n at : ℕ) → a ≤ at → at < a + n → f at ≤ sum_by f (range_with_len a n)
at-le-sum_by f a zero at low high = absurd (omega arith)
at-le-sum_by f a (suc n) at low high = elim (cases_eq a at) [
  | inl here ↦ omega (arith, sum_by-cons f a (range_with_len (a + 1) n), ap f here)
  | inr apart ↦ omega (arith, sum_by-cons f a (range_with_len (a + 1) n), at-le-sum_by f (a + 1) n at (omega arith) (omega arith))
]

-- so are those of two numbers
pub two-le-sum_by : (f : ℕ → ℕ) (a n i j : ℕ) → a ≤ i → i < j → j < a + n → f i + f j ≤ sum_by f (range_with_len a n)
two-le-sum_by f a zero i j low between high = absurd (omega arith)
two-le-sum_by f a (suc n) i j low between high = elim (cases_eq a i) [
  | inl here ↦ omega (arith, sum_by-cons f a (range_with_len (a + 1) n), ap f here, at-le-sum_by f (a + 1) n j (omega arith) (omega arith))
  | inr apart ↦ omega (arith, sum_by-cons f a (range_with_len (a + 1) n), two-le-sum_by f (a + 1) n i j (omega arith) between (omega arith))
]

-- ---- sums of sums, and counts

sum_by-none : {X : Type 0} (xs : List X) → sum_by (λ x. 0) xs ≡ 0
sum_by-none [] = refl
sum_by-none {X} (x ∷ xs) = omega (arith, sum_by-cons (λ (y : X). 0) x xs, sum_by-none xs)

pub sum_by-add : {X : Type 0} (f h : X → ℕ) (xs : List X) → sum_by (λ x. f x + h x) xs ≡ sum_by f xs + sum_by h xs
sum_by-add f h [] = refl
sum_by-add f h (x ∷ xs) =
    omega (arith, sum_by-cons (λ y. f y + h y) x xs, sum_by-cons f x xs, sum_by-cons h x xs, sum_by-add f h xs)

-- the sum of sums may be taken either way round
pub sum_by-swap : {X Y : Type 0} (f : X → Y → ℕ) (xs : List X) (ys : List Y)
    → sum_by (λ x. sum_by (f x) ys) xs ≡ sum_by (λ y. sum_by (λ x. f x y) xs) ys
sum_by-swap f [] ys = sym (sum_by-none ys)
sum_by-swap f (x ∷ xs) ys =
    omega (
      arith,
      sum_by-cons (λ z. sum_by (f z) ys) x xs,
      sum_by-swap f xs ys,
      ap (λ g. sum_by g ys) (fun_ext (λ y. sum_by-cons (λ z. f z y) x xs)),
      sum_by-add (f x) (λ y. sum_by (λ z. f z y) xs) ys,
    )

-- how many of n numbers from a on lie among `count` from `first` on
abbrev pub one_if : Bool → ℕ
one_if b = cond b 1 0

overlap : (first count a n : ℕ)
    → sum_by (λ b. one_if (nat_le first b && nat_lt b (first + count))) (range_with_len a n) ≡ min (a + n) (first + count) - (a + (first - a))
overlap first count a zero = omega arith
overlap first count a (suc n) = elim (cases_Bool (nat_le first a && nat_lt a (first + count))) [
  | inl inside ↦
      let low : first ≤ a = grind (arith, nat_tests, inside) in
      let high : a < first + count = grind (arith, nat_tests, inside) in
      omega (
        arith,
        sum_by-cons (λ b. one_if (nat_le first b && nat_lt b (first + count))) a (range_with_len (a + 1) n),
        overlap first count (a + 1) n,
        ap one_if inside,
      )
  | inr outside ↦ elim (cases_lt a first) [
    | inl before ↦ omega (arith, sum_by-cons (λ b. one_if (nat_le first b && nat_lt b (first + count))) a (range_with_len (a + 1) n), overlap first count (a + 1) n, ap one_if outside)
    | inr behind ↦
        let past : first + count ≤ a = grind (arith, nat_tests, outside) in
        omega (
          arith,
          sum_by-cons (λ b. one_if (nat_le first b && nat_lt b (first + count))) a (range_with_len (a + 1) n),
          overlap first count (a + 1) n,
          ap one_if outside,
        )
  ]
]

-- a range counts its numbers, where all of them are among those counted
pub count_by-range : (first count a n : ℕ) → a ≤ first → first + count ≤ a + n
    → count_by (λ b. nat_le first b && nat_lt b (first + count)) (range_with_len a n) ≡ count
count_by-range first count a n low high = omega (arith, overlap first count a n)

-- so does one number
pub count_by-one : (at a n : ℕ) → a ≤ at → at < a + n → count_by (λ b. at == b) (range_with_len a n) ≡ 1
count_by-one at a n low high =
    count_by-agree (λ b. at == b) (λ b. nat_le at b && nat_lt b (at + 1)) a n (λ b above below. by b (cases_eq at b))
    ∙ count_by-range at 1 a n low (omega arith)
  where
    by : (b : ℕ) → (at ≡ b) ⊎ (at ≡ b → ⊥) → (at == b) ≡ (nat_le at b && nat_lt b (at + 1))
    by b (inl same) = grind (arith, nat_tests)
    by b (inr apart) = grind (arith, nat_tests)

-- elements of a list that pass are counted, one or two of them
pub count_by-at : {X : Type 0} (p : X → Bool) (xs : List X) (i : ℕ) (d : X) → i < length xs → p (get_or xs i d) ≡ true
    → 1 ≤ count_by p xs
count_by-at p [] i d below pass = absurd (omega arith)
count_by-at p (x ∷ xs) zero d below pass = omega (arith, sum_by-cons (λ y. one_if (p y)) x xs, ap one_if pass)
count_by-at p (x ∷ xs) (suc i) d below pass =
    omega (arith, sum_by-cons (λ y. one_if (p y)) x xs, count_by-at p xs i d (omega arith) pass)

pub count_by-two : {X : Type 0} (p : X → Bool) (xs : List X) (i j : ℕ) (d : X) → i < j → j < length xs
    → p (get_or xs i d) ≡ true → p (get_or xs j d) ≡ true → 2 ≤ count_by p xs
count_by-two p [] i j d before below first second = absurd (omega arith)
count_by-two p (x ∷ xs) i zero d before below first second = absurd (omega arith)
count_by-two p (x ∷ xs) zero (suc j) d before below first second =
    omega (arith, sum_by-cons (λ y. one_if (p y)) x xs, ap one_if first, count_by-at p xs j d (omega arith) second)
count_by-two p (x ∷ xs) (suc i) (suc j) d before below first second =
    omega (arith, sum_by-cons (λ y. one_if (p y)) x xs, count_by-two p xs i j d (omega arith) (omega arith) first second)

-- where something is counted, some element passes
pub count_by-some : {X : Type 0} (p : X → Bool) (xs : List X) (d : X) → 1 ≤ count_by p xs
    → (i : ℕ) × (i < length xs) × (p (get_or xs i d) ≡ true)
count_by-some p [] d some = absurd (omega arith)
count_by-some p (x ∷ xs) d some = elim (cases_Bool (p x)) [
  | inl pass ↦ (0, omega arith, pass)
  | inr fail ↦
      let rest : (i : ℕ) × (i < length xs) × (p (get_or xs i d) ≡ true) = count_by-some p xs d (omega (arith, sum_by-cons (λ y. one_if (p y)) x xs, ap one_if fail)) in
      (suc rest.0, omega (arith, rest.1), rest.2)
]

-- one element that is set counts as it passes, and the one before no longer
pub count_by-set : {X : Type 0} (p : X → Bool) (xs : List X) (i : ℕ) (y d : X) → i < length xs
    → count_by p (set xs i y) + one_if (p (get_or xs i d)) ≡ count_by p xs + one_if (p y)
count_by-set p xs i y d below = sum_by-set (λ x. one_if (p x)) xs i y d below
