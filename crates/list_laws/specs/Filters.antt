-- Filters: what passes two tests one after the other, a list with one more element, and tests that agree.
use Rattle.std.specs.Prelude.{◌≡◌, ◌⊎◌, ◌<◌, ◌≤◌, ◌+◌, ℕ, zero, suc, Bool, true, false, cond, ◌&&◌, List, [], ◌∷◌, ◌++◌, map, filter, Option, Some, None, refl}
use Rattle.std.specs.List.{cons_option, filter_map, range_with_len}
use Rattle.std.proofs.Common.{ap, ◌∙◌, sym, inl, inr, arith}
use Rattle.std.proofs.lemmas.Bool.{cases_eq}
use Rattle.list_laws.specs.Members.{In}

-- an element that passes stays, and what is left passes
pub In-filter : {X : Type 0} (p : X → Bool) (xs : List X) (x : X) → In x xs → p x ≡ true → In x (filter p xs)
In-filter p [] x is passes = absurd is
In-filter p (y ∷ ys) x is passes = by (p y) refl is (λ i. In-filter p ys x i passes)
  where
    by : (b : Bool) → p y ≡ b → (y ≡ x) ⊎ In x ys → (In x ys → In x (filter p ys)) → In x (cond b (y ∷ filter p ys) (filter p ys))
    by true e (inl same) rest = inl same
    by true e (inr i) rest = inr (rest i)
    by false e (inl same) rest = let never : true ≡ false = sym passes ∙ sym (ap p same) ∙ e in cc
    by false e (inr i) rest = rest i

pub filter-In : {X : Type 0} (p : X → Bool) (xs : List X) (x : X) → In x (filter p xs) → In x xs × (p x ≡ true)
filter-In p [] x is = absurd is
filter-In p (y ∷ ys) x is = by (p y) refl is (filter-In p ys x)
  where
    by : (b : Bool) → p y ≡ b → In x (cond b (y ∷ filter p ys) (filter p ys)) → (In x (filter p ys) → In x ys × (p x ≡ true)) → In x (y ∷ ys) × (p x ≡ true)
    by true e (inl same) rest = (inl same, ap p (sym same) ∙ e)
    by true e (inr i) rest = (inr (rest i).0, (rest i).1)
    by false e i rest = (inr (rest i).0, (rest i).1)

-- two tests at once, or one after the other
pub filter-both : {X : Type 0} (p q : X → Bool) (xs : List X) → filter (λ x. p x && q x) xs ≡ filter q (filter p xs)
filter-both p q [] = refl
filter-both p q (x ∷ xs) = by (p x) (q x) refl (filter-both p q xs)
  where
    by : (a b : Bool) → q x ≡ b → filter (λ y. p y && q y) xs ≡ filter q (filter p xs)
        → cond (a && b) (x ∷ filter (λ y. p y && q y) xs) (filter (λ y. p y && q y) xs) ≡ filter q (cond a (x ∷ filter p xs) (filter p xs))
    by true true e rest = ap (λ ys. x ∷ ys) rest ∙ sym (ap (λ (c : Bool). cond c (x ∷ filter q (filter p xs)) (filter q (filter p xs))) e)
    by true false e rest = rest ∙ sym (ap (λ (c : Bool). cond c (x ∷ filter q (filter p xs)) (filter q (filter p xs))) e)
    by false b e rest = rest

-- a list with one more element, which passes or does not
pub filter-more : {X : Type 0} (p : X → Bool) (xs : List X) (x : X) → p x ≡ true → filter p (xs ++ x ∷ []) ≡ filter p xs ++ x ∷ []
filter-more p [] x passes = ap (λ (c : Bool). cond c (x ∷ []) []) passes
filter-more p (y ∷ ys) x passes = by (p y) (filter-more p ys x passes)
  where
    by : (b : Bool) → filter p (ys ++ x ∷ []) ≡ filter p ys ++ x ∷ [] → cond b (y ∷ filter p (ys ++ x ∷ [])) (filter p (ys ++ x ∷ [])) ≡ cond b (y ∷ filter p ys) (filter p ys) ++ x ∷ []
    by true rest = ap (λ zs. y ∷ zs) rest
    by false rest = rest

pub filter-same : {X : Type 0} (p : X → Bool) (xs : List X) (x : X) → p x ≡ false → filter p (xs ++ x ∷ []) ≡ filter p xs
filter-same p [] x fails = ap (λ (c : Bool). cond c (x ∷ []) []) fails
filter-same p (y ∷ ys) x fails = by (p y) (filter-same p ys x fails)
  where
    by : (b : Bool) → filter p (ys ++ x ∷ []) ≡ filter p ys → cond b (y ∷ filter p (ys ++ x ∷ [])) (filter p (ys ++ x ∷ [])) ≡ cond b (y ∷ filter p ys) (filter p ys)
    by true rest = ap (λ zs. y ∷ zs) rest
    by false rest = rest

-- tests that agree on all members
pub filter-agree : {X : Type 0} (p q : X → Bool) (xs : List X) → ((x : X) → In x xs → p x ≡ q x) → filter p xs ≡ filter q xs
filter-agree p q [] agree = refl
filter-agree p q (x ∷ xs) agree =
    let rest = filter-agree p q xs (λ y i. agree y (inr i)) in
    ap (λ (c : Bool). cond c (x ∷ filter p xs) (filter p xs)) (agree x (inl refl)) ∙ ap (λ ys. cond (q x) (x ∷ ys) ys) rest

-- what maps make
pub In-map : {X Y : Type 0} (g : X → Y) (xs : List X) (x : X) → In x xs → In (g x) (map g xs)
In-map g [] x is = absurd is
In-map g (y ∷ ys) x (inl same) = inl (ap g same)
In-map g (y ∷ ys) x (inr i) = inr (In-map g ys x i)

pub map-In : {X Y : Type 0} (g : X → Y) (xs : List X) (y : Y) → In y (map g xs) → (x : X) × In x xs × (g x ≡ y)
map-In g [] y is = absurd is
map-In g (x ∷ xs) y (inl same) = (x, inl refl, same)
map-In g (x ∷ xs) y (inr i) = let behind = map-In g xs y i in (behind.0, inr behind.1, behind.2)

-- and filters that map
more_option : {Y : Type 0} (o : Option Y) (ys : List Y) (y : Y) → In y ys → In y (cons_option o ys)
more_option None ys y i = i
more_option (Some z) ys y i = inr i

first_option : {Y : Type 0} (o : Option Y) (ys : List Y) (y : Y) → o ≡ Some y → In y (cons_option o ys)
first_option None ys y e = cc
first_option (Some z) ys y e = inl cc

pub In-filter_map : {X Y : Type 0} (h : X → Option Y) (xs : List X) (x : X) (y : Y) → In x xs → h x ≡ Some y → In y (filter_map h xs)
In-filter_map h [] x y is gives = absurd is
In-filter_map h (z ∷ zs) x y (inl same) gives = first_option (h z) (filter_map h zs) y (ap h same ∙ gives)
In-filter_map h (z ∷ zs) x y (inr i) gives = more_option (h z) (filter_map h zs) y (In-filter_map h zs x y i gives)

pub filter_map-In : {X Y : Type 0} (h : X → Option Y) (xs : List X) (y : Y) → In y (filter_map h xs) → (x : X) × In x xs × (h x ≡ Some y)
filter_map-In h [] y is = absurd is
filter_map-In h (x ∷ xs) y is = by (h x) refl is (filter_map-In h xs y)
  where
    by : (o : Option _) → h x ≡ o → In y (cons_option o (filter_map h xs)) → (In y (filter_map h xs) → (z : _) × In z xs × (h z ≡ Some y)) → (z : _) × In z (x ∷ xs) × (h z ≡ Some y)
    by None e i rest = let behind = rest i in (behind.0, inr behind.1, behind.2)
    by (Some w) e (inl same) rest = (x, inl refl, e ∙ ap Some same)
    by (Some w) e (inr i) rest = let behind = rest i in (behind.0, inr behind.1, behind.2)

-- the numbers of a range
pub In-range : (a n k : ℕ) → a ≤ k → k < a + n → In k (range_with_len a n)
In-range a zero k least most = absurd (omega arith)
In-range a (suc n) k least most = elim (cases_eq a k) [
  | inl same ↦ inl same
  | inr other ↦ inr (In-range (a + 1) n k (omega arith) (omega arith))
]

pub range-In : (a n k : ℕ) → In k (range_with_len a n) → (a ≤ k) × (k < a + n)
range-In a zero k is = absurd is
range-In a (suc n) k (inl same) = (omega arith, omega arith)
range-In a (suc n) k (inr i) = let behind = range-In (a + 1) n k i in (omega (arith, behind.0), omega (arith, behind.1))
