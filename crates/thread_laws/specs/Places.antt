-- Facts of lists, by places and by members, that the laws of views go by.
use Rattle.std.specs.Prelude.{◌≡◌, ◌≢◌, ◌⊎◌, ◌<◌, ◌≤◌, ◌+◌, ℕ, zero, suc, AllPairs, Contains, List, [], ◌∷◌, ◌++◌, drop, length, map, slice_get, slice_index_or, slice_set, Some, None, refl}
use Rattle.std.specs.List.{range_with_len}
use Rattle.std.proofs.Common.{arith, ap, ◌∙◌, sym, inl, inr}
use Rattle.std.proofs.lemmas.Option.{slice_get-get_or}
use Rattle.round_laws.specs.world_view_laws.list_laws.Members.{In}

-- ---- one place is changed

-- what stands there then, and at the others
pub set_at : {X : Type 0} (xs : List X) (i : ℕ) (v w : X) → slice_get xs i ≡ Some v → slice_get (slice_set xs i w) i ≡ Some w
set_at [] i v w at = cc
set_at (x ∷ xs) zero v w at = refl
set_at (x ∷ xs) (suc i) v w at = set_at xs i v w at

pub set_beside : {X : Type 0} (xs : List X) (i j : ℕ) (w u : X) → j ≢ i → slice_get xs j ≡ Some u → slice_get (slice_set xs i w) j ≡ Some u
set_beside [] i j w u apart at = cc
set_beside (x ∷ xs) zero zero w u apart at = absurd (apart refl)
set_beside (x ∷ xs) zero (suc j) w u apart at = at
set_beside (x ∷ xs) (suc i) zero w u apart at = at
set_beside (x ∷ xs) (suc i) (suc j) w u apart at = set_beside xs i j w u (λ e. apart (ap suc e)) at

-- what stands at a place is the new one, or was there
pub at_set : {X : Type 0} (xs : List X) (i j : ℕ) (w u : X) → slice_get (slice_set xs i w) j ≡ Some u → ((j ≡ i) × (w ≡ u)) ⊎ ((j ≢ i) × (slice_get xs j ≡ Some u))
at_set [] i j w u at = cc
at_set (x ∷ xs) zero zero w u at = inl (refl, cc)
at_set (x ∷ xs) zero (suc j) w u at = inr (λ e. omega (arith, e), at)
at_set (x ∷ xs) (suc i) zero w u at = inr (λ e. omega (arith, e), at)
at_set (x ∷ xs) (suc i) (suc j) w u at = elim (at_set xs i j w u at) [
  | inl is ↦ inl (ap suc is.0, is.1)
  | inr is ↦ inr (λ e. is.0 (omega (arith, e)), is.1)
]

-- two at one place are one
pub one_at : {X : Type 0} (xs : List X) (i : ℕ) (v u : X) → slice_get xs i ≡ Some v → slice_get xs i ≡ Some u → v ≡ u
one_at xs i v u at there = let same : Some v ≡ Some u = sym at ∙ there in cc

-- ---- members

pub In-front : {X : Type 0} (xs ys : List X) (x : X) → In x xs → In x (xs ++ ys)
In-front [] ys x is = absurd is
In-front (z ∷ xs) ys x (inl e) = inl e
In-front (z ∷ xs) ys x (inr is) = inr (In-front xs ys x is)

pub In-behind : {X : Type 0} (xs ys : List X) (x : X) → In x ys → In x (xs ++ ys)
In-behind [] ys x is = is
In-behind (z ∷ xs) ys x is = inr (In-behind xs ys x is)

pub append-In : {X : Type 0} (xs ys : List X) (x : X) → In x (xs ++ ys) → In x xs ⊎ In x ys
append-In [] ys x is = inr is
append-In (z ∷ xs) ys x (inl e) = inl (inl e)
append-In (z ∷ xs) ys x (inr is) = elim (append-In xs ys x is) [ inl front ↦ inl (inr front) | inr behind ↦ inr behind ]

pub In-Contains : {X : Type 0} (xs : List X) (x : X) → In x xs → Contains xs x
In-Contains [] x is = absurd is
In-Contains (y ∷ ys) x (inl e) = (0, omega arith, e)
In-Contains (y ∷ ys) x (inr is) = let k = In-Contains ys x is in (suc k.0, omega (arith, k.1), k.2)

pub Contains-In : {X : Type 0} (xs : List X) (x : X) → Contains xs x → In x xs
Contains-In [] x (k, below, is) = absurd (omega (arith, below))
Contains-In (y ∷ ys) x (zero, below, is) = inl is
Contains-In (y ∷ ys) x (suc k, below, is) = inr (Contains-In ys x (k, omega (arith, below), is))

-- ---- what is left behind so many

pub drop_front : {X : Type 0} (xs more : List X) → drop (length xs) (xs ++ more) ≡ more
drop_front [] more = refl
drop_front (x ∷ xs) more = drop_front xs more

pub drop_whole : {X : Type 0} (xs : List X) → drop (length xs) xs ≡ []
drop_whole [] = refl
drop_whole (x ∷ xs) = drop_whole xs

pub drop_more : {X : Type 0} (n : ℕ) (xs : List X) (x : X) → n ≤ length xs → drop n (xs ++ x ∷ []) ≡ drop n xs ++ x ∷ []
drop_more zero xs x within = refl
drop_more (suc n) [] x within = absurd (omega (arith, within))
drop_more (suc n) (y ∷ xs) x within = drop_more n xs x (omega (arith, within))

-- ---- what maps and ranges have at a place

pub mapped_at : {X Y : Type 0} (g : X → Y) (xs : List X) (i : ℕ) (y : Y) → slice_get (map g xs) i ≡ Some y → (x : X) × (slice_get xs i ≡ Some x) × (g x ≡ y)
mapped_at g [] i y at = cc
mapped_at g (x ∷ xs) zero y at = (x, refl, cc)
mapped_at g (x ∷ xs) (suc i) y at = mapped_at g xs i y at

pub ranged_at : (a n i k : ℕ) → slice_get (range_with_len a n) i ≡ Some k → (k ≡ a + i) × (i < n)
ranged_at a zero i k at = cc
ranged_at a (suc n) zero k at = let same : a ≡ k = cc in (omega (arith, same), omega arith)
ranged_at a (suc n) (suc i) k at = let is = ranged_at (a + 1) n i k at in (omega (arith, is.0), omega (arith, is.1))

-- what holds of each element and each later one, by their places
pub pairs_at : {X : Type 0} (R : X → X → Type 0) (xs : List X) → ((i j : ℕ) (x y : X) → i < j → slice_get xs i ≡ Some x → slice_get xs j ≡ Some y → R x y) → AllPairs R xs
pairs_at R xs each i j d before below =
    each i j (slice_index_or xs i d) (slice_index_or xs j d) before (slice_get-get_or xs i d (omega (arith, before, below))) (slice_get-get_or xs j d below)
