-- Lists by places: one element is another, one is added at the end, one is taken out.
use Rattle.std.specs.Prelude.{◌≡◌, ◌≢◌, ◌⊎◌, ◌<◌, ◌+◌, ℕ, zero, suc, List, [], ◌∷◌, ◌++◌, length, map, Option, Some, None, All, AllPairs, slice_get, slice_index_or, slice_set, sum_by, refl}
use Rattle.std.specs.List.{cons_option, filter_map, insert, remove}
use Rattle.std.proofs.Common.{arith, ap, ◌∙◌, sym, inl, inr}
use Rattle.std.proofs.lemmas.Bool.{cases_eq}
use Rattle.std.proofs.lemmas.List.Sums.{sum_by-append, sum_by-cons}
use Rattle.std.proofs.lemmas.Option.{same_Some, slice_get-get_or}
use Rattle.world_view_laws.specs.list_laws.Members.{In}

-- the place where an element stood
abbrev pub skip : ℕ → ℕ → ℕ
skip zero j = suc j
skip (suc i) zero = zero
skip (suc i) (suc j) = suc (skip i j)

pub skip_apart : (i j : ℕ) → skip i j ≢ i
skip_apart zero j same = omega (arith, same)
skip_apart (suc i) zero same = omega (arith, same)
skip_apart (suc i) (suc j) same = skip_apart i j (omega (arith, same))

pub skip_one : (i j k : ℕ) → skip i j ≡ skip i k → j ≡ k
skip_one zero j k same = omega (arith, same)
skip_one (suc i) zero zero same = refl
skip_one (suc i) zero (suc k) same = absurd (omega (arith, same))
skip_one (suc i) (suc j) zero same = absurd (omega (arith, same))
skip_one (suc i) (suc j) (suc k) same = ap suc (skip_one i j k (omega (arith, same)))

-- each place but that of the one that went stands behind the skip
pub skip_back : (i k : ℕ) → k ≢ i → (j : ℕ) × (skip i j ≡ k)
skip_back zero zero other = absurd (other refl)
skip_back zero (suc k) other = (k, refl)
skip_back (suc i) zero other = (zero, refl)
skip_back (suc i) (suc k) other = let behind = skip_back i k (λ same. other (ap suc same)) in (suc behind.0, ap suc behind.1)

module _ {X : Type 0} where
  -- ---- one is another

  pub set_here : (xs : List X) (i : ℕ) (y : X) → i < length xs → slice_get (slice_set xs i y) i ≡ Some y
  set_here [] i y below = absurd (omega (arith, below))
  set_here (x ∷ xs) zero y below = refl
  set_here (x ∷ xs) (suc i) y below = set_here xs i y (omega (arith, below))

  pub set_there : (xs : List X) (i j : ℕ) (y : X) → j ≢ i → slice_get (slice_set xs i y) j ≡ slice_get xs j
  set_there [] i j y other = refl
  set_there (x ∷ xs) zero zero y other = absurd (other refl)
  set_there (x ∷ xs) zero (suc j) y other = refl
  set_there (x ∷ xs) (suc i) zero y other = refl
  set_there (x ∷ xs) (suc i) (suc j) y other = set_there xs i j y (λ same. other (ap suc same))

  -- what stands at a place is the new one, or stood there before
  pub set_cases : (xs : List X) (i j : ℕ) (y z : X) → i < length xs → slice_get (slice_set xs i y) j ≡ Some z → ((j ≡ i) × (y ≡ z)) ⊎ ((j ≢ i) × (slice_get xs j ≡ Some z))
  set_cases xs i j y z below at = elim (cases_eq j i) [
    | inl same ↦ inl (same, same_Some y z (sym (set_here xs i y below) ∙ (ap (slice_get (slice_set xs i y)) (sym same) ∙ at)))
    | inr other ↦ inr (other, sym (set_there xs i j y other) ∙ at)
  ]

  pub set_count : (xs : List X) (i : ℕ) (y : X) → length (slice_set xs i y) ≡ length xs
  set_count [] i y = refl
  set_count (x ∷ xs) zero y = refl
  set_count (x ∷ xs) (suc i) y = omega (arith, set_count xs i y)

  -- ---- one is added at the end

  pub push_front : (xs : List X) (i : ℕ) (y : X) → i < length xs → slice_get (xs ++ y ∷ []) i ≡ slice_get xs i
  push_front [] i y below = absurd (omega (arith, below))
  push_front (x ∷ xs) zero y below = refl
  push_front (x ∷ xs) (suc i) y below = push_front xs i y (omega (arith, below))

  pub push_cases : (xs : List X) (i : ℕ) (y z : X) → slice_get (xs ++ y ∷ []) i ≡ Some z → (slice_get xs i ≡ Some z) ⊎ ((i ≡ length xs) × (y ≡ z))
  push_cases [] zero y z at = inr (refl, same_Some y z at)
  push_cases [] (suc i) y z at = cc
  push_cases (x ∷ xs) zero y z at = inl at
  push_cases (x ∷ xs) (suc i) y z at = elim (push_cases xs i y z at) [
    | inl is ↦ inl is
    | inr last ↦ inr (omega (arith, last.0), last.1)
  ]

  -- ---- one is taken out

  pub taken_at : (xs : List X) (i j : ℕ) → i < length xs → slice_get (remove xs i) j ≡ slice_get xs (skip i j)
  taken_at [] i j below = absurd (omega (arith, below))
  taken_at (x ∷ xs) zero j below = refl
  taken_at (x ∷ xs) (suc i) zero below = refl
  taken_at (x ∷ xs) (suc i) (suc j) below = taken_at xs i j (omega (arith, below))

  pub taken_count : (xs : List X) (i : ℕ) → i < length xs → length (remove xs i) + 1 ≡ length xs
  taken_count [] i below = absurd (omega (arith, below))
  taken_count (x ∷ xs) zero below = omega arith
  taken_count (x ∷ xs) (suc i) below = omega (arith, taken_count xs i (omega (arith, below)))

  -- and put back
  pub put_back : (xs : List X) (i : ℕ) (y : X) → i < length xs → insert (remove xs i) i y ≡ slice_set xs i y
  put_back [] i y below = absurd (omega (arith, below))
  put_back (x ∷ xs) zero y below = refl
  put_back (x ∷ xs) (suc i) y below = ap (λ ys. x ∷ ys) (put_back xs i y (omega (arith, below)))

  -- ---- all, and pairs

  pub place_there : (xs : List X) (i : ℕ) → i < length xs → (x : X) × (slice_get xs i ≡ Some x)
  place_there [] i below = absurd (omega (arith, below))
  place_there (x ∷ xs) zero below = (x, refl)
  place_there (x ∷ xs) (suc i) below = place_there xs i (omega (arith, below))

  pub all_at : (P : X → Type 0) (xs : List X) → ((i : ℕ) (x : X) → slice_get xs i ≡ Some x → P x) → All P xs
  all_at P xs each i d below = each i (slice_index_or xs i d) (slice_get-get_or xs i d below)

  pub pairs_at : (R : X → X → Type 0) (xs : List X) → ((i j : ℕ) (x y : X) → i < j → slice_get xs i ≡ Some x → slice_get xs j ≡ Some y → R x y) → AllPairs R xs
  pairs_at R xs each i j d before below =
      each i j (slice_index_or xs i d) (slice_index_or xs j d) before (slice_get-get_or xs i d (omega (arith, before, below))) (slice_get-get_or xs j d below)

  pub In_at : (xs : List X) (i : ℕ) (x : X) → slice_get xs i ≡ Some x → In x xs
  In_at [] i x at = cc
  In_at (y ∷ ys) zero x at = inl (same_Some y x at)
  In_at (y ∷ ys) (suc i) x at = inr (In_at ys i x at)

  pub at_In : (xs : List X) (x : X) → In x xs → (i : ℕ) × (slice_get xs i ≡ Some x)
  at_In [] x is = absurd is
  at_In (y ∷ ys) x (inl same) = (zero, ap Some same)
  at_In (y ∷ ys) x (inr rest) = let behind = at_In ys x rest in (suc behind.0, behind.1)

  -- ---- sums

  pub sum_set : (f : X → ℕ) (xs : List X) (i : ℕ) (x y : X) → slice_get xs i ≡ Some x → sum_by f (slice_set xs i y) + f x ≡ sum_by f xs + f y
  sum_set f [] i x y at = cc
  sum_set f (z ∷ zs) zero x y at = omega (arith, sum_by-cons f z zs, sum_by-cons f y zs, ap f (same_Some z x at))
  sum_set f (z ∷ zs) (suc i) x y at = omega (arith, sum_by-cons f z zs, sum_by-cons f z (slice_set zs i y), sum_set f zs i x y at)

  pub sum_taken : (f : X → ℕ) (xs : List X) (i : ℕ) (x : X) → slice_get xs i ≡ Some x → sum_by f (remove xs i) + f x ≡ sum_by f xs
  sum_taken f [] i x at = cc
  sum_taken f (z ∷ zs) zero x at = omega (arith, sum_by-cons f z zs, ap f (same_Some z x at))
  sum_taken f (z ∷ zs) (suc i) x at = omega (arith, sum_by-cons f z zs, sum_by-cons f z (remove zs i), sum_taken f zs i x at)

  pub sum_pushed : (f : X → ℕ) (xs : List X) (y : X) → sum_by f (xs ++ y ∷ []) ≡ sum_by f xs + f y
  sum_pushed f xs y = omega (arith, sum_by-append f xs (y ∷ []), sum_by-cons f y [])

-- what a map gives
pub map_at : {X Y : Type 0} (f : X → Y) (xs : List X) (i : ℕ) (y : Y) → slice_get (map f xs) i ≡ Some y → (x : X) × (slice_get xs i ≡ Some x) × (f x ≡ y)
map_at f [] i y at = cc
map_at f (x ∷ xs) zero y at = (x, refl, same_Some (f x) y at)
map_at f (x ∷ xs) (suc i) y at = map_at f xs i y at

module _ {X Y : Type 0} (f : X → Option Y) where
  -- ---- what a map gives of some of them

  pub some_set : (xs : List X) (i : ℕ) (x y : X) → slice_get xs i ≡ Some x → f y ≡ f x → filter_map f (slice_set xs i y) ≡ filter_map f xs
  some_set [] i x y at same = cc
  some_set (z ∷ zs) zero x y at same = ap (λ (o : Option Y). cons_option o (filter_map f zs)) (same ∙ ap f (sym (same_Some z x at)))
  some_set (z ∷ zs) (suc i) x y at same = ap (λ (ys : List Y). cons_option (f z) ys) (some_set zs i x y at same)

  one_more : (o : Option Y) (xs ys : List Y) → length xs ≡ length ys + 1 → length (cons_option o xs) ≡ length (cons_option o ys) + 1
  one_more None xs ys same = same
  one_more (Some v) xs ys same = omega (arith, same)

  with_none : (o : Option Y) (xs : List Y) → o ≡ None → cons_option o xs ≡ xs
  with_none None xs is = refl
  with_none (Some v) xs is = cc

  with_some : (o : Option Y) (xs : List Y) (v : Y) → o ≡ Some v → length (cons_option o xs) ≡ length xs + 1
  with_some None xs v is = cc
  with_some (Some w) xs v is = omega arith

  pub some_more : (xs : List X) (i : ℕ) (x y : X) (v : Y) → slice_get xs i ≡ Some x → f x ≡ None → f y ≡ Some v → length (filter_map f (slice_set xs i y)) ≡ length (filter_map f xs) + 1
  some_more [] i x y v at none some = cc
  some_more (z ∷ zs) zero x y v at none some =
      with_some (f y) (filter_map f zs) v some ∙ ap (λ (ys : List Y). length ys + 1) (sym (with_none (f z) (filter_map f zs) (ap f (same_Some z x at) ∙ none)))
  some_more (z ∷ zs) (suc i) x y v at none some = one_more (f z) (filter_map f (slice_set zs i y)) (filter_map f zs) (some_more zs i x y v at none some)

  pub none_taken : (xs : List X) (i : ℕ) (x : X) → slice_get xs i ≡ Some x → f x ≡ None → filter_map f (remove xs i) ≡ filter_map f xs
  none_taken [] i x at none = cc
  none_taken (z ∷ zs) zero x at none = sym (with_none (f z) (filter_map f zs) (ap f (same_Some z x at) ∙ none))
  none_taken (z ∷ zs) (suc i) x at none = ap (λ (ys : List Y). cons_option (f z) ys) (none_taken zs i x at none)

  pub some_taken : (xs : List X) (i : ℕ) (x : X) (v : Y) → slice_get xs i ≡ Some x → f x ≡ Some v → length (filter_map f (remove xs i)) + 1 ≡ length (filter_map f xs)
  some_taken [] i x v at some = cc
  some_taken (z ∷ zs) zero x v at some = sym (with_some (f z) (filter_map f zs) v (ap f (same_Some z x at) ∙ some))
  some_taken (z ∷ zs) (suc i) x v at some = sym (one_more (f z) (filter_map f zs) (filter_map f (remove zs i)) (sym (some_taken zs i x v at some)))

  pub none_pushed : (xs : List X) (y : X) → f y ≡ None → filter_map f (xs ++ y ∷ []) ≡ filter_map f xs
  none_pushed [] y none = with_none (f y) [] none
  none_pushed (z ∷ zs) y none = ap (λ (ys : List Y). cons_option (f z) ys) (none_pushed zs y none)
