-- Facts of lists by their places.
use Rattle.std.specs.Prelude.{◌≡◌, ◌<◌, ◌+◌, ℕ, zero, suc, List, [], ◌∷◌, ◌++◌, length, map, replicate, slice_get, slice_set, Some, refl}
use Rattle.std.specs.List.{enumerate_from}
use Rattle.std.proofs.Common.{arith, ap, ◌∙◌, inl, inr, length-append}
use Rattle.thread_laws.specs.world_view_laws.list_laws.Members.{slice_get-front, slice_get-last, slice_get-push}

-- what stands at a place of the first list stands there in the second
abbrev pub IsFront : {X : Type 0} → List X → List X → Type 0
IsFront {X} front whole = (j : ℕ) (x : X) → slice_get front j ≡ Some x → slice_get whole j ≡ Some x

-- ---- what `pop` leaves

pub popped_at : {X : Type 0} (xs ys : List X) (x : X) → xs ≡ ys ++ x ∷ [] → slice_get xs (length ys) ≡ Some x
popped_at xs ys x is = ap (λ zs. slice_get zs (length ys)) is ∙ slice_get-last ys x

pub popped_front : {X : Type 0} (xs ys : List X) (x : X) → xs ≡ ys ++ x ∷ [] → IsFront ys xs
popped_front xs ys x is j y at = ap (λ zs. slice_get zs j) is ∙ slice_get-front ys (x ∷ []) j y at

pub popped_length : {X : Type 0} (xs ys : List X) (x : X) → xs ≡ ys ++ x ∷ [] → length xs ≡ length ys + 1
popped_length xs ys x is = omega (arith, ap length is, length-append ys (x ∷ []))

-- ---- what maps and numbers have at a place

pub map_at : {X Y : Type 0} (g : X → Y) (xs : List X) (i : ℕ) (x : X) → slice_get xs i ≡ Some x → slice_get (map g xs) i ≡ Some (g x)
map_at g [] i x at = cc
map_at g (y ∷ xs) zero x at = let same : y ≡ x = cc in ap (λ z. Some (g z)) same
map_at g (y ∷ xs) (suc i) x at = map_at g xs i x at

pub enumerated_at : {X : Type 0} (a : ℕ) (xs : List X) (i : ℕ) (c : ℕ × X) → slice_get (enumerate_from a xs) i ≡ Some c → (c.0 ≡ a + i) × (slice_get xs i ≡ Some c.1)
enumerated_at {X} a [] i c at = cc
enumerated_at {X} a (x ∷ xs) zero c at =
    let same : (a, x) ≡ c = cc in (
      omega (arith, ap (λ (d : ℕ × X). d.0) same),
      ap (λ (d : ℕ × X). Some d.1) same,
    )
enumerated_at {X} a (x ∷ xs) (suc i) c at = let is = enumerated_at (a + 1) xs i c at in (omega (arith, is.0), is.1)

pub replicated_at : {X : Type 0} (n i : ℕ) (x y : X) → slice_get (replicate n x) i ≡ Some y → x ≡ y
replicated_at zero i x y at = cc
replicated_at (suc n) zero x y at = cc
replicated_at (suc n) (suc i) x y at = replicated_at n i x y at

-- a place below the length has something
pub some_at : {X : Type 0} (xs : List X) (i : ℕ) → i < length xs → (x : X) × (slice_get xs i ≡ Some x)
some_at [] i below = absurd (omega (arith, below))
some_at (x ∷ xs) zero below = (x, refl)
some_at (x ∷ xs) (suc i) below = some_at xs i (omega (arith, below))

-- what is in front, and what is last
pub front_at : {X : Type 0} (xs : List X) (x y : X) (i : ℕ) → i < length xs → slice_get (xs ++ x ∷ []) i ≡ Some y → slice_get xs i ≡ Some y
front_at xs x y i below at = elim (slice_get-push xs x i y at) [ inl is ↦ is | inr (last, is) ↦ absurd (omega (arith, last, below)) ]

pub empty_list : {X : Type 0} (xs : List X) → length xs ≡ 0 → xs ≡ []
empty_list [] is = refl
empty_list (x ∷ xs) is = absurd (omega (arith, is))

pub same_length : {X : Type 0} (xs : List X) (i : ℕ) (x : X) → length (slice_set xs i x) ≡ length xs
same_length [] i x = refl
same_length (y ∷ xs) zero x = refl
same_length (y ∷ xs) (suc i) x = ap suc (same_length xs i x)
