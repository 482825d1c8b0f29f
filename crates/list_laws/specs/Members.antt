-- Members of lists, and elements by their places.
use Rattle.std.specs.Prelude.{◌≡◌, ◌⊎◌, ℕ, zero, suc, ◌+◌, Bool, true, false, cond, List, [], ◌∷◌, ◌++◌, length, find, insert, Some, None, slice_get, refl}
use Rattle.std.proofs.Common.{arith, ap, ◌∙◌, sym, inl, inr}

-- x is an element of a list
abbrev pub In : {X : Type 0} → X → List X → Type 0
In x [] = ⊥
In x (y ∷ ys) = (y ≡ x) ⊎ In x ys

-- an element at a place is a member, and a member has a place
pub In-slice_get : {X : Type 0} (xs : List X) (n : ℕ) (x : X) → slice_get xs n ≡ Some x → In x xs
In-slice_get [] n x is = cc
In-slice_get (y ∷ ys) zero x is = inl cc
In-slice_get (y ∷ ys) (suc n) x is = inr (In-slice_get ys n x is)

pub slice_get-In : {X : Type 0} (xs : List X) (x : X) → In x xs → (n : ℕ) × (slice_get xs n ≡ Some x)
slice_get-In [] x is = absurd is
slice_get-In (y ∷ ys) x (inl e) = (0, ap Some e)
slice_get-In (y ∷ ys) x (inr i) = let behind = slice_get-In ys x i in (suc behind.0, behind.1)

-- what a search finds is a member that passes, and where it finds none, no member passes
pub find-In : {X : Type 0} (p : X → Bool) (xs : List X) (x : X) → find p xs ≡ Some x → In x xs × (p x ≡ true)
find-In p [] x found = cc
find-In p (y ∷ ys) x found = by (p y) refl found (find-In p ys x) where
  by : (b : Bool) → p y ≡ b → cond b (Some y) (find p ys) ≡ Some x → (find p ys ≡ Some x → In x ys × (p x ≡ true)) → In x (y ∷ ys) × (p x ≡ true)
  by true is it rest = let same : y ≡ x = cc in (inl same, ap p (sym same) ∙ is)
  by false is it rest = (inr (rest it).0, (rest it).1)

pub find-none : {X : Type 0} (p : X → Bool) (xs : List X) (x : X) → find p xs ≡ None → In x xs → p x ≡ true → ⊥
find-none p [] x none is passes = is
find-none p (y ∷ ys) x none is passes = by (p y) refl none is (find-none p ys x) where
  by : (b : Bool) → p y ≡ b → cond b (Some y) (find p ys) ≡ None → In x (y ∷ ys) → (find p ys ≡ None → In x ys → p x ≡ true → ⊥) → ⊥
  by true test it member rest = cc
  by false test it (inl same) rest = let never : true ≡ false = sym passes ∙ (ap p (sym same) ∙ test) in cc
  by false test it (inr behind) rest = rest it behind passes

-- the members of a list with one more
pub In-insert : {X : Type 0} (xs : List X) (i : ℕ) (x z : X) → In z (insert xs i x) → (x ≡ z) ⊎ In z xs
In-insert xs zero x z is = is
In-insert [] (suc i) x z is = is
In-insert (y ∷ ys) (suc i) x z (inl same) = inr (inl same)
In-insert (y ∷ ys) (suc i) x z (inr behind) = elim (In-insert ys i x z behind) [ inl e ↦ inl e | inr e ↦ inr (inr e) ]

pub insert-In : {X : Type 0} (xs : List X) (i : ℕ) (x z : X) → (x ≡ z) ⊎ In z xs → In z (insert xs i x)
insert-In xs zero x z is = is
insert-In [] (suc i) x z is = is
insert-In (y ∷ ys) (suc i) x z (inl new) = inr (insert-In ys i x z (inl new))
insert-In (y ∷ ys) (suc i) x z (inr (inl same)) = inl same
insert-In (y ∷ ys) (suc i) x z (inr (inr behind)) = inr (insert-In ys i x z (inr behind))

pub length-inserted : {X : Type 0} (xs : List X) (i : ℕ) (x : X) → length (insert xs i x) ≡ length xs + 1
length-inserted xs zero x = omega arith
length-inserted [] (suc i) x = refl
length-inserted (y ∷ ys) (suc i) x = omega (arith, length-inserted ys i x)

-- the elements of a list with one more at its end
pub slice_get-front : {X : Type 0} (xs ys : List X) (n : ℕ) (x : X) → slice_get xs n ≡ Some x → slice_get (xs ++ ys) n ≡ Some x
slice_get-front [] ys n x is = cc
slice_get-front (z ∷ zs) ys zero x is = is
slice_get-front (z ∷ zs) ys (suc n) x is = slice_get-front zs ys n x is

pub slice_get-last : {X : Type 0} (xs : List X) (x : X) → slice_get (xs ++ x ∷ []) (length xs) ≡ Some x
slice_get-last [] x = refl
slice_get-last (z ∷ zs) x = slice_get-last zs x

pub slice_get-push : {X : Type 0} (xs : List X) (x : X) (n : ℕ) (y : X) → slice_get (xs ++ x ∷ []) n ≡ Some y → (slice_get xs n ≡ Some y) ⊎ ((n ≡ length xs) × (x ≡ y))
slice_get-push [] x zero y is = inr (refl, cc)
slice_get-push [] x (suc n) y is = cc
slice_get-push (z ∷ zs) x zero y is = inl is
slice_get-push (z ∷ zs) x (suc n) y is = elim (slice_get-push zs x n y is) [ inl e ↦ inl e | inr e ↦ inr (ap suc e.0, e.1) ]

pub pushed-In : {X : Type 0} (xs : List X) (x z : X) → In z (xs ++ x ∷ []) → In z xs ⊎ (x ≡ z)
pushed-In [] x z (inl new) = inr new
pushed-In [] x z (inr none) = absurd none
pushed-In (y ∷ ys) x z (inl same) = inl (inl same)
pushed-In (y ∷ ys) x z (inr behind) = elim (pushed-In ys x z behind) [ inl old ↦ inl (inr old) | inr new ↦ inr new ]
