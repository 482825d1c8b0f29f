-- Lists after a write at a place, and lists without the first that passes.
use Rattle.std.specs.Prelude.{◌≡◌, ◌≢◌, ℕ, zero, suc, Bool, true, false, cond, List, [], ◌∷◌, ◌++◌, find, get_or, is_none, position, Option, Some, None, slice_get, slice_set, unwrap_or, refl}
use Rattle.std.specs.Option.{option_flatten}
use Rattle.std.proofs.Common.{ap, ◌∙◌, sym}
use Rattle.std.proofs.lemmas.List.Quantifiers.{position-Some}
use Rattle.std.proofs.lemmas.Option.{slice_get-get_or}
use Rattle.crash_spec.specs.posix_laws.posix_tables.Lookups.{without_first}

-- a place that is not written
pub slice_get-set_other : {X : Type 0} (xs : List X) (i j : ℕ) (y : X) → j ≢ i
    → slice_get (slice_set xs i y) j ≡ slice_get xs j
slice_get-set_other [] i j y other = refl
slice_get-set_other (x ∷ xs) zero zero y other = absurd (other refl)
slice_get-set_other (x ∷ xs) zero (suc j) y other = refl
slice_get-set_other (x ∷ xs) (suc i) zero y other = refl
slice_get-set_other (x ∷ xs) (suc i) (suc j) y other = slice_get-set_other xs i j y (λ e. other (ap suc e))

-- what a search found, and does not pass, it finds also without the first that passes
found_without : {X : Type 0} (b c : Bool) (y x : X) (o r : Option X) → (b ≡ true → y ≡ x → ⊥)
    → cond c (Some y) o ≡ Some x → (o ≡ Some x → r ≡ Some x)
    → cond b o (cond c (Some y) r) ≡ Some x
found_without true true y x o r other found rest = let same : y ≡ x = cc in absurd (other refl same)
found_without true false y x o r other found rest = found
found_without false true y x o r other found rest = found
found_without false false y x o r other found rest = rest found

find_cond : {X : Type 0} (q : X → Bool) (b : Bool) (y : X) (xs ys : List X)
    → find q (cond b xs (y ∷ ys)) ≡ cond b (find q xs) (cond (q y) (Some y) (find q ys))
find_cond q true y xs ys = refl
find_cond q false y xs ys = refl

pub find-without_first : {X : Type 0} (p q : X → Bool) (xs : List X) (x : X) → find q xs ≡ Some x → p x ≡ false
    → find q (without_first p xs) ≡ Some x
find-without_first p q [] x found other = found
find-without_first p q (y ∷ ys) x found other =
    find_cond q (p y) y ys (without_first p ys)
    ∙ found_without (p y) (q y) y x (find q ys) (find q (without_first p ys)) (λ is same. let never : true ≡ false = sym is ∙ ap p same ∙ other in cc) found (λ f. find-without_first p q ys x f other)

-- and what it did not find it does not find without it
none_without : {X : Type 0} (b c : Bool) (y : X) (o r : Option X) → cond c (Some y) o ≡ None → (o ≡ None → r ≡ None)
    → cond b o (cond c (Some y) r) ≡ None
none_without b true y o r none rest = cc
none_without true false y o r none rest = none
none_without false false y o r none rest = rest none

pub find-without_first-none : {X : Type 0} (p q : X → Bool) (xs : List X) → find q xs ≡ None
    → find q (without_first p xs) ≡ None
find-without_first-none p q [] none = none
find-without_first-none p q (y ∷ ys) none =
    find_cond q (p y) y ys (without_first p ys)
    ∙ none_without (p y) (q y) y (find q ys) (find q (without_first p ys)) none (λ f. find-without_first-none p q ys f)

-- a list with one more element, which does not pass
pub find-pushed : {X : Type 0} (p : X → Bool) (xs : List X) (x : X) → p x ≡ false → find p (xs ++ x ∷ []) ≡ find p xs
find-pushed p [] x other = ap (λ b. cond b (Some x) None) other
find-pushed p (y ∷ ys) x other = ap (λ o. cond (p y) (Some y) o) (find-pushed p ys x other)

-- the place of the first that is none
pub free_place : (xs : List (Option ℕ)) (o : Option ℕ) → position (λ slot. is_none slot) xs ≡ o → is_none o ≡ false
    → option_flatten (slice_get xs (unwrap_or o 0)) ≡ None
free_place xs None is some = cc
free_place xs (Some i) is some =
    let at = position-Some (λ slot. is_none slot) xs i None is in
    ap (λ (o : Option (Option ℕ)). option_flatten o) (slice_get-get_or xs i None at.0) ∙ none (get_or xs i None) at.1
  where
    none : (o : Option ℕ) → is_none o ≡ true → o ≡ None
    none None is_it = refl
    none (Some n) is_it = cc
