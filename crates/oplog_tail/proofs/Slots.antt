-- Lists of slots that are emptied one by one, and of seats.
use Rattle.std.proofs.Common.{◌≡◌, ◌≢◌, ℕ, zero, suc, ◌+◌, ◌<◌, ◌≤◌, Bool, true, false, List, [], ◌∷◌, ◌++◌, All, length, map, take, set, get_or, replicate, sym, refl, ap, ◌∙◌, subst, ⊎_elim, arith, get_or-set_other, get_or-set_same}
use Rattle.std.proofs.lemmas.Bool.{cases_eq}
use mathlib.Core.Option.{some, some-injective, some-ne-none}
use lib.ListN.{get_elem?}

module _ {A : Type 0} where
  pub within_of_at : (l : List A) (n : ℕ) (a : A) → get_elem? l n ≡ some a → n < length l
  within_of_at [] n a at = absurd (some-ne-none a (sym at))
  within_of_at (x ∷ xs) zero a at = omega arith
  within_of_at (x ∷ xs) (suc n) a at = omega (arith, within_of_at xs n a at)

  pub get_of_at : (l : List A) (n : ℕ) (a d : A) → get_elem? l n ≡ some a → get_or l n d ≡ a
  get_of_at [] n a d at = absurd (some-ne-none a (sym at))
  get_of_at (x ∷ xs) zero a d at = some-injective x a at
  get_of_at (x ∷ xs) (suc n) a d at = get_of_at xs n a d at

  pub All-at : (P : A → Type 0) (l : List A) (n : ℕ) (a : A) → All P l → get_elem? l n ≡ some a → P a
  All-at P l n a all at = subst P (get_of_at l n a a at) (all n a (within_of_at l n a at))

  pub replicate_push : (n : ℕ) (x : A) → replicate n x ++ x ∷ [] ≡ replicate (suc n) x
  replicate_push zero x = refl
  replicate_push (suc n) x = ap (λ (l : List A). x ∷ l) (replicate_push n x)

module _ {A B : Type 0} (f : A → B) where
  pub map_take_more : (l : List A) (n : ℕ) (a : A) → get_elem? l n ≡ some a → map f (take (suc n) l) ≡ map f (take n l) ++ f a ∷ []
  map_take_more [] n a at = absurd (some-ne-none a (sym at))
  map_take_more (x ∷ xs) zero a at = ap (λ (y : A). f y ∷ []) (some-injective x a at)
  map_take_more (x ∷ xs) (suc n) a at = ap (λ (l : List B). f x ∷ l) (map_take_more xs n a at)

-- one place more is empty
pub emptied : (fs : List Bool) (n : ℕ) → n < length fs → ((k : ℕ) → k < n → get_or fs k false ≡ false) → (k : ℕ) → k < n + 1 → get_or (set fs n false) k false ≡ false
emptied fs n within before k below = ⊎_elim
    (λ (e : k ≡ n). ap (λ (j : ℕ). get_or (set fs n false) j false) e ∙ get_or-set_same fs n false false within)
    (λ (other : k ≢ n). get_or-set_other fs n k false false other ∙ before k (omega (arith, below, other)))
    (cases_eq k n)

pub still_filled : (fs : List Bool) (n count : ℕ) → ((k : ℕ) → n ≤ k → k < count → get_or fs k false ≡ true) → (k : ℕ) → n + 1 ≤ k → k < count → get_or (set fs n false) k false ≡ true
still_filled fs n count filled k above below = get_or-set_other fs n k false false (λ e. absurd (omega (arith, above, e))) ∙ filled k (omega (arith, above)) below
