-- The last element of a list that passes, and the elements that pass.
use Rattle.std.proofs.Common.{arith, ap, subst, sym, ◌∙◌, ◌≡◌, ◌≤◌, ◌<◌, ℕ, suc, Bool, true, false, cond, List, [], ◌∷◌, All, AllPairs, find, reverse, Option, Some, None, refl}
use Rattle.std.specs.Option.{option_or}
use Rattle.std.proofs.lemmas.List.Elements.{All-nil, All-cons, All-head, All-tail}
use Rattle.std.proofs.lemmas.List.{reverse-append}
use Rattle.std.proofs.lemmas.List.Folds.{find-append}

module _ {X : Type 0} (p : X → Bool) where
  -- the last of those behind the first, else the first
  last-cons : (x : X) (xs : List X) → find p (reverse (x ∷ xs)) ≡ option_or (find p (reverse xs)) (cond (p x) (Some x) None)
  last-cons x xs = ap (find p) (reverse-append (x ∷ []) xs) ∙ find-append p (reverse xs) (x ∷ [])

  pub last-none : (xs : List X) → find p (reverse xs) ≡ None → All (λ x. p x ≡ false) xs
  last-none [] none = All-nil (λ x. p x ≡ false)
  last-none (x ∷ xs) none = by (find p (reverse xs)) (p x) refl refl (sym (last-cons x xs) ∙ none) (last-none xs) where
    by : (o : Option X) (b : Bool) → find p (reverse xs) ≡ o → p x ≡ b → option_or (find p (reverse xs)) (cond (p x) (Some x) None) ≡ None
        → (find p (reverse xs) ≡ None → All (λ y. p y ≡ false) xs) → All (λ y. p y ≡ false) (x ∷ xs)
    by (Some y) b is at all rest = cc
    by None true is at all rest = cc
    by None false is at all rest = All-cons (λ y. p y ≡ false) x xs at (rest is)

  -- what is found is in the list, and passes
  pub last-passes : (P : X → Type 0) (xs : List X) (y : X) → All P xs → find p (reverse xs) ≡ Some y → P y × (p y ≡ true)
  last-passes P [] y all is = cc
  last-passes P (x ∷ xs) y all found =
      by (find p (reverse xs)) (p x) refl refl (sym (last-cons x xs) ∙ found) (last-passes P xs y (All-tail P x xs all)) where
        by : (o : Option X) (b : Bool) → find p (reverse xs) ≡ o → p x ≡ b → option_or (find p (reverse xs)) (cond (p x) (Some x) None) ≡ Some y
            → (find p (reverse xs) ≡ Some y → P y × (p y ≡ true)) → P y × (p y ≡ true)
        by (Some z) b is at same rest = rest cc
        by None true is at same rest = let e : x ≡ y = cc in (subst P e (All-head P x xs all), ap p (sym e) ∙ at)
        by None false is at same rest = cc

  pairs-head : (R : X → X → Type 0) (x : X) (xs : List X) → AllPairs R (x ∷ xs) → All (R x) xs
  pairs-head R x xs pairs = λ k d below. pairs 0 (suc k) d (omega arith) (omega arith)

  pairs-tail : (R : X → X → Type 0) (x : X) (xs : List X) → AllPairs R (x ∷ xs) → AllPairs R xs
  pairs-tail R x xs pairs = λ i j d before below. pairs (suc i) (suc j) d (omega arith) (omega arith)

  -- where a number rises along the list, the last that passes has the greatest of those that pass
  pub last-greatest : (number : X → ℕ) (xs : List X) (y : X) → AllPairs (λ a b. number a < number b) xs → find p (reverse xs) ≡ Some y
      → All (λ x. p x ≡ true → number x ≤ number y) xs
  last-greatest number [] y pairs is = cc
  last-greatest number (x ∷ xs) y pairs found =
      by (find p (reverse xs)) (p x) refl refl (sym (last-cons x xs) ∙ found) (last-greatest number xs y (pairs-tail (λ a b. number a < number b) x xs pairs)) where
        by : (o : Option X) (b : Bool) → find p (reverse xs) ≡ o → p x ≡ b → option_or (find p (reverse xs)) (cond (p x) (Some x) None) ≡ Some y
            → (find p (reverse xs) ≡ Some y → All (λ z. p z ≡ true → number z ≤ number y) xs)
            → All (λ z. p z ≡ true → number z ≤ number y) (x ∷ xs)
        by (Some z) b is at same rest =
            let e : find p (reverse xs) ≡ Some y = cc in
            let above : number x < number y = (last-passes (λ z. number x < number z) xs y (pairs-head (λ a b. number a < number b) x xs pairs) e).0 in
            All-cons (λ z. p z ≡ true → number z ≤ number y) x xs (λ passes. omega arith) (rest e)
        by None true is at same rest =
            let e : x ≡ y = cc in
            let equal : number x ≡ number y = ap number e in
            let none : All (λ z. p z ≡ false) xs = last-none xs is in
            All-cons (λ z. p z ≡ true → number z ≤ number y) x xs (λ passes. omega arith) (λ k d below passes. let never : true ≡ false = sym passes ∙ none k d below in cc)
        by None false is at same rest = cc
