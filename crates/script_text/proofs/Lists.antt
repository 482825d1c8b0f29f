-- Lists whose elements all pass a test.
use Rattle.std.proofs.Common.{◌≡◌, ℕ, zero, suc, ◌<◌, true, Bool, List, [], ◌∷◌, length, get_or, take, refl, arith}
use Rattle.std.specs.List.{list_all}
use Rattle.std.proofs.lemmas.Bool.{and_parts, and_from}

pub passes_at : {X : Type 0} (p : X → Bool) → (xs : List X) (i : ℕ) (d : X) → list_all p xs ≡ true → i < length xs → p (get_or xs i d) ≡ true
passes_at p [] i d all lt = absurd (omega arith)
passes_at p (x ∷ xs) zero d all lt = (and_parts (p x) (list_all p xs) all).0
passes_at p (x ∷ xs) (suc i) d all lt = passes_at p xs i d (and_parts (p x) (list_all p xs) all).1 (omega arith)

pub all_of_take : {X : Type 0} (p : X → Bool) → (xs : List X) (n : ℕ) → list_all p xs ≡ true → list_all p (take n xs) ≡ true
all_of_take p [] zero all = refl
all_of_take p [] (suc n) all = refl
all_of_take p (x ∷ xs) zero all = refl
all_of_take p (x ∷ xs) (suc n) all =
    let parts = and_parts (p x) (list_all p xs) all in
    and_from (p x) (list_all p (take n xs)) parts.0 (all_of_take p xs n parts.1)
