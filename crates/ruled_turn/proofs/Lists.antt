-- Lists of passes and of views, by places.
use Rattle.std.proofs.Common.{◌≡◌, ◌≢◌, ℕ, zero, suc, ◌+◌, ◌<◌, List, [], ◌∷◌, length, take, drop, set, get_or, refl, ap, arith}
use Rattle.std.specs.Prelude.{Contains, slice_get, Some}
use Rattle.std.specs.List.{enumerate_from}
use Rattle.list_laws.specs.Numbers.{count_with, count_with-append, once_below, once_more}
use Rattle.ruled_turn.specs.Standings.{number_of}

module _ {A : Type 0} where
  -- what stands at a place after a write
  pub get_here : (l : List A) (i : ℕ) (a b : A) → slice_get l i ≡ Some a → slice_get (set l i b) i ≡ Some b
  get_here [] i a b at = cc
  get_here (x ∷ xs) zero a b at = refl
  get_here (x ∷ xs) (suc i) a b at = get_here xs i a b at

  pub get_else : (l : List A) (i j : ℕ) (b : A) → j ≢ i → slice_get (set l i b) j ≡ slice_get l j
  get_else [] i j b other = refl
  get_else (x ∷ xs) zero zero b other = absurd (other refl)
  get_else (x ∷ xs) zero (suc j) b other = refl
  get_else (x ∷ xs) (suc i) zero b other = refl
  get_else (x ∷ xs) (suc i) (suc j) b other = get_else xs i j b (λ e. other (ap suc e))

  -- the first of a list, and the others
  pub counted_apart : (f : A → ℕ) (x : ℕ) (l : List A) → count_with f x (drop 1 l) + count_with f x (take 1 l) ≡ count_with f x l
  counted_apart f x [] = refl
  counted_apart f x (a ∷ l) = omega (arith, count_with-append f x (a ∷ []) l)

  pub length_apart : (l : List A) → length (drop 1 l) + length (take 1 l) ≡ length l
  length_apart [] = refl
  length_apart (a ∷ l) = omega arith

  pub Contains-others : (l : List A) (a : A) → Contains (drop 1 l) a → Contains l a
  Contains-others [] a has = has
  Contains-others (b ∷ l) a has = (suc has.0, omega (arith, has.1), has.2)

  pub Contains-first : (l : List A) (a : A) → Contains (take 1 l) a → Contains l a
  Contains-first [] a has = has
  Contains-first (b ∷ l) a (zero, below, is) = (0, omega arith, is)
  Contains-first (b ∷ l) a (suc k, below, is) = absurd (omega arith)

  pub Contains-one : (a b : A) → Contains (a ∷ []) b → a ≡ b
  Contains-one a b (zero, below, is) = is
  Contains-one a b (suc k, below, is) = absurd (omega arith)

module _ {V : Type 0} where
  -- the passes that are opened have the numbers below their count, each once, and their views by these numbers
  pub length-numbered : (k : ℕ) (views : List V) → length (enumerate_from k views) ≡ length views
  length-numbered k [] = refl
  length-numbered k (v ∷ views) = ap suc (length-numbered (k + 1) views)

  pub counted-numbered : (i k : ℕ) (views : List V) → count_with number_of i (enumerate_from k views) + once_below i k ≡ once_below i (k + length views)
  counted-numbered i k [] = let same : once_below i k ≡ once_below i (k + 0) = ap (once_below i) (omega arith) in omega (arith, same)
  counted-numbered i k (v ∷ views) =
      let same : once_below i (k + 1 + length views) ≡ once_below i (k + suc (length views)) = ap (once_below i) (omega arith) in
      omega (arith, count_with-append number_of i ((k, v) ∷ []) (enumerate_from (k + 1) views), counted-numbered i (k + 1) views, once_more i k, same)

  pub at_numbered : (k : ℕ) (views : List V) (j i : ℕ) (v : V) → j < length (enumerate_from k views) → get_or (enumerate_from k views) j (i, v) ≡ (i, v) → (i ≡ k + j) × (slice_get views j ≡ Some v)
  at_numbered k [] j i v below is = absurd (omega arith)
  at_numbered k (x ∷ views) zero i v below is = (omega (arith, ap (λ (c : ℕ × V). c.0) is), ap (λ (c : ℕ × V). Some c.1) is)
  at_numbered k (x ∷ views) (suc j) i v below is =
      let rest = at_numbered (k + 1) views j i v (omega (arith, below)) is in
      (omega (arith, rest.0), rest.1)
