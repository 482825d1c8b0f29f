-- Sums over two lists of which each place of the one that counts goes to a place of the other that counts as much.
use Rattle.std.specs.Prelude.{◌≡◌, ◌≢◌, ◌≤◌, ◌<◌, ◌⊎◌, ℕ, suc, List, [], ◌∷◌, length, map, sum_by, slice_set, slice_index_or}
use Rattle.std.proofs.Common.{arith, ◌∙◌, sym, subst, inl, inr}
use Rattle.std.proofs.lemmas.List.{get_or-map, get_or-set_other, length-map, length-set}
use Rattle.std.proofs.lemmas.List.Sums.{sum-map, sum_by-cons, sum_by-set}

abbrev total : List ℕ → ℕ
total ws = sum_by (λ n. n) ws

-- a place of the first list counts nothing, or goes to a place of the second that counts as much; no two go to one
record GoesTo (R : ℕ → ℕ → Type 0) (ws us : List ℕ) : Type 0 where
  each : (k : ℕ) → k < length ws → (slice_index_or ws k 0 ≡ 0) ⊎ ((j : ℕ) × R k j × (j < length us) × (slice_index_or ws k 0 ≤ slice_index_or us j 0))
  one : (i k j : ℕ) → R i j → R k j → i ≡ k

total_le : (R : ℕ → ℕ → Type 0) (ws us : List ℕ) → GoesTo R ws us → total ws ≤ total us
total_le R [] us goes = omega arith
total_le R (w ∷ ws) us goes =
    elim (goes.each 0 (omega arith)) [
      | inl none ↦
          let rest = total_le (λ k j. R (suc k) j) ws us (record { each = λ k below. goes.each (suc k) (omega (arith, below)); one = λ i k j a b. suc_same i k (goes.one (suc i) (suc k) j a b) }) in
          omega (arith, sum_by-cons (λ n. n) w ws, none, rest)
      | inr to ↦
          let rest = total_le (λ k j. R (suc k) j) ws (slice_set us to.0 0) (record { each = later to.0 to.1; one = λ i k j a b. suc_same i k (goes.one (suc i) (suc k) j a b) }) in
          let swapped = sum_by-set (λ n. n) us to.0 0 0 to.2 in
          let as_much = to.3 in
          omega (arith, sum_by-cons (λ n. n) w ws, as_much, swapped, rest)
    ]
  where
    suc_same : (i k : ℕ) → suc i ≡ suc k → i ≡ k
    suc_same i k same = omega (arith, same)

    later : (taken : ℕ) → R 0 taken → (k : ℕ) → k < length ws
        → (slice_index_or ws k 0 ≡ 0) ⊎ ((j : ℕ) × R (suc k) j × (j < length (slice_set us taken 0)) × (slice_index_or ws k 0 ≤ slice_index_or (slice_set us taken 0) j 0))
    later taken first k below = elim (goes.each (suc k) (omega (arith, below))) [
      | inl none ↦ inl none
      | inr to ↦
          let other : to.0 ≢ taken = λ same. (let clash = goes.one (suc k) 0 taken (subst (R (suc k)) same to.1) first in omega (arith, clash)) in
          inr (
            to.0,
            to.1,
            subst (λ n. to.0 < n) (sym (length-set us taken 0)) to.2,
            subst (λ n. slice_index_or ws k 0 ≤ n) (sym (get_or-set_other us taken to.0 0 0 other)) to.3,
          )
    ]

-- THE SUM of the one is at most that of the other.
pub record Reaches {X Y : Type 0} (R : ℕ → ℕ → Type 0) (w : X → ℕ) (u : Y → ℕ) (xs : List X) (ys : List Y) (d : X) (e : Y) : Type 0 where
  pub each : (k : ℕ) → k < length xs → (w (slice_index_or xs k d) ≡ 0) ⊎ ((j : ℕ) × R k j × (j < length ys) × (w (slice_index_or xs k d) ≤ u (slice_index_or ys j e)))
  pub one : (i k j : ℕ) → R i j → R k j → i ≡ k

pub sum-Reaches : {X Y : Type 0} (R : ℕ → ℕ → Type 0) (w : X → ℕ) (u : Y → ℕ) (xs : List X) (ys : List Y) (d : X) (e : Y) → Reaches R w u xs ys d e → sum_by w xs ≤ sum_by u ys
sum-Reaches R w u xs ys d e reaches =
    let goes = total_le R (map w xs) (map u ys) (record { each = each; one = reaches.one }) in
    omega (arith, sum-map w xs, sum-map u ys, goes)
  where
    each : (k : ℕ) → k < length (map w xs) → (slice_index_or (map w xs) k 0 ≡ 0) ⊎ ((j : ℕ) × R k j × (j < length (map u ys)) × (slice_index_or (map w xs) k 0 ≤ slice_index_or (map u ys) j 0))
    each k below =
        let within : k < length xs = subst (λ n. k < n) (length-map xs w) below in
        let at = get_or-map w xs k d 0 within in
        elim (reaches.each k within) [
          | inl none ↦ inl (at ∙ none)
          | inr to ↦
              let there = get_or-map u ys to.0 e 0 to.2 in
              let as_much = to.3 in
              inr (to.0, to.1, subst (λ n. to.0 < n) (sym (length-map ys u)) to.2, omega (arith, at, there, as_much))
        ]
