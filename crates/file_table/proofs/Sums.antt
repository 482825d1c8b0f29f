-- What sizes hold in all.
use Rattle.std.specs.Prelude.{◌≡◌, ◌≤◌, ◌<◌, ◌+◌, ◌*◌, ℕ, zero, suc, All, List, [], ◌∷◌, ◌++◌, length, slice_index, slice_index_or, slice_set, sum_by, refl}
use Rattle.std.proofs.Common.{arith, ap}
use Rattle.std.proofs.lemmas.List.Sums.{sum_by-cons}
use Rattle.block_counts.specs.Counts.{held_by}
use Rattle.layout_model.specs.block_counts.declared.TheConstants.{LONGEST_FILE}
use Rattle.file_overlay.specs.Runs.{Overlaid}
use Rattle.file_table.specs.Files.{nothing_laid}

-- one size changes
pub sum_set : (xs : List ℕ) (i x : ℕ) → i < length xs → sum_by held_by (slice_set xs i x) + held_by (slice_index xs i) ≡ sum_by held_by xs + held_by x
sum_set [] i x below = absurd (omega (arith, below))
sum_set (y ∷ ys) zero x below = omega (arith, sum_by-cons held_by y ys, sum_by-cons held_by x ys)
sum_set (y ∷ ys) (suc i) x below = omega (arith, sum_by-cons held_by y ys, sum_by-cons held_by y (slice_set ys i x), sum_set ys i x (omega (arith, below)))

-- no size holds more than all of them
pub sum_has : (xs : List ℕ) (i : ℕ) → i < length xs → held_by (slice_index xs i) ≤ sum_by held_by xs
sum_has [] i below = absurd (omega (arith, below))
sum_has (y ∷ ys) zero below = omega (arith, sum_by-cons held_by y ys)
sum_has (y ∷ ys) (suc i) below = omega (arith, sum_by-cons held_by y ys, sum_has ys i (omega (arith, below)))

small_held : (n : ℕ) → n ≤ LONGEST_FILE → held_by n ≤ 4113
small_held n small = omega (arith, small)

-- and all of them no more than so many of the largest
pub sum_small : (xs : List ℕ) → All (λ size. size ≤ LONGEST_FILE) xs → sum_by held_by xs ≤ 4113 * length xs
sum_small [] small = omega arith
sum_small (y ∷ ys) small =
    omega (arith, sum_by-cons held_by y ys, small_held y (small 0 0 (omega arith)), sum_small ys (λ k d below. small (suc k) d (omega (arith, below))))

-- sizes that are all 0
pub sum_zero : (xs : List ℕ) → ((i : ℕ) → slice_index xs i ≡ 0) → sum_by held_by xs ≡ 0
sum_zero [] none = refl
sum_zero (y ∷ ys) none = omega (arith, sum_by-cons held_by y ys, ap held_by (none 0), sum_zero ys (λ i. none (suc i)))

pub zero_pushed : (xs : List ℕ) → ((i : ℕ) → slice_index xs i ≡ 0) → (i : ℕ) → slice_index (xs ++ 0 ∷ []) i ≡ 0
zero_pushed [] none zero = refl
zero_pushed [] none (suc i) = refl
zero_pushed (y ∷ ys) none zero = none 0
zero_pushed (y ∷ ys) none (suc i) = zero_pushed ys (λ k. none (suc k)) i

pub bare_pushed : (os : List Overlaid) (o : Overlaid) → o.runs ≡ [] → ((i : ℕ) → (slice_index_or os i nothing_laid).runs ≡ []) → (i : ℕ) → (slice_index_or (os ++ o ∷ []) i nothing_laid).runs ≡ []
bare_pushed [] o none all zero = none
bare_pushed [] o none all (suc i) = refl
bare_pushed (p ∷ os) o none all zero = all 0
bare_pushed (p ∷ os) o none all (suc i) = bare_pushed os o none (λ k. all (suc k)) i

-- all sizes stay small
pub small_set : (xs : List ℕ) (i x : ℕ) → x ≤ LONGEST_FILE → All (λ size. size ≤ LONGEST_FILE) xs → All (λ size. size ≤ LONGEST_FILE) (slice_set xs i x)
small_set [] i x small all k d below = absurd (omega (arith, below))
small_set (y ∷ ys) zero x small all zero d below = small
small_set (y ∷ ys) zero x small all (suc k) d below = all (suc k) d (omega (arith, below))
small_set (y ∷ ys) (suc i) x small all zero d below = all 0 d (omega arith)
small_set (y ∷ ys) (suc i) x small all (suc k) d below = small_set ys i x small (λ j e within. all (suc j) e (omega (arith, within))) k d (omega (arith, below))

pub small_zero : (xs : List ℕ) → ((i : ℕ) → slice_index xs i ≡ 0) → All (λ size. size ≤ LONGEST_FILE) xs
small_zero [] none k d below = absurd (omega (arith, below))
small_zero (y ∷ ys) none zero d below = omega (arith, none 0)
small_zero (y ∷ ys) none (suc k) d below = small_zero ys (λ i. none (suc i)) k d (omega (arith, below))
