-- Laws of free sets, for the layers above: the number of free blocks, counted block by block.
use Rattle.std.proofs.Common.{◌≡◌, ℕ, zero, suc, ◌+◌, ◌-◌, ◌≤◌, Bool, true, false, List, [], ◌∷◌, length, get_or, take, map, refl, sym, ◌∙◌, ap, inl, inr, arith}
use Rattle.std.specs.Prelude.{◌==◌, nat_le, sum_by, count_by}
use Rattle.std.specs.List.{range_with_len}
use Rattle.std.proofs.lemmas.Bool.{cases_Bool, cases_lt, le-leb, and_parts, eq-eqb, eqb-true}
use Rattle.std.proofs.lemmas.Bool.Decides.{nat_tests}
use Rattle.std.proofs.lemmas.List.{take_all, get_or_past}
use Rattle.std.proofs.lemmas.List.Folds.{list_any_at}
use Rattle.std.proofs.lemmas.List.FromFn.{length-range_with_len, get_or-range_with_len, sum_by-map-range_with_len_more}
use Rattle.std.proofs.lemmas.Map.Views.{any-filter_same}
use Rattle.std.proofs.lemmas.List.Sums.{sum_by_more, sum_by-cons, length-filter}
use Rattle.extent_map.specs.extent_model.Counts.{one_if, count_below, count_below-agree}
use Rattle.block_pool.specs.FreeSets.{FreeSet, is_among, is_free_at, free_count, free_list}

-- the free marks among the first n
marks_below : (marks : List Bool) (n : ℕ) → n ≤ length marks → sum_by one_if (take n marks) ≡ count_below (λ i. get_or marks i false) n
unfolding count_below
marks_below marks zero le = refl
marks_below marks (suc n) le =
    ap (λ m. sum_by one_if (take m marks)) {x = suc n} {y = n + 1} (omega arith)
    ∙ sum_by_more one_if marks n false (omega arith)
    ∙ ap (λ m. m + one_if (get_or marks n false)) (marks_below marks n (omega arith))

-- as many blocks are free as those of the range that are free one by one
pub free_count-counted : (s : FreeSet) → free_count s ≡ count_below (λ i. is_free_at s (s.first + i)) (length s.marks)
free_count-counted s =
    ap (sum_by one_if) (sym (take_all (length s.marks) s.marks (omega arith))) ∙ marks_below s.marks (length s.marks) (omega arith)
    ∙ count_below-agree (λ i. get_or s.marks i false) (λ i. is_free_at s (s.first + i)) (length s.marks) (λ i lt.
    let low = le-leb s.first (s.first + i) (omega arith) in
    let place : s.first + i - s.first ≡ i = omega arith in
    sym (rw (low, place) refl))

-- a test counts as the marks that it gives
count_by-map : (passes : ℕ → Bool) (xs : List ℕ) → count_by passes xs ≡ sum_by one_if (map passes xs)
count_by-map passes [] = refl
count_by-map passes (x ∷ xs) =
    sum_by-cons (λ y. one_if (passes y)) x xs ∙ ap (λ m. one_if (passes x) + m) (count_by-map passes xs) ∙ sym (sum_by-cons one_if (passes x) (map passes xs))

-- a range counts as many as pass among its places
range_counted : (passes : ℕ → Bool) (first n : ℕ) → sum_by one_if (map passes (range_with_len first n)) ≡ count_below (λ i. passes (first + i)) n
unfolding count_below
range_counted passes first zero = refl
range_counted passes first (suc n) =
    ap (λ m. sum_by one_if (map passes (range_with_len first m))) {x = suc n} {y = n + 1} (omega arith)
    ∙ sum_by-map-range_with_len_more one_if passes first n (first + n) refl
    ∙ ap (λ m. m + one_if (passes (first + n))) (range_counted passes first n)

-- the list has each free block once
pub length-free_list : (s : FreeSet) → length (free_list s) ≡ free_count s
length-free_list s =
    length-filter (is_free_at s) (range_with_len s.first (length s.marks)) ∙ count_by-map (is_free_at s) (range_with_len s.first (length s.marks))
    ∙ range_counted (is_free_at s) s.first (length s.marks) ∙ sym (free_count-counted s)

-- a free block is one of the range
free_in_range : (s : FreeSet) (b : ℕ) → is_free_at s b ≡ true → is_among (range_with_len s.first (length s.marks)) b ≡ true
free_in_range s b free =
    let parts = and_parts (nat_le s.first b) (get_or s.marks (b - s.first) false) free in
    let low : s.first ≤ b = grind (arith, nat_tests, parts.0) in
    elim (cases_lt (b - s.first) (length s.marks)) [
      | inl inside ↦
          list_any_at (λ x. x == b) (range_with_len s.first (length s.marks)) (b - s.first) 0 (omega (arith, length-range_with_len s.first (length s.marks)))
          (eq-eqb _ _ (get_or-range_with_len s.first (length s.marks) (b - s.first) 0 inside ∙ omega arith))
      | inr past ↦ absurd (cc (parts.1, get_or_past s.marks (b - s.first) false past))
    ]

-- the list has just the free blocks
pub among-free_list : (s : FreeSet) (b : ℕ) → is_among (free_list s) b ≡ is_free_at s b
among-free_list s b =
    let same : (x : ℕ) → (x == b) ≡ true → is_free_at s x ≡ is_free_at s b = λ x is. ap (is_free_at s) (eqb-true x b is) in
    any-filter_same (λ x. x == b) (is_free_at s) (is_free_at s b) same (range_with_len s.first (length s.marks)) ∙ elim (cases_Bool (is_free_at s b)) [
      | inl free ↦ rw free (free_in_range s b free)
      | inr used ↦ rw used refl
    ]
