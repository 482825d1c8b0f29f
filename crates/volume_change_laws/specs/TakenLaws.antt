-- Laws of the lowest free blocks: each comes once, and those that are taken after others go on where they end.
use Rattle.std.specs.Prelude.{◌≡◌, ◌≢◌, ℕ, suc, ◌+◌, ◌<◌, ◌≤◌, ◌==◌, ◌&&◌, not, Bool, true, false, List, [], ◌∷◌, ◌++◌, All, AllPairs, refl}
use Rattle.std.specs.List.{list_any}
use Rattle.std.proofs.Common.{arith, ap, sym, ◌∙◌, inl, inr, subst, get_or, length-append}
use Rattle.std.proofs.lemmas.Bool.{both_ways, cases_eq, cases_lt, ne_eqb}
use Rattle.std.proofs.lemmas.List.Elements.{All-append}
use Rattle.std.proofs.lemmas.List.Kept.{AllPairs-cons}
use Rattle.name_laws.specs.k_split_model.image_model.Placed.{AreDistinct}
use Rattle.name_laws.specs.volume_laws.extent_model.Counts.{one_if}
use Rattle.name_laws.specs.k_split_model.Taken.{AreLowest}
use Rattle.volume_change_laws.specs.Hits.{in_chain-append}
use Rattle.volume_change_laws.specs.Switches.{counted-among, not-among}
use Rattle.name_laws.specs.volume_laws.UseLaws.{in_chain-some}
use Rattle.name_laws.specs.volume_laws.Uses.{in_chain}

-- rising blocks are distinct, and each is there once
pub rising-distinct : (blocks : List ℕ) → AllPairs ◌<◌ blocks → AreDistinct blocks
rising-distinct blocks rising j k before below same = omega (arith, rising j k 0 before below, same)

rising-rest : (x : ℕ) (xs : List ℕ) → AllPairs ◌<◌ (x ∷ xs) → AllPairs ◌<◌ xs
rising-rest x xs rising i j d before below = rising (suc i) (suc j) d (omega arith) (omega arith)

in_chain-cons : (x : ℕ) (xs : List ℕ) (b : ℕ) → in_chain (x ∷ xs) b ≡ one_if (x == b) + in_chain xs b
in_chain-cons x xs b =
    let one : in_chain (x ∷ []) b ≡ one_if (x == b) = omega arith in
    omega (arith, in_chain-append (x ∷ []) xs b, one)

pub rising-once : (blocks : List ℕ) (b : ℕ) → AllPairs ◌<◌ blocks → in_chain blocks b ≤ 1
rising-once [] b rising = omega arith
rising-once (x ∷ xs) b rising = elim (cases_eq x b) [
  | inl here ↦ elim (cases_lt 0 (in_chain xs b)) [
    | inl again ↦
        let found = in_chain-some xs b (omega arith) in
        absurd (omega (arith, rising 0 (suc found.0) 0 (omega arith) (omega (arith, found.1)), found.2, here))
    | inr none ↦ omega (arith, in_chain-cons x xs b, one-most (x == b))
  ]
  | inr apart ↦ omega (arith, in_chain-cons x xs b, away x b apart, rising-once xs b (rising-rest x xs rising))
]
  where
    one-most : (y : Bool) → one_if y ≤ 1
    one-most true = omega arith
    one-most false = omega arith

    away : (y z : ℕ) → y ≢ z → one_if (y == z) ≡ 0
    away y z apart = ap one_if (ne_eqb y z apart)

-- a fact of each block of the list
pub All-at : (P : ℕ → Type 0) (blocks : List ℕ) (b : ℕ) → All P blocks → 1 ≤ in_chain blocks b → P b
All-at P blocks b all has =
    let found = in_chain-some blocks b has in
    subst P found.2 (all found.0 0 found.1)

-- two rising lists, each of the first below each of the second
AllPairs-append : (xs ys : List ℕ) → AllPairs ◌<◌ xs → AllPairs ◌<◌ ys → All (λ y. All (λ x. x < y) xs) ys → AllPairs ◌<◌ (xs ++ ys)
AllPairs-append [] ys first second between = second
AllPairs-append (x ∷ xs) ys first second between =
    AllPairs-cons ◌<◌ x (xs ++ ys)
    (All-append (λ y. x < y) xs ys (λ k d within. first 0 (suc k) d (omega arith) (omega arith)) (λ k d within. between k d within 0 d (omega arith)))
    (AllPairs-append xs ys (rising-rest x xs first) second (λ k d within i e inside. between k d within (suc i) e (omega arith)))

-- The lowest free blocks, and then the lowest of those that are left, are the lowest of all.
pub AreLowest-append : (free left : ℕ → Bool) (m n : ℕ) (xs ys : List ℕ) → AreLowest free m xs → AreLowest left n ys
    → ((b : ℕ) → left b ≡ (free b && not (list_any (λ t. t == b) xs))) → AreLowest free (m + n) (xs ++ ys)
AreLowest-append free left m n xs ys first second are = record {
  count = omega (arith, length-append xs ys, first.count, second.count);
  rising = AllPairs-append xs ys first.rising second.rising (λ k d within.
      let now = second.were_free k d within in
      first.lowest (get_or ys k d) (was_free (get_or ys k d) now) (was_left (get_or ys k d) now));
  were_free = All-append (λ b. free b ≡ true) xs ys first.were_free (λ k d within. was_free (get_or ys k d) (second.were_free k d within));
  lowest = λ b is none.
      let in_first : list_any (λ t. t == b) xs ≡ false = false_left b none in
      let in_second : list_any (λ t. t == b) ys ≡ false = false_right b none in
      let still : left b ≡ true = are b ∙ (λ i. is i && not (in_first i)) in
      All-append (λ t. t < b) xs ys (first.lowest b is in_first) (second.lowest b still in_second);
}
  where
    and_left : (y z : Bool) → (y && z) ≡ true → y ≡ true
    and_left true z both = refl
    and_left false z both = both

    not_true : (y z : Bool) → (y && not z) ≡ true → z ≡ false
    not_true true true both = absurd (both_ways false refl both)
    not_true true false both = refl
    not_true false z both = absurd (both_ways false refl both)

    was_free : (b : ℕ) → left b ≡ true → free b ≡ true
    was_free b now = and_left (free b) (not (list_any (λ t. t == b) xs)) (sym (are b) ∙ now)

    was_left : (b : ℕ) → left b ≡ true → list_any (λ t. t == b) xs ≡ false
    was_left b now = not_true (free b) (list_any (λ t. t == b) xs) (sym (are b) ∙ now)

    counted : (b : ℕ) → list_any (λ t. t == b) (xs ++ ys) ≡ false → in_chain xs b + in_chain ys b ≡ 0
    counted b none = elim (cases_lt 0 (in_chain (xs ++ ys) b)) [
      | inl has ↦ absurd (both_ways (list_any (λ t. t == b) (xs ++ ys)) none (counted-among (xs ++ ys) b (omega arith)))
      | inr past ↦ omega (arith, past, in_chain-append xs ys b)
    ]

    false_left : (b : ℕ) → list_any (λ t. t == b) (xs ++ ys) ≡ false → list_any (λ t. t == b) xs ≡ false
    false_left b none = not-among xs b (omega (arith, counted b none))

    false_right : (b : ℕ) → list_any (λ t. t == b) (xs ++ ys) ≡ false → list_any (λ t. t == b) ys ≡ false
    false_right b none = not-among ys b (omega (arith, counted b none))
