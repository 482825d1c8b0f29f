-- The marks of a pool, by the bits that it keeps.
use Rattle.std.proofs.Common.{◌≡◌, ◌≢◌, ltb, ℕ, zero, suc, ◌+◌, ◌-◌, ◌*◌, ◌/◌, ◌%◌, ◌<◌, ◌≤◌, Bool, true, false, not, ◌&&◌, ◌||◌, List, length, get_or, refl, sym, ◌∙◌, ap, subst, inl, inr, arith}
use Rattle.std.specs.Prelude.{◌==◌, bit_or}
use Rattle.std.specs.Int.{bit_at}
use Rattle.std.proofs.lemmas.Nat.Bits.{bit_at_or, bit_at-lt, bit_at-zero}
use Rattle.std.proofs.lemmas.Bool.{cases_lt, cases_eq, cases_Bool, lt-leb, le-leb, lt-ltb, le-ltb, and_parts, eq-eqb, ne_eqb}
use Rattle.std.proofs.lemmas.Bool.Decides.{nat_tests}
use Rattle.std.proofs.lemmas.List.{get_or_past}
use Rattle.std.proofs.lemmas.List.FromFn.{length-map-range_with_len, get_or-map-range_with_len, sum_by-map-range_with_len_more}
use Rattle.extent_map.specs.extent_model.declared.extent_words.Extent.{Extent}
use Rattle.extent_map.specs.extent_model.Extents.{is_within, covers}
use Rattle.block_pool.specs.FreeSets.{FreeSet, is_among, has_block, is_free_at, free_count, SameBlocks, Takes, Gives, IsUnused}
use Rattle.block_pool.specs.Bits.{is_set, marks_of, IsSetBlock, AreLowest}
use Rattle.extent_map.specs.extent_model.Counts.{one_if, count_below, count_below-agree, count_below-less, count_below-zero}

-- what contracts see of a pool
abbrev pub seen : ℕ → ℕ → List ℕ → FreeSet
seen first count words = record { first = first; marks = marks_of words count }

-- a block is free where it is in the range and its bit is set
pub is_free_at-seen : (first count : ℕ) (words : List ℕ) (b : ℕ) → is_free_at (seen first count words) b ≡ (is_within first count b && is_set words (b - first))
is_free_at-seen first count words b = elim (cases_lt b first) [
  | inl below ↦ rw (lt-leb first b below) refl
  | inr behind ↦ elim (cases_lt (b - first) count) [
    | inl inside ↦
        let mark : get_or (marks_of words count) (b - first) false ≡ is_set words (b - first) = get_or-map-range_with_len (λ p. is_set words p) 0 count (b - first) (b - first) false inside (omega arith) in
        let high : ltb b (first + count) ≡ true = lt-ltb _ _ (omega arith) in
        rw (le-leb first b behind, high) mark
    | inr past ↦
        let mark : get_or (marks_of words count) (b - first) false ≡ false = get_or_past (marks_of words count) (b - first) false (omega (arith, length-map-range_with_len (λ p. is_set words p) 0 count)) in
        let high : ltb b (first + count) ≡ false = le-ltb _ _ (omega arith) in
        rw (le-leb first b behind, high) mark
  ]
]

-- the blocks of the range
pub has_block-seen : (first count : ℕ) (words : List ℕ) (b : ℕ) → has_block (seen first count words) b ≡ is_within first count b
has_block-seen first count words b = ap (λ n. is_within first n b) (length-map-range_with_len (λ p. is_set words p) 0 count)

-- as many are free as bits are set
pub free_count-seen : (first count : ℕ) (words : List ℕ) → free_count (seen first count words) ≡ count_below (is_set words) count
unfolding count_below
free_count-seen first zero words = refl
free_count-seen first (suc n) words =
    ap (λ m. free_count (seen first m words)) {x = suc n} {y = n + 1} (omega arith)
    ∙ sum_by-map-range_with_len_more one_if (λ p. is_set words p) 0 n n (omega arith)
    ∙ ap (λ m. m + one_if (is_set words n)) (free_count-seen first n words)

same_blocks : (first count : ℕ) (words new : List ℕ) → SameBlocks (seen first count words) (seen first count new)
same_blocks first count words new = record {
  first = refl;
  length = length-map-range_with_len (λ p. is_set new p) 0 count ∙ sym (length-map-range_with_len (λ p. is_set words p) 0 count);
}

-- a free block's bit is set
set_block : (first count : ℕ) (words : List ℕ) (b : ℕ) → is_free_at (seen first count words) b ≡ true → IsSetBlock words first count b
set_block first count words b free =
    let parts = and_parts (is_within first count b) (is_set words (b - first)) (sym (is_free_at-seen first count words b) ∙ free) in
    record { low = grind (arith, nat_tests, parts.0); high = grind (arith, nat_tests, parts.0); set = parts.1 }

free_block : (first count : ℕ) (words : List ℕ) (b : ℕ) → IsSetBlock words first count b → is_free_at (seen first count words) b ≡ true
free_block first count words b is =
    let within : is_within first count b ≡ true = grind (arith, nat_tests, is.low, is.high) in
    is_free_at-seen first count words b ∙ (rw within is.set)

-- the place of a block of the range
pub in_range : (first count b : ℕ) → is_within first count b ≡ true → (first + (b - first) ≡ b) × (b - first < count)
in_range first count b within = (grind (arith, nat_tests), grind (arith, nat_tests))

-- the lowest bits, cleared
pub seen_takes : (first count n : ℕ) (words new blocks : List ℕ) → AreLowest words first count n blocks → ((p : ℕ) → is_set new p ≡ (is_set words p && not (is_among blocks (first + p)))) → count_below (is_set new) count + length blocks ≡ count_below (is_set words) count → Takes n blocks (seen first count words) (seen first count new)
seen_takes first count n words new blocks lowest bits fewer = record {
  same = same_blocks first count words new;
  count = lowest.size;
  rising = lowest.rising;
  were_free = λ k d lt. free_block first count words _ (lowest.set k d lt);
  lowest = λ b free absent. lowest.lowest b (set_block first count words b free) absent;
  free = λ b.
      let bit : (is_within first count b && is_set new (b - first)) ≡ ((is_within first count b && is_set words (b - first)) && not (is_among blocks b)) = elim (cases_Bool (is_within first count b)) [
        | inl inside ↦ rw inside (bits (b - first) ∙ ap (λ q. is_set words (b - first) && not (is_among blocks q)) (in_range first count b inside).0)
        | inr outside ↦ rw outside refl
      ] in
      is_free_at-seen first count new b ∙ bit ∙ sym (ap (λ a. a && not (is_among blocks b)) (is_free_at-seen first count words b));
  left = omega (arith, free_count-seen first count words, free_count-seen first count new, fewer, lowest.size);
}

-- one more bit set
pub set_count : (first count block : ℕ) (words new : List ℕ) → is_within first count block ≡ true → is_free_at (seen first count words) block ≡ false → is_set new (block - first) ≡ true → ((p : ℕ) → p ≢ block - first → is_set new p ≡ is_set words p) → count_below (is_set words) count + 1 ≡ count_below (is_set new) count
set_count first count block words new within used here others =
    let was : is_set words (block - first) ≡ false = rw within at (sym (is_free_at-seen first count words block) ∙ used) in
    count_below-less (is_set new) (is_set words) count (block - first) (in_range first count block within).1 here was (λ p apart. sym (others p apart))

-- the bit of a block, set
pub seen_gives : (first count block : ℕ) (words new : List ℕ) → is_within first count block ≡ true → is_free_at (seen first count words) block ≡ false → is_set new (block - first) ≡ true → ((p : ℕ) → p ≢ block - first → is_set new p ≡ is_set words p) → Gives block (seen first count words) (seen first count new)
seen_gives first count block words new within used here others = record {
  same = same_blocks first count words new;
  free = λ b. is_free_at-seen first count new b ∙ elim (cases_eq b block) [
    | inl same ↦
        let equal : (b == block) ≡ true = eq-eqb _ _ same in
        let at : (is_within first count b && is_set new (b - first)) ≡ true = rw (same, within) here in
        rw equal at
    | inr apart ↦
        let other : (b == block) ≡ false = ne_eqb _ _ apart in
        let bit : (is_within first count b && is_set new (b - first)) ≡ (is_within first count b && is_set words (b - first)) = elim (cases_Bool (is_within first count b)) [
          | inl inside ↦ rw inside (others (b - first) (λ e. apart (omega (arith, (in_range first count b inside).0, (in_range first count block within).0, e))))
          | inr outside ↦ rw outside refl
        ] in
        rw other (bit ∙ sym (is_free_at-seen first count words b))
  ];
  more =
      let fewer = set_count first count block words new within used here others in
      omega (arith, free_count-seen first count words, free_count-seen first count new, fewer);
}

-- a block of a pool's range that is not free, and its bit after it is set
module _ (first count block : ℕ) (words new : List ℕ) (s : FreeSet) (sees : seen first count words ≡ s) (has : has_block s block ≡ true) (used : is_free_at s block ≡ false) where
  pub given_within : is_within first count block ≡ true
  given_within = sym (has_block-seen first count words block) ∙ ap (λ t. has_block t block) sees ∙ has

  given_used : is_free_at (seen first count words) block ≡ false
  given_used = ap (λ t. is_free_at t block) sees ∙ used

  pub given_count : is_set new (block - first) ≡ true → ((p : ℕ) → p ≢ block - first → is_set new p ≡ is_set words p) → count_below (is_set words) count + 1 ≡ count_below (is_set new) count
  given_count here others = set_count first count block words new given_within given_used here others

  pub given : is_set new (block - first) ≡ true → ((p : ℕ) → p ≢ block - first → is_set new p ≡ is_set words p) → Gives block s (seen first count new)
  given here others = subst (λ t. Gives block t (seen first count new)) sees (seen_gives first count block words new given_within given_used here others)

-- all bits set but those of used blocks
pub seen_unused : (first count : ℕ) (used : List Extent) (new : List ℕ) → ((p : ℕ) → p < count → is_set new p ≡ not (covers used (first + p))) → IsUnused first count used (seen first count new)
seen_unused first count used new bits = record {
  first = refl;
  length = length-map-range_with_len (λ p. is_set new p) 0 count;
  free = λ b. is_free_at-seen first count new b ∙ elim (cases_Bool (is_within first count b)) [
    | inl inside ↦
        let place = in_range first count b inside in
        rw inside (bits (b - first) place.1 ∙ ap (λ q. not (covers used q)) place.0)
    | inr outside ↦ rw outside refl
  ];
}

-- ---- the bits of two pools together

-- a bit of two words together
bit_of_both : (a b i : ℕ) → (bit_at (bit_or a b) i == 1) ≡ ((bit_at a i == 1) || (bit_at b i == 1))
bit_of_both a b i = grind (arith, nat_tests, bit_at_or a b i, bit_at-lt a i, bit_at-lt b i)

-- the words from 0 on are those of the two lists together
abbrev pub AreBoth : ℕ → List ℕ → List ℕ → List ℕ → Type 0
AreBoth n words other new = (i : ℕ) → i < n → get_or new i 0 ≡ bit_or (get_or words i 0) (get_or other i 0)

both_set : (n : ℕ) (words other new : List ℕ) → AreBoth n words other new → (p : ℕ) → p < 64 * n → is_set new p ≡ (is_set words p || is_set other p)
both_set n words other new both p lt =
    ap (λ w. bit_at w (p % 64) == 1) (both (p / 64) (omega arith)) ∙ bit_of_both (get_or words (p / 64) 0) (get_or other (p / 64) 0) (p % 64)

-- two tests that exclude each other count as much as the one that either passes
count_joined : (f g h : ℕ → Bool) (n : ℕ) → ((b : ℕ) → b < n → one_if (f b) + one_if (g b) ≡ one_if (h b)) → count_below f n + count_below g n ≡ count_below h n
unfolding count_below
count_joined f g h zero each = refl
count_joined f g h (suc n) each = omega (arith, count_joined f g h n (λ b lt. each b (omega arith)), each n (omega arith))

module _ (first count : ℕ) (words other new : List ℕ) (both : (p : ℕ) → p < count → is_set new p ≡ (is_set words p || is_set other p)) where
  pub both_free : (b : ℕ) → is_free_at (seen first count new) b ≡ (is_free_at (seen first count words) b || is_free_at (seen first count other) b)
  both_free b =
      let bit : (is_within first count b && is_set new (b - first)) ≡ ((is_within first count b && is_set words (b - first)) || (is_within first count b && is_set other (b - first))) = elim (cases_Bool (is_within first count b)) [
        | inl inside ↦ rw inside (both (b - first) (in_range first count b inside).1)
        | inr outside ↦ rw outside refl
      ] in
      is_free_at-seen first count new b ∙ bit ∙ sym (rw (is_free_at-seen first count words b, is_free_at-seen first count other b) refl)

  pub both_counted : ((b : ℕ) → is_free_at (seen first count other) b ≡ true → is_free_at (seen first count words) b ≡ false) → count_below (is_set words) count + count_below (is_set other) count ≡ count_below (is_set new) count
  both_counted apart = count_joined (is_set words) (is_set other) (is_set new) count (λ p lt. elim (cases_Bool (is_set other p)) [
    | inl set ↦
        let within : is_within first count (first + p) ≡ true = grind (arith, nat_tests) in
        let place : first + p - first ≡ p = omega arith in
        let there : is_free_at (seen first count other) (first + p) ≡ true = is_free_at-seen first count other (first + p) ∙ (rw (within, place) set) in
        let not_here : is_set words p ≡ false = rw (within, place) at (sym (is_free_at-seen first count words (first + p)) ∙ apart (first + p) there) in
        rw (both p lt, set, not_here) refl
    | inr clear ↦ rw (both p lt, clear) (grind (arith))
  ])

-- where no bit is set nothing is free, and nothing counts
pub seen_none : (first count : ℕ) (words : List ℕ) → ((p : ℕ) → p < count → is_set words p ≡ false) → (b : ℕ) → is_free_at (seen first count words) b ≡ false
seen_none first count words clear b = is_free_at-seen first count words b ∙ elim (cases_Bool (is_within first count b)) [
  | inl inside ↦ rw inside (clear (b - first) (in_range first count b inside).1)
  | inr outside ↦ rw outside refl
]

pub none_in_words : (n : ℕ) (words : List ℕ) → ((i : ℕ) → i < n → get_or words i 0 ≡ 0) → (p : ℕ) → p < 64 * n → is_set words p ≡ false
none_in_words n words zeros p lt = ap (λ w. bit_at w (p % 64) == 1) (zeros (p / 64) (omega arith)) ∙ ap (λ b. b == 1) (bit_at-zero (p % 64))

pub none_counted : (count : ℕ) (words : List ℕ) → ((p : ℕ) → p < count → is_set words p ≡ false) → count_below (is_set words) count ≡ 0
none_counted count words clear = count_below-agree (is_set words) (λ b. false) count clear ∙ count_below-zero (λ b. false) count (λ b. refl)

-- two pools see the same blocks
pub same_range : (first count other_first other_count : ℕ) (words other : List ℕ) (s t : FreeSet) → seen first count words ≡ s → seen other_first other_count other ≡ t → SameBlocks s t → (other_first ≡ first) × (other_count ≡ count)
same_range first count other_first other_count words other s t sees sees_other same = (
  ap (λ (x : FreeSet). x.first) sees_other ∙ same.first ∙ sym (ap (λ (x : FreeSet). x.first) sees),
  sym (length-map-range_with_len (λ p. is_set other p) 0 other_count) ∙ ap (λ (x : FreeSet). length x.marks) sees_other ∙ same.length
      ∙ sym (ap (λ (x : FreeSet). length x.marks) sees) ∙ length-map-range_with_len (λ p. is_set words p) 0 count,
)

-- the bits of two pools of the same blocks, in which no block is free twice, go together
module _ (first count other_first other_count n : ℕ) (words other new : List ℕ) (s t : FreeSet)
    (sees : seen first count words ≡ s) (sees_other : seen other_first other_count other ≡ t) (same : SameBlocks s t)
    (apart : (b : ℕ) → is_free_at t b ≡ true → is_free_at s b ≡ false)
    (room : count ≤ 64 * n) (joined : AreBoth n words other new) where
  both : (p : ℕ) → p < count → is_set new p ≡ (is_set words p || is_set other p)
  both p lt = both_set n words other new joined p (omega arith)

  range : (other_first ≡ first) × (other_count ≡ count)
  range = same_range first count other_first other_count words other s t sees sees_other same

  sees_there : seen first count other ≡ t
  sees_there = ap (λ f. seen f count other) (sym range.0) ∙ ap (λ k. seen other_first k other) (sym range.1) ∙ sees_other

  pub joined_free : (b : ℕ) → is_free_at (seen first count new) b ≡ (is_free_at s b || is_free_at t b)
  joined_free b =
      both_free first count words other new both b ∙ ap (λ x. is_free_at x b || is_free_at (seen first count other) b) sees ∙ ap (λ x. is_free_at s b || is_free_at x b) sees_there

  pub joined_counted : count_below (is_set words) count + count_below (is_set other) other_count ≡ count_below (is_set new) count
  joined_counted =
      ap (λ k. count_below (is_set words) count + count_below (is_set other) k) range.1
      ∙ both_counted first count words other new both (λ b there. ap (λ x. is_free_at x b) sees ∙ apart b (sym (ap (λ x. is_free_at x b) sees_there) ∙ there))

  pub joined_count : free_count (seen first count new) ≡ free_count s + free_count t
  joined_count =
      omega (arith, free_count-seen first count new, joined_counted, free_count-seen first count words, ap free_count sees, free_count-seen other_first other_count other, ap free_count sees_other)
