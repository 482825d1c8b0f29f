-- The blocks of the lowest set bits, found one after the other.
use Rattle.std.proofs.Common.{◌≡◌, ℕ, ◌+◌, ◌-◌, ◌<◌, ◌≤◌, true, false, List, [], ◌∷◌, ◌++◌, length, get_or, take, refl, sym, ◌∙◌, ap, subst, inl, inr, arith}
use Rattle.std.specs.Prelude.{◌==◌, All, AllPairs}
use Rattle.std.proofs.lemmas.Bool.{cases_eq, cases_lt, false≢true, or_left, eq-eqb, ne_eqb}
use Rattle.std.proofs.lemmas.List.{length_push, get_or_at, length-take-le, get_or-take, get_or_default}
use Rattle.std.proofs.lemmas.List.Elements.{All-push, All-weaker}
use Rattle.std.proofs.lemmas.List.Quantifiers.{all_pairs_push}
use Rattle.std.proofs.lemmas.List.Folds.{list_any-append, list_any_at, list_any_none}
use Rattle.block_pool.specs.FreeSets.{is_among}
use Rattle.block_pool.specs.Bits.{is_set, NoneSet, IsNext, IsSetBlock, AreLowest}
use Rattle.extent_map.specs.extent_model.Counts.{one_if, count_below, count_below-more, count_below-none}

-- the blocks are those of all set bits before `from`
pub record AreAllBefore (words : List ℕ) (first count from : ℕ) (blocks : List ℕ) : Type 0 where
  pub within : from ≤ count
  pub rising : AllPairs ◌<◌ blocks
  pub set : All (IsSetBlock words first count) blocks
  pub below : All (λ b. b < first + from) blocks
  pub all : (p : ℕ) → p < from → is_set words p ≡ true → is_among blocks (first + p) ≡ true
  pub counted : count_below (is_set words) from ≡ length blocks

-- one more block at the end of a list is among it, and all that were are
among_here : (blocks : List ℕ) (x : ℕ) → is_among (blocks ++ x ∷ []) x ≡ true
among_here blocks x = list_any_at (λ t. t == x) (blocks ++ x ∷ []) (length blocks) x (omega (arith, length_push blocks x)) (eq-eqb _ _ (get_or_at blocks x [] x (length blocks) refl))

among_kept : (blocks : List ℕ) (x b : ℕ) → is_among blocks b ≡ true → is_among (blocks ++ x ∷ []) b ≡ true
among_kept blocks x b h = list_any-append (λ t. t == b) blocks (x ∷ []) ∙ or_left _ _ h

pub none_yet : (words : List ℕ) (first count : ℕ) → AreAllBefore words first count 0 []
unfolding count_below
none_yet words first count = record {
  within = omega arith;
  rising = λ i j d lt in_range. absurd (omega arith);
  set = λ k d lt. absurd (omega arith);
  below = λ k d lt. absurd (omega arith);
  all = λ p lt. absurd (omega arith);
  counted = refl;
}

module _ (words : List ℕ) (first count from : ℕ) (blocks : List ℕ) (so_far : AreAllBefore words first count from blocks) where
  -- where no bit is set any more, all set bits are found
  pub all_found : NoneSet words from count → count_below (is_set words) count ≡ length blocks
  all_found none = count_below-none (is_set words) from count so_far.within none ∙ so_far.counted

  -- the next set bit gives one more block
  pub next_found : (place : ℕ) → IsNext words from count place → AreAllBefore words first count (place + 1) (blocks ++ (first + place) ∷ [])
  next_found place next =
      let x : ℕ = first + place in
      record {
        within = omega (arith, next.before);
        rising = all_pairs_push ◌<◌ blocks x so_far.rising (λ k d lt. let b = so_far.below k d lt in omega (arith, next.behind));
        set = All-push (IsSetBlock words first count) blocks x so_far.set (record { low = omega arith; high = omega (arith, next.before); set = subst (λ p. is_set words p ≡ true) {x = place} {y = x - first} (omega arith) next.set });
        below = All-push (λ b. b < first + (place + 1)) blocks x (All-weaker (λ b. b < first + from) (λ b. b < first + (place + 1)) (λ b lt. omega (arith, next.behind)) blocks so_far.below) (omega arith);
        all = λ p lt set. elim (cases_eq p place) [
          | inl here ↦ subst (λ q. is_among (blocks ++ x ∷ []) (first + q) ≡ true) (sym here) (among_here blocks x)
          | inr apart ↦ elim (cases_lt p from) [
            | inl before ↦ among_kept blocks x (first + p) (so_far.all p before set)
            | inr behind ↦ absurd (false≢true (sym (next.none p behind (omega arith)) ∙ set))
          ]
        ];
        counted =
            let skipped = count_below-none (is_set words) from place next.behind next.none in
            let one : one_if (is_set words place) ≡ 1 = ap one_if next.set in
            omega (arith, count_below-more (is_set words) place, one, skipped, so_far.counted, length_push blocks x);
      }

  -- so many are the lowest
  pub lowest_found : (n : ℕ) → length blocks ≡ n → AreLowest words first count n blocks
  lowest_found n size = record {
    size = size;
    rising = so_far.rising;
    set = so_far.set;
    lowest = λ b set absent k d lt. elim (cases_lt (b - first) from) [
      | inl before ↦
          let there : is_among blocks b ≡ true = subst (λ q. is_among blocks q ≡ true) {x = first + (b - first)} {y = b} (omega (arith, set.low)) (so_far.all (b - first) before set.set) in
          absurd (false≢true (sym absent ∙ there))
      | inr behind ↦ let below = so_far.below k d lt in omega (arith, set.low)
    ];
  }

-- the block of a list's next place is none of those before it
pub fresh_at : (blocks : List ℕ) (i d : ℕ) → AllPairs ◌<◌ blocks → i < length blocks → is_among (take i blocks) (get_or blocks i d) ≡ false
fresh_at blocks i d rising lt = list_any_none (λ t. t == get_or blocks i d) (take i blocks) (λ k e in_front.
    let size = length-take-le i blocks (omega arith) in
    let below = rising k i d (omega arith) lt in
    let read : get_or (take i blocks) k e ≡ get_or blocks k d = get_or-take i blocks k e (omega arith) ∙ get_or_default blocks k e d (omega arith) in
    ne_eqb _ _ (λ same. omega (arith, same, read)))
