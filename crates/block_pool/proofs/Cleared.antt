-- Bits of rising blocks, cleared one after the other.
use Rattle.std.proofs.Common.{◌≡◌, ◌≢◌, ℕ, ◌+◌, ◌-◌, ◌<◌, Bool, true, false, not, ◌||◌, ◌&&◌, List, length, get_or, take, refl, sym, ◌∙◌, ap, subst, inl, inr, arith}
use Rattle.std.specs.Prelude.{◌==◌, AllPairs}
use Rattle.std.proofs.lemmas.Bool.{cases_eq, ne_eqb, eq-eqb}
use Rattle.std.proofs.lemmas.List.Folds.{list_any_more}
use Rattle.block_pool.specs.FreeSets.{is_among}
use Rattle.block_pool.specs.Bits.{is_set, IsSetBlock}
use Rattle.extent_map.specs.extent_model.Counts.{count_below, count_below-less}
use Rattle.block_pool.proofs.Lowest.{fresh_at}

-- the words at the start, with the first i blocks cleared, and with one more, whose bit is at `place`
module _ (old words new : List ℕ) (first count i place : ℕ) (blocks : List ℕ)
    (rising : AllPairs ◌<◌ blocks) (lt : i < length blocks) (set : IsSetBlock old first count (get_or blocks i 0)) (at : place ≡ get_or blocks i 0 - first)
    (so_far : (p : ℕ) → is_set words p ≡ (is_set old p && not (is_among (take i blocks) (first + p))))
    (here : is_set new place ≡ false) (others : (p : ℕ) → p ≢ place → is_set new p ≡ is_set words p) where
  block : first + place ≡ get_or blocks i 0
  block = omega (arith, set.low)

  more : (p : ℕ) → is_among (take (i + 1) blocks) (first + p) ≡ (is_among (take i blocks) (first + p) || (get_or blocks i 0 == (first + p)))
  more p = list_any_more (λ t. t == (first + p)) blocks i 0 lt

  pub cleared_bits : (p : ℕ) → is_set new p ≡ (is_set old p && not (is_among (take (i + 1) blocks) (first + p)))
  cleared_bits p = elim (cases_eq p place) [
    | inl same ↦
        let is : (get_or blocks i 0 == (first + p)) ≡ true = eq-eqb _ _ (omega (arith, block)) in
        ap (is_set new) same ∙ here ∙ sym (rw (more p, is) (both_false (is_set old p) (is_among (take i blocks) (first + p))))
    | inr apart ↦
        let is : (get_or blocks i 0 == (first + p)) ≡ false = ne_eqb _ _ (λ e. apart (omega (arith, block, e))) in
        others p apart ∙ so_far p ∙ sym (rw (more p, is) (unchanged (is_set old p) (is_among (take i blocks) (first + p))))
  ]
    where
      both_false : (a b : Bool) → (a && not (b || true)) ≡ false
      both_false true true = refl
      both_false true false = refl
      both_false false true = refl
      both_false false false = refl

      unchanged : (a b : Bool) → (a && not (b || false)) ≡ (a && not b)
      unchanged true true = refl
      unchanged true false = refl
      unchanged false true = refl
      unchanged false false = refl

  pub cleared_count : count_below (is_set new) count + 1 ≡ count_below (is_set words) count
  cleared_count =
      let was : is_set old place ≡ true = subst (λ p. is_set old p ≡ true) (sym at) set.set in
      let fresh : is_among (take i blocks) (first + place) ≡ false = subst (λ b. is_among (take i blocks) b ≡ false) (sym block) (fresh_at blocks i 0 rising lt) in
      let still : is_set words place ≡ true = so_far place ∙ (rw (was, fresh) refl) in
      count_below-less (is_set words) (is_set new) count place (omega (arith, set.high, set.low)) still here others
