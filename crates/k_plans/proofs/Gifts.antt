-- Blocks that come free one after the other.
use Rattle.std.proofs.Common.{◌≡◌, ◌<◌, ◌≤◌, ◌+◌, ◌⊎◌, ℕ, Bool, true, false, List, length, take, refl, sym, ◌∙◌, ap, inl, inr, arith}
use Rattle.std.proofs.lemmas.Bool.{cases_eq, eq-eqb, ne_eqb}
use Rattle.std.proofs.lemmas.Bool.Decides.{nat_tests}
use Rattle.std.specs.Prelude.{◌==◌, ◌||◌, if◌then◌else◌}
use Rattle.k_reading.specs.block_pool.FreeSets.{FreeSet, Gives, is_among, is_free_at}
use Rattle.k_tables.specs.image_model.Placed.{block_at, extent_at}
use Rattle.k_tables.specs.extent_model.declared.extent_words.Extent.{Extent}
use Rattle.k_tables.specs.extent_model.Extents.{covers, holds_disk, is_between}
use Rattle.k_plans.specs.Giving.{AreGiven}

-- the first n blocks of a chain are given, and the others are not free
pub record ChainGiven (blocks : List ℕ) (n : ℕ) (old new : FreeSet) : Type 0 where
  pub given : AreGiven (is_among (take n blocks)) old new
  pub left : (k : ℕ) → n ≤ k → k < length blocks → is_free_at new (block_at blocks k) ≡ false

-- so are the first n extents of a map
pub record MapGiven (es : List Extent) (n : ℕ) (old new : FreeSet) : Type 0 where
  pub given : AreGiven (covers (take n es)) old new
  pub left : (k b : ℕ) → n ≤ k → k < length es → holds_disk (extent_at es k) b ≡ true → is_free_at new b ≡ false

-- one block more of a run
pub run-more : (first at : ℕ) (old mid new : FreeSet) → first ≤ at → AreGiven (is_between first at) old mid → Gives at mid new
    → AreGiven (is_between first (at + 1)) old new
run-more first at old mid new low given more = record {
  same = record { first = more.same.first ∙ given.same.first; length = more.same.length ∙ given.same.length };
  free = λ b. by b (cases_eq b at);
}
  where
    or_true : (b : Bool) → (b || true) ≡ true
    or_true true = refl
    or_true false = refl

    by : (b : ℕ) → (b ≡ at) ⊎ (b ≡ at → ⊥) → is_free_at new b ≡ (is_free_at old b || is_between first (at + 1) b)
    by b (inl same) =
        let here : (b == at) ≡ true = eq-eqb b at same in
        let inside : is_between first (at + 1) b ≡ true = grind (arith, nat_tests) in
        more.free b ∙ ap (λ c. if c then true else is_free_at mid b) here ∙ sym (ap (λ c. is_free_at old b || c) inside ∙ or_true (is_free_at old b))
    by b (inr apart) =
        let other : (b == at) ≡ false = ne_eqb b at apart in
        let same : is_between first (at + 1) b ≡ is_between first at b = grind (arith, nat_tests) in
        more.free b ∙ ap (λ c. if c then true else is_free_at mid b) other ∙ given.free b ∙ ap (λ c. is_free_at old b || c) (sym same)
