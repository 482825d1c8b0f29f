-- Blocks that are set aside, and an inode that goes over to a map: what the tables keep.
use Rattle.std.proofs.Common.{◌≡◌, ◌≤◌, ℕ, Bool, true, false, not, get_or, List, ◌++◌, ◌⊎◌, refl, sym, ◌∙◌, ap, inl, inr, arith, subst}
use Rattle.std.proofs.lemmas.Bool.{both_ways, cases_Bool, cases_eq, cases_lt, eqb-true, false_from_ne_true}
use Rattle.std.proofs.lemmas.List.Folds.{Any-from_list_any}
use Rattle.std.specs.Prelude.{◌==◌, ◌&&◌, ◌||◌, All}
use Rattle.k_reading.specs.block_pool.FreeSets.{FreeSet, Takes, is_among, is_free_at}
use Rattle.layout_model.specs.declared.lines.Inode.{Inode}
use Rattle.layout_model.specs.Places.{is_data_block}
use Rattle.k_tables.specs.image_model.Volume.{chain}
use Rattle.k_tables.specs.extent_model.declared.extent_words.Extent.{Extent}
use Rattle.k_tables.specs.extent_model.Extents.{IsCanonical}
use Rattle.volume_change_laws.specs.k_split_model.Taken.{switched, with_map}
use Rattle.volume_change_laws.specs.LineLaws.{lines-inode, maps-inode}
use Rattle.k_tables.specs.volume_laws.Changes.{chain-set_other, chain-set_same}
use Rattle.volume_change_laws.specs.Switches.{MaySwitch, StandsWith, counted-among, switched-chain, switched-free, switched-keeps, wait-once, wait-unused, among-counted}
use Rattle.volume_change_laws.specs.Hits.{in_chain-append}
use Rattle.volume_change_laws.specs.TakenLaws.{rising-once}
use Rattle.map_chain.specs.volume_laws.Uses.{in_chain, is_unused}
use Rattle.k_plans.specs.Free.{AreKeptBack, AreTables, is_free_block}
use Rattle.k_plans.specs.Switching.{IsSetAside, switched_tables, with_aside}
use Rattle.k_plans.specs.View.{TablesView}
use Rattle.k_plans.specs.Whole.{IsWhole}
use Rattle.k_plans.proofs.Asides.{among-append}
use Rattle.k_plans.proofs.Wholes.{inodes-set}

-- ---- blocks are set aside

not_or : (u a w x : Bool) → (u && not (a || w) && not x) ≡ (u && not ((a || x) || w))
not_or true true w x = refl
not_or true false true true = refl
not_or true false true false = refl
not_or true false false true = refl
not_or true false false false = refl
not_or false a w x = refl

or_cases : (x y : Bool) → (x || y) ≡ true → x ≡ false → y ≡ true
or_cases true y either never = absurd (both_ways true never refl)
or_cases false y either never = either

-- a free block is unused, is not set aside and does not wait
record IsFreeOf (t : TablesView) (b : ℕ) : Type 0 where
  unused : is_unused t.volume b ≡ true
  home : is_among t.aside b ≡ false
  settled : is_among t.waiting b ≡ false

free-of : (t : TablesView) (b : ℕ) → is_free_block t b ≡ true → IsFreeOf t b
free-of t b free = by (is_unused t.volume b) (is_among t.aside b) (is_among t.waiting b) refl refl refl free
  where
    by : (u a w : Bool) → is_unused t.volume b ≡ u → is_among t.aside b ≡ a → is_among t.waiting b ≡ w → (u && not (a || w)) ≡ true → IsFreeOf t b
    by true false false unused home settled is = record { unused = unused; home = home; settled = settled }
    by true true w unused home settled is = absurd (both_ways false refl is)
    by true false true unused home settled is = absurd (both_ways false refl is)
    by false a w unused home settled is = absurd (both_ways false refl is)

module _ (t : TablesView) (n : ℕ) (taken : List ℕ) (pool held after : FreeSet) (are : AreTables t pool held) (takes : Takes n taken pool after) where
  was_free : (b : ℕ) → is_among taken b ≡ true → IsFreeOf t b
  was_free b among =
      let any = Any-from_list_any (λ t. t == b) taken among in
      free-of t b
      (sym (are.pool_is.free b) ∙ subst (λ k. is_free_at pool k ≡ true) (any.3 ∙ eqb-true any.1 b any.4) (takes.were_free any.0 any.1 any.2))

  -- a block that is set aside then was before, or is taken
  or_taken : (b : ℕ) → is_among (t.aside ++ taken) b ≡ true → (is_among t.aside b ≡ true) ⊎ (is_among taken b ≡ true)
  or_taken b aside = elim (cases_Bool (is_among t.aside b)) [
    | inl before ↦ inl before
    | inr other ↦ inr (or_cases (is_among t.aside b) (is_among taken b) (sym (among-append t.aside taken b) ∙ aside) other)
  ]

  set_aside-once : (b : ℕ) → in_chain (t.aside ++ taken) b ≤ 1
  set_aside-once b = elim (cases_lt 0 (in_chain taken b)) [
    | inl has ↦ elim (cases_lt 0 (in_chain t.aside b)) [
      | inl before ↦
          absurd (both_ways (is_among t.aside b) ((was_free b (counted-among taken b (omega arith))).home) (counted-among t.aside b (omega arith)))
      | inr home ↦ omega (arith, in_chain-append t.aside taken b, rising-once taken b takes.rising)
    ]
    | inr none ↦ omega (arith, in_chain-append t.aside taken b, are.back.once b)
  ]

  set_aside-back : AreKeptBack (with_aside (t.aside ++ taken) t)
  set_aside-back = record {
    aside = λ b aside. elim (or_taken b aside) [
      | inl before ↦ are.back.aside b before
      | inr now ↦ (was_free b now).unused
    ];
    waiting = are.back.waiting;
    apart = λ b aside. elim (or_taken b aside) [
      | inl before ↦ are.back.apart b before
      | inr now ↦ (was_free b now).settled
    ];
    once = set_aside-once;
  }

  pub set_aside-tables : AreTables (with_aside (t.aside ++ taken) t) after held
  set_aside-tables = record {
    whole = are.whole;
    pool_is = record {
      first = takes.same.first ∙ are.pool_is.first;
      count = takes.same.length ∙ are.pool_is.count;
      free = λ b.
          takes.free b ∙ ap (λ f. f && not (is_among taken b)) (are.pool_is.free b)
          ∙ not_or (is_unused t.volume b) (is_among t.aside b) (is_among t.waiting b) (is_among taken b)
          ∙ ap (λ a. is_unused t.volume b && not (a || is_among t.waiting b)) (sym (among-append t.aside taken b));
    };
    back = set_aside-back;
    held_is = record { first = are.held_is.first ∙ sym takes.same.first; length = are.held_is.length ∙ sym takes.same.length };
  }

-- the test by which blocks are taken, for a list of them
all-free : (t : TablesView) (pool held : FreeSet) (taken : List ℕ) → AreTables t pool held → All (λ b. is_free_at pool b ≡ true) taken
    → All (λ b. is_free_block t b ≡ true) taken
all-free t pool held taken are free k d below = sym (are.pool_is.free (get_or taken k d)) ∙ free k d below

pub set_aside-is : (t u : TablesView) (n : ℕ) (taken : List ℕ) (pool held after : FreeSet) → AreTables t pool held → Takes n taken pool after
    → u ≡ with_aside (t.aside ++ taken) t → IsSetAside n taken t u
set_aside-is t u n taken pool held after are takes is = record {
  lowest = record {
    count = takes.count;
    rising = takes.rising;
    were_free = all-free t pool held taken are takes.were_free;
    lowest = λ b free none. takes.lowest b (are.pool_is.free b ∙ free) none;
  };
  after = is;
}

-- ---- an inode goes over to a map

stands-with : (t : TablesView) (pool held : FreeSet) → AreTables t pool held → StandsWith t.volume t.aside
stands-with t pool held are = record {
  kept = are.whole.kept.kept;
  lines = are.whole.kept.all;
  maps = are.whole.maps;
  chains = are.whole.chains;
  unused = λ b has. are.back.aside b (counted-among t.aside b has);
}

module _ (t : TablesView) (pool held : FreeSet) (ino : ℕ) (x : Inode) (blocks : List ℕ) (es : List Extent) (aside : List ℕ)
    (are : AreTables t pool held) (canonical : IsCanonical es) (may : MaySwitch t.volume t.aside ino x blocks es aside) where
  pub switched-whole : IsWhole (switched ino x blocks es t.volume)
  switched-whole = record {
    kept = record {
      kept = switched-keeps t.volume t.aside ino x blocks es aside (stands-with t pool held are) canonical may;
      all = lines-inode ino (with_map blocks es x) blocks es t.volume are.whole.kept.all;
      geometry = are.whole.kept.geometry;
    };
    maps = maps-inode ino (with_map blocks es x) blocks es t.volume are.whole.maps;
    inodes = inodes-set t.volume ino (with_map blocks es x) may.below may.fields are.whole.inodes;
    chains = λ i. elim (cases_eq i ino) [
      | inl same ↦
          let own : chain (switched ino x blocks es t.volume) ino ≡ blocks =
          chain-set_same ino (with_map blocks es x) blocks es t.volume (omega (arith, may.below, are.whole.maps.chain_count))
          in
          subst (All (λ b. is_data_block t.volume.geometry b ≡ true)) (sym (ap (chain (switched ino x blocks es t.volume)) same ∙ own))
          (switched-chain t.volume t.aside ino x blocks es aside (stands-with t pool held are) canonical may)
      | inr other ↦
          subst (All (λ b. is_data_block t.volume.geometry b ≡ true))
          (sym (chain-set_other ino (with_map blocks es x) blocks es t.volume i other)) (are.whole.chains i)
    ];
  }

  pub switched-back : AreKeptBack (switched_tables ino x blocks es aside t)
  switched-back = record {
    aside = λ b is.
        wait-unused t.volume t.aside ino x blocks es aside (stands-with t pool held are) canonical may b (among-counted aside b is);
    waiting = λ b waits. still-unused b waits;
    apart = λ b is. false_from_ne_true (is_among t.waiting b) (λ waits. never b is waits);
    once = wait-once t.volume t.aside ino x blocks es aside (stands-with t pool held are) canonical may;
  }
    where
      -- a block that waits is not set aside
      free_of_aside : (b : ℕ) → is_among t.waiting b ≡ true → (is_unused t.volume b && not (is_among t.aside b)) ≡ true
      free_of_aside b waits =
          let home : is_among t.aside b ≡ false =
          false_from_ne_true (is_among t.aside b) (λ among. both_ways (is_among t.waiting b) (are.back.apart b among) waits)
          in
          λ i. (are.back.waiting b waits i) && not (home i)

      now_free : (b : ℕ) → is_among t.waiting b ≡ true → (is_unused (switched ino x blocks es t.volume) b && not (is_among aside b)) ≡ true
      now_free b waits =
          switched-free t.volume t.aside ino x blocks es aside (stands-with t pool held are) canonical may b ∙ free_of_aside b waits

      still-unused : (b : ℕ) → is_among t.waiting b ≡ true → is_unused (switched ino x blocks es t.volume) b ≡ true
      still-unused b waits = first (is_unused (switched ino x blocks es t.volume) b) (is_among aside b) (now_free b waits)
        where
          first : (u a : Bool) → (u && not a) ≡ true → u ≡ true
          first true a both = refl
          first false a both = absurd (both_ways false refl both)

      never : (b : ℕ) → is_among aside b ≡ true → is_among t.waiting b ≡ true → ⊥
      never b is waits = both_ways false refl (out (is_unused (switched ino x blocks es t.volume) b) (is_among aside b) is (now_free b waits))
        where
          out : (u a : Bool) → a ≡ true → (u && not a) ≡ true → false ≡ true
          out true true is both = both
          out false a is both = both
          out true false is both = is

  -- no block comes free, and none is taken
  pub still-free : (b : ℕ) → is_free_block (switched_tables ino x blocks es aside t) b ≡ is_free_block t b
  still-free b =
      not_two (is_unused (switched ino x blocks es t.volume) b) (is_among aside b) (is_among t.waiting b)
      ∙ ap (λ f. f && not (is_among t.waiting b))
      (switched-free t.volume t.aside ino x blocks es aside (stands-with t pool held are) canonical may b)
      ∙ sym (not_two (is_unused t.volume b) (is_among t.aside b) (is_among t.waiting b))
    where
      not_two : (u a w : Bool) → (u && not (a || w)) ≡ ((u && not a) && not w)
      not_two true true w = refl
      not_two true false w = refl
      not_two false a w = refl

  pub switched-are : AreTables (switched_tables ino x blocks es aside t) pool held
  switched-are = record {
    whole = switched-whole;
    pool_is = record {
      first = are.pool_is.first;
      count = are.pool_is.count;
      free = λ b. are.pool_is.free b ∙ sym (still-free b);
    };
    back = switched-back;
    held_is = are.held_is;
  }
