-- Blocks that are set aside: as a list, and what the tables keep where they come free, or wait.
use Rattle.std.proofs.Common.{◌≡◌, ◌<◌, ◌≤◌, ◌+◌, ◌-◌, ℕ, zero, suc, Bool, true, false, not, List, [], ◌∷◌, ◌++◌, length, refl, sym, ◌∙◌, ap, inl, inr, arith}
use Rattle.std.proofs.lemmas.Bool.{both_ways, cases_Bool, cases_eq, false_from_ne_true}
use Rattle.std.proofs.lemmas.Bool.Decides.{nat_tests}
use Rattle.std.proofs.lemmas.List.Sums.{sum_by-cons}
use Rattle.std.specs.Prelude.{◌==◌, ◌&&◌, ◌||◌}
use Rattle.std.specs.List.{range_with_len}
use Rattle.k_reading.specs.block_pool.Facts.{among-free_list}
use Rattle.k_reading.specs.block_pool.FreeSets.{FreeSet, LiesWithin, SameBlocks, free_list, has_block, is_among, is_free_at}
use Rattle.layout_model.specs.Places.{data_blocks, first_data, is_data_block}
use Rattle.k_tables.specs.image_model.Placed.{block_at, extent_at, no_extent}
use Rattle.k_tables.specs.extent_model.Counts.{one_if}
use Rattle.k_tables.specs.extent_model.declared.extent_words.Extent.{Extent}
use Rattle.k_tables.specs.extent_model.Extents.{IsCanonical, IsExtent, covers, holds_disk, is_within}
use Rattle.volume_change_laws.specs.Hits.{in_chain-append, in_chain-none, in_chain-push}
use Rattle.volume_change_laws.specs.Switches.{among-counted, counted-among, unused-data}
use Rattle.map_chain.specs.volume_laws.UseLaws.{covers-in_map, in_chain-at, in_chain-two, in_map-at, in_map-covers, in_map-two}
use Rattle.map_chain.specs.volume_laws.Uses.{in_chain, in_map, is_unused}
use Rattle.k_plans.specs.Free.{AreKeptBack, AreTables}
use Rattle.k_plans.specs.Giving.{AreGiven, MayGiveChain, MayGiveMap, is_held}
use Rattle.k_plans.specs.Switching.{with_aside, with_waiting}
use Rattle.k_plans.specs.View.{TablesView, map_blocks}
use Rattle.k_plans.specs.Whole.{IsWhole}

-- ---- tests

pub or_comm : (x y : Bool) → (x || y) ≡ (y || x)
or_comm true true = refl
or_comm true false = refl
or_comm false true = refl
or_comm false false = refl

pub among-append : (xs ys : List ℕ) (b : ℕ) → is_among (xs ++ ys) b ≡ (is_among xs b || is_among ys b)
among-append [] ys b = refl
among-append (x ∷ xs) ys b = elim (cases_Bool (x == b)) [
  | inl here ↦ rw here refl
  | inr away ↦ rw away (among-append xs ys b)
]

-- ---- the disk blocks of a map, as a list

-- one block less of a run
run-less : (first n b : ℕ) → one_if (is_within first (suc n) b) ≡ one_if (first == b) + one_if (is_within (first + 1) n b)
run-less first n b = elim (cases_eq first b) [
  | inl here ↦
      let all : is_within first (suc n) b ≡ true = grind (arith, nat_tests, here) in
      let rest : is_within (first + 1) n b ≡ false = grind (arith, nat_tests, here) in
      let is : (first == b) ≡ true = grind (arith, nat_tests, here) in
      omega (arith, ap one_if all, ap one_if rest, ap one_if is)
  | inr apart ↦
      let same : is_within first (suc n) b ≡ is_within (first + 1) n b = grind (arith, nat_tests, apart) in
      let none : (first == b) ≡ false = grind (arith, nat_tests, apart) in
      omega (arith, ap one_if same, ap one_if none)
]

in_chain-run : (first n b : ℕ) → in_chain (range_with_len first n) b ≡ one_if (is_within first n b)
in_chain-run first zero b =
    let none : is_within first 0 b ≡ false = grind (arith, nat_tests) in
    in_chain-none b ∙ sym (ap one_if none)
in_chain-run first (suc n) b =
    omega (
      arith,
      in_chain-append (first ∷ []) (range_with_len (first + 1) n) b,
      in_chain-push [] first b,
      in_chain-none b,
      in_chain-run (first + 1) n b,
      run-less first n b,
    )

pub in_chain-map_blocks : (es : List Extent) (b : ℕ) → in_chain (map_blocks es) b ≡ in_map es b
in_chain-map_blocks [] b = in_chain-none b
in_chain-map_blocks (e ∷ es) b =
    omega (
      arith,
      in_chain-append (range_with_len e.disk e.count) (map_blocks es) b,
      in_chain-run e.disk e.count b,
      in_chain-map_blocks es b,
      sum_by-cons (λ (x : Extent). one_if (holds_disk x b)) e es,
    )

pub among-map_blocks : (es : List Extent) (b : ℕ) → is_among (map_blocks es) b ≡ covers es b
among-map_blocks es b = elim (cases_Bool (covers es b)) [
  | inl has ↦ counted-among (map_blocks es) b (omega (arith, in_map-covers es b has, in_chain-map_blocks es b)) ∙ sym has
  | inr none ↦
      false_from_ne_true (is_among (map_blocks es) b) (λ among.
      both_ways (covers es b) none
      (covers-in_map es b (omega (arith, among-counted (map_blocks es) b among, in_chain-map_blocks es b))))
      ∙ sym none
]

-- with those of a list behind
pub aside-counted : (es : List Extent) (blocks : List ℕ) (b : ℕ) → in_chain (map_blocks es ++ blocks) b ≡ in_map es b + in_chain blocks b
aside-counted es blocks b = omega (arith, in_chain-append (map_blocks es) blocks b, in_chain-map_blocks es b)

pub held-among : (es : List Extent) (blocks : List ℕ) (b : ℕ) → is_held blocks es b ≡ is_among (map_blocks es ++ blocks) b
held-among es blocks b =
    or_comm (is_among blocks b) (covers es b) ∙ ap (λ c. c || is_among blocks b) (sym (among-map_blocks es b))
    ∙ sym (among-append (map_blocks es) blocks b)

-- ---- they may be given to a pool

-- a pool of the data blocks, in which no block is free that is set aside
pub record TakesAside (t : TablesView) (pool : FreeSet) : Type 0 where
  pub first : pool.first ≡ first_data t.volume.geometry
  pub count : length pool.marks ≡ data_blocks t.volume.geometry
  pub used : (b : ℕ) → is_among t.aside b ≡ true → is_free_at pool b ≡ false

aside-used : (u a w : Bool) → a ≡ true → (u && not (a || w)) ≡ false
aside-used true a w is = rw is refl
aside-used false a w is = refl

pub pool-takes : (t : TablesView) (pool held : FreeSet) → AreTables t pool held → TakesAside t pool
pool-takes t pool held are = record {
  first = are.pool_is.first;
  count = are.pool_is.count;
  used = λ b is. are.pool_is.free b ∙ aside-used (is_unused t.volume b) (is_among t.aside b) (is_among t.waiting b) is;
}

-- a block is free in the pool of those that wait where it is one of these
pub held-waits : (t : TablesView) (held : FreeSet) → t.waiting ≡ free_list held → (b : ℕ) → is_free_at held b ≡ is_among t.waiting b
held-waits t held is b = sym (ap (λ ks. is_among ks b) is ∙ among-free_list held b)

pub held-takes : (t : TablesView) (pool held : FreeSet) → AreTables t pool held → t.waiting ≡ free_list held → TakesAside t held
held-takes t pool held are is = record {
  first = are.held_is.first ∙ are.pool_is.first;
  count = are.held_is.length ∙ are.pool_is.count;
  used = λ b among. held-waits t held is b ∙ are.back.apart b among;
}

module _ (t : TablesView) (pool : FreeSet) (blocks : List ℕ) (es : List Extent) (aside_is : t.aside ≡ map_blocks es ++ blocks)
    (whole : IsWhole t.volume) (back : AreKeptBack t) (takes : TakesAside t pool) (canonical : IsCanonical es) where
  counted : (b : ℕ) → in_chain t.aside b ≡ in_map es b + in_chain blocks b
  counted b = ap (λ ks. in_chain ks b) aside_is ∙ aside-counted es blocks b

  aside-data : (b : ℕ) → 1 ≤ in_chain t.aside b → is_data_block t.volume.geometry b ≡ true
  aside-data b has = unused-data t.volume b (back.aside b (counted-among t.aside b has))

  in-pool : (b : ℕ) → is_data_block t.volume.geometry b ≡ true → has_block pool b ≡ true
  in-pool b in_data =
      let least = whole.kept.geometry.least_data in
      let first = takes.first in
      let count = takes.count in
      grind (arith, nat_tests, in_data, least, first, count)

  listed : (k : ℕ) → k < length blocks → 1 ≤ in_chain t.aside (block_at blocks k)
  listed k below = omega (arith, counted (block_at blocks k), in_chain-at blocks k (block_at blocks k) below refl)

  mapped : (k b : ℕ) → k < length es → holds_disk (extent_at es k) b ≡ true → 1 ≤ in_chain t.aside b
  mapped k b below has = omega (arith, counted b, in_map-at es k b below has)

  pub aside-chain : MayGiveChain blocks pool
  aside-chain = record {
    within = λ k below. in-pool (block_at blocks k) (aside-data (block_at blocks k) (listed k below));
    used = λ k below. takes.used (block_at blocks k) (counted-among t.aside (block_at blocks k) (listed k below));
    distinct = λ j k before below same. absurd (omega (
      arith,
      in_chain-two blocks j k (block_at blocks k) before below same refl,
      counted (block_at blocks k),
      back.once (block_at blocks k),
    ));
  }

  lies : (k : ℕ) → k < length es → LiesWithin pool.first (length pool.marks) (extent_at es k)
  lies k below =
      let e : Extent = extent_at es k in
      let is : IsExtent e = canonical.each k no_extent below in
      let filled = is.filled in
      let first : holds_disk e e.disk ≡ true = grind (arith, nat_tests, filled) in
      let last : holds_disk e (e.disk + e.count - 1) ≡ true = grind (arith, nat_tests, filled) in
      let low = in-pool e.disk (aside-data e.disk (mapped k e.disk below first)) in
      let high = in-pool (e.disk + e.count - 1) (aside-data (e.disk + e.count - 1) (mapped k (e.disk + e.count - 1) below last)) in
      record { low = grind (arith, nat_tests, low); high = grind (arith, nat_tests, high, filled) }

  pub aside-map : MayGiveMap es pool
  aside-map = record {
    fits = omega (arith, takes.first, takes.count, whole.kept.geometry.least_data, whole.kept.geometry.most_blocks);
    within = lies;
    used = λ k b below has. takes.used b (counted-among t.aside b (mapped k b below has));
    apart = λ j k b before below first. false_from_ne_true (holds_disk (extent_at es k) b) (λ second.
        omega (arith, in_map-two es j k b before below first second, counted b, back.once b));
  }

  pub aside-apart : (k b : ℕ) → k < length es → holds_disk (extent_at es k) b ≡ true → is_among blocks b ≡ false
  aside-apart k b below has = false_from_ne_true (is_among blocks b) (λ among.
      omega (arith, in_map-at es k b below has, among-counted blocks b among, counted b, back.once b))

  pub aside-given : (before after : FreeSet) → AreGiven (is_held blocks es) before after → AreGiven (is_among t.aside) before after
  aside-given before after given = record {
    same = given.same;
    free = λ b. given.free b ∙ ap (λ h. is_free_at before b || h) (held-among es blocks b ∙ sym (ap (λ ks. is_among ks b) aside_is));
  }

-- ---- and what the tables keep then

-- no block is set aside
none-aside : (t : TablesView) (waiting : List ℕ) → ((b : ℕ) → is_among waiting b ≡ true → is_unused t.volume b ≡ true)
    → AreKeptBack (with_waiting waiting (with_aside [] t))
none-aside t waiting unused = record {
  aside = λ b never. absurd (both_ways false refl never);
  waiting = unused;
  apart = λ b never. absurd (both_ways false refl never);
  once = λ b. omega (arith, in_chain-none b);
}

released-free : (u a w : Bool) → (a ≡ true → u ≡ true) → (a ≡ true → w ≡ false) → ((u && not (a || w)) || a) ≡ (u && not (false || w))
released-free u true w unused apart = rw (unused refl, apart refl) refl
released-free true false true unused apart = refl
released-free true false false unused apart = refl
released-free false false w unused apart = refl

pub released-tables : (t : TablesView) (pool held after : FreeSet) → AreTables t pool held → AreGiven (is_among t.aside) pool after
    → AreTables (with_aside [] t) after held
released-tables t pool held after are given = record {
  whole = are.whole;
  pool_is = record {
    first = given.same.first ∙ are.pool_is.first;
    count = given.same.length ∙ are.pool_is.count;
    free = λ b. given.free b ∙ ap (λ f. f || is_among t.aside b) (are.pool_is.free b)
        ∙ released-free (is_unused t.volume b) (is_among t.aside b) (is_among t.waiting b) (are.back.aside b) (are.back.apart b);
  };
  back = none-aside t t.waiting are.back.waiting;
  held_is = record { first = are.held_is.first ∙ sym given.same.first; length = are.held_is.length ∙ sym given.same.length };
}

or_cases : (x y : Bool) → (x || y) ≡ true → x ≡ false → y ≡ true
or_cases true y either never = absurd (both_ways true never refl)
or_cases false y either never = either

pub held-among_both : (t : TablesView) (held after : FreeSet) → t.waiting ≡ free_list held → AreGiven (is_among t.aside) held after
    → (b : ℕ) → is_among (free_list after) b ≡ (is_among t.waiting b || is_among t.aside b)
held-among_both t held after is given b =
    among-free_list after b ∙ given.free b ∙ ap (λ w. w || is_among t.aside b) (held-waits t held is b)

pub held-tables : (t : TablesView) (pool held after : FreeSet) → AreTables t pool held → t.waiting ≡ free_list held
    → AreGiven (is_among t.aside) held after → AreTables (with_waiting (free_list after) (with_aside [] t)) pool after
held-tables t pool held after are is given = record {
  whole = are.whole;
  pool_is = record {
    first = are.pool_is.first;
    count = are.pool_is.count;
    free = λ b. are.pool_is.free b
        ∙ ap (λ x. is_unused t.volume b && not x) (or_comm (is_among t.aside b) (is_among t.waiting b) ∙ sym (held-among_both t held after is given b));
  };
  back = none-aside t (free_list after) (λ b waits. elim (cases_Bool (is_among t.waiting b)) [
    | inl before ↦ are.back.waiting b before
    | inr other ↦
        are.back.aside b (or_cases (is_among t.waiting b) (is_among t.aside b) (sym (held-among_both t held after is given b) ∙ waits) other)
  ]);
  held_is = record { first = given.same.first ∙ are.held_is.first; length = given.same.length ∙ are.held_is.length };
}

-- ---- what waits comes free

settled-free : (u a w : Bool) → (w ≡ true → u ≡ true) → (a ≡ true → w ≡ false) → ((u && not (a || w)) || w) ≡ (u && not (a || false))
settled-free u true true unused apart = absurd (both_ways true (apart refl) refl)
settled-free u false true unused apart = rw (unused refl) refl
settled-free true true false unused apart = refl
settled-free true false false unused apart = refl
settled-free false a false unused apart = refl

pub settled-tables : (t : TablesView) (pool held after : FreeSet) (rest : FreeSet) → AreTables t pool held → t.waiting ≡ free_list held
    → SameBlocks pool after → ((b : ℕ) → is_free_at after b ≡ (is_free_at pool b || is_free_at held b)) → SameBlocks held rest
    → AreTables (with_waiting [] t) after rest
settled-tables t pool held after rest are is same free other = record {
  whole = are.whole;
  pool_is = record {
    first = same.first ∙ are.pool_is.first;
    count = same.length ∙ are.pool_is.count;
    free = λ b. free b ∙ (λ i. are.pool_is.free b i || held-waits t held is b i)
        ∙ settled-free (is_unused t.volume b) (is_among t.aside b) (is_among t.waiting b) (are.back.waiting b) (are.back.apart b);
  };
  back = record {
    aside = are.back.aside;
    waiting = λ b never. absurd (both_ways false refl never);
    apart = λ b among. refl;
    once = are.back.once;
  };
  held_is = record {
    first = other.first ∙ are.held_is.first ∙ sym same.first;
    length = other.length ∙ are.held_is.length ∙ sym same.length;
  };
}

waits-used : (u a w : Bool) → w ≡ true → (u && not (a || w)) ≡ false
waits-used true true w is = refl
waits-used true false w is = rw is refl
waits-used false a w is = refl

pub waits-unfree : (t : TablesView) (pool held : FreeSet) → AreTables t pool held → t.waiting ≡ free_list held
    → (b : ℕ) → is_free_at held b ≡ true → is_free_at pool b ≡ false
waits-unfree t pool held are is b free =
    are.pool_is.free b
    ∙ waits-used (is_unused t.volume b) (is_among t.aside b) (is_among t.waiting b) (sym (held-waits t held is b) ∙ free)

-- a pool in which no block is free lists none
pub nothing-listed : (s : FreeSet) → ((b : ℕ) → is_free_at s b ≡ false) → free_list s ≡ []
nothing-listed s none = empty (free_list s) (λ b. among-free_list s b ∙ none b)
  where
    empty : (xs : List ℕ) → ((b : ℕ) → is_among xs b ≡ false) → xs ≡ []
    empty [] none = refl
    empty (x ∷ xs) none =
        let here : (x == x) ≡ true = grind (arith, nat_tests) in
        absurd (both_ways (is_among (x ∷ xs) x) (none x) (ap (λ y. y || is_among xs x) here))

pub nothing-counted : (xs : List ℕ) → length xs ≡ 0 → xs ≡ []
nothing-counted [] none = refl
nothing-counted (x ∷ xs) none = absurd (omega (arith, none))
