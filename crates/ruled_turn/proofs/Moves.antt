-- Each step of the turn keeps its rule.
use Rattle.std.proofs.Common.{◌≡◌, ◌≢◌, ℕ, zero, suc, ◌+◌, ◌<◌, ◌≤◌, List, [], ◌∷◌, ◌++◌, length, set, sym, refl, ap, ◌∙◌, subst, ⊎_elim, arith, length-append, length-set}
use Rattle.std.specs.Prelude.{Contains, slice_get, sum_by, Option, Some, None}
use Rattle.std.specs.List.{enumerate_from}
use Rattle.std.proofs.lemmas.List.Elements.{Contains-append_cases}
use Rattle.std.proofs.lemmas.Option.{same_Some}
use mathlib.Core.Option.{none, some, some-injective, some-ne-none}
use mathlib.Core.Option as maybe
use lib.ListN.{get_elem?}
use Rattle.atomic_table.proofs.Lists.{at_set, at_snoc, set_else}
use Rattle.list_laws.specs.Numbers.{count_with-append, once_below, once_past, once-le, with_of_member}
use Rattle.list_laws.specs.Sums.{sum_at, sum_set, sum_split, sum_two}
use Rattle.ruled_turn.specs.declared.views.Standing.{Standing}
use Rattle.ruled_turn.specs.Standings.{carried_count, carried_with, first_alone, holds_turn, inside_count, joined, number_of, outside, within, without_first}
use Rattle.ruled_turn.specs.Rule.{Fits, Rule}
use Rattle.ruled_turn.proofs.Lists.{at_numbered, Contains-first, Contains-one, Contains-others, counted-numbered, counted_apart, get_else, get_here, length-numbered, length_apart}

module _ {T V : Type 0} (holds : T → List V → Type 0) where
  -- OPENING
  pub opens_rule : (n : ℕ) (x : T) (views : List V) → length views ≡ n → holds x views → Rule holds n 0 (some (Some x) ∷ []) (outside (enumerate_from 0 views) ∷ [])
  opens_rule n x views count law = record {
    views = views;
    count = count;
    holders = refl;
    one = omega arith;
    once = λ i. let same : once_below i (0 + length views) ≡ once_below i n = ap (once_below i) (omega (arith, count)) in omega (arith, counted-numbered i 0 views, once_past i 0 (omega arith), same);
    carried = omega (arith, length-numbered 0 views, count);
    fits = fits;
    inside_carries = λ j s at. holds_none j s at;
    free = λ is. (x, refl, law);
    taken = λ some_one. absurd (omega (arith, some_one));
    entered = λ j s y at inside. absurd (entered_none j s y at inside);
  } where
    first : Standing T V
    first = outside (enumerate_from 0 views)

    is_first : (j : ℕ) (s : Standing T V) → get_elem? (first ∷ []) j ≡ some s → first ≡ s
    is_first zero s at = some-injective first s at
    is_first (suc j) s at = absurd (some-ne-none s (sym at))

    fits : (j : ℕ) (s : Standing T V) → get_elem? (first ∷ []) j ≡ some s → Fits holds views s
    fits j s at = subst (Fits holds views) (is_first j s at) (λ i v has.
        let its = at_numbered 0 views has.0 i v has.1 has.2 in
        let same : has.0 ≡ i = omega (arith, its.0) in
        subst (λ (k : ℕ). slice_get views k ≡ Some v) same its.1)

    holds_none : (j : ℕ) (s : Standing T V) → get_elem? (first ∷ []) j ≡ some s → holds_turn s ≤ carried_count s
    holds_none j s at = subst (λ (r : Standing T V). holds_turn r ≤ carried_count r) (is_first j s at) (omega arith)

    entered_none : (j : ℕ) (s : Standing T V) (y : T) → get_elem? (first ∷ []) j ≡ some s → s.inside ≡ Some y → ⊥
    entered_none j s y at inside = let never : None ≡ Some y = ap (λ (r : Standing T V). r.inside) (is_first j s at) ∙ inside in cc

  -- A seat that holds the turn, where none does.
  nobody : (n word : ℕ) (homes : List (maybe.Option (Option T))) (seats : List (Standing T V)) (j : ℕ) (s : Standing T V) (y : T)
      → Rule holds n word homes seats → word ≡ 0 → get_elem? seats j ≡ some s → s.inside ≡ Some y → ⊥
  nobody n word homes seats j s y rule zero_word at inside =
      absurd (omega (arith, sum_at holds_turn seats j s at, rule.holders, zero_word, ap inside_count inside))

  -- DEALING
  pub deals_rule : (n word : ℕ) (homes : List (maybe.Option (Option T))) (seats : List (Standing T V)) (id : ℕ) (s : Standing T V)
      → Rule holds n word homes seats → get_elem? seats id ≡ some s → s.inside ≡ None → Rule holds n word homes (set seats id (without_first s) ++ first_alone s ∷ [])
  deals_rule n word homes seats id s rule at idle = record {
    views = rule.views;
    count = rule.count;
    holders = omega (arith, sum_split holds_turn seats id s left right at, rule.holders);
    one = rule.one;
    once = λ i. omega (arith, sum_split (carried_with i) seats id s left right at, counted_apart number_of i s.carried, rule.once i);
    carried = omega (arith, sum_split carried_count seats id s left right at, length_apart s.carried, rule.carried);
    fits = λ j r there. each (λ r. Fits holds rule.views r) fits_left fits_right rule.fits j r there;
    inside_carries = λ j r there. each (λ r. holds_turn r ≤ carried_count r) (omega (arith, ap inside_count idle)) (omega arith) rule.inside_carries j r there;
    free = rule.free;
    taken = rule.taken;
    entered = λ j r y there. each (λ r. r.inside ≡ Some y → holds y rule.views)
        (λ inside. let never : None ≡ Some y = sym idle ∙ inside in cc) (λ inside. cc) (λ k q there inside. rule.entered k q y there inside) j r there;
  } where
    left : Standing T V
    left = without_first s

    right : Standing T V
    right = first_alone s

    fits_left : Fits holds rule.views left
    fits_left i v has = rule.fits id s at i v (Contains-others s.carried (i, v) has)

    fits_right : Fits holds rule.views right
    fits_right i v has = rule.fits id s at i v (Contains-first s.carried (i, v) has)

    each : (P : Standing T V → Type 0) → P left → P right → ((j : ℕ) (r : Standing T V) → get_elem? seats j ≡ some r → P r) → (j : ℕ) (r : Standing T V) → get_elem? (set seats id left ++ right ∷ []) j ≡ some r → P r
    each P mine new old j r there = ⊎_elim
        (λ (before : get_elem? (set seats id left) j ≡ some r). ⊎_elim
        (λ (here : (j ≡ id) × (left ≡ r)). subst P here.1 mine)
        (λ (other : (j ≢ id) × (get_elem? seats j ≡ some r)). old j r other.1)
        (at_set seats id j left r before))
        (λ (last : right ≡ r). subst P last new)
        (at_snoc (set seats id left) right r j there)

  -- TAKING
  pub takes_rule : (n : ℕ) (homes : List (maybe.Option (Option T))) (seats : List (Standing T V)) (id : ℕ) (s : Standing T V) (x : T)
      → (rule : Rule holds n 0 homes seats) → get_elem? seats id ≡ some s → 0 < length s.carried → (rule.free refl).0 ≡ x → Rule holds n 1 (set homes 0 none) (set seats id (within s.carried x))
  takes_rule n homes seats id s x rule at some_pass value = record {
    views = rule.views;
    count = rule.count;
    holders = omega (arith, sum_set holds_turn seats id s w at, sum_at holds_turn seats id s at, rule.holders);
    one = omega arith;
    once = λ i. omega (arith, sum_set (carried_with i) seats id s w at, rule.once i);
    carried = omega (arith, sum_set carried_count seats id s w at, rule.carried);
    fits = λ j r there. each (λ r. Fits holds rule.views r) (rule.fits id s at) rule.fits j r there;
    inside_carries = λ j r there. each (λ r. holds_turn r ≤ carried_count r) (omega (arith, some_pass)) rule.inside_carries j r there;
    free = λ is. absurd (omega (arith, is));
    taken = λ one. ap (λ (l : List (maybe.Option (Option T))). set l 0 none) free.1;
    entered = λ j r y there. each (λ r. r.inside ≡ Some y → holds y rule.views)
        (λ inside. subst (λ (z : T). holds z rule.views) (value ∙ same_Some x y inside) free.2)
        (λ k q there inside. absurd (nobody n 0 homes seats k q y rule refl there inside)) j r there;
  } where
    free : (x : T) × (homes ≡ some (Some x) ∷ []) × holds x rule.views
    free = rule.free refl

    w : Standing T V
    w = within s.carried x

    each : (P : Standing T V → Type 0) → P w → ((j : ℕ) (r : Standing T V) → get_elem? seats j ≡ some r → P r) → (j : ℕ) (r : Standing T V) → get_elem? (set seats id w) j ≡ some r → P r
    each P mine old j r there = ⊎_elim
        (λ (here : (j ≡ id) × (w ≡ r)). subst P here.1 mine)
        (λ (other : (j ≢ id) × (get_elem? seats j ≡ some r)). old j r other.1)
        (at_set seats id j w r there)

  -- JOINING
  pub joins_rule : (n word : ℕ) (homes : List (maybe.Option (Option T))) (seats : List (Standing T V)) (id : ℕ) (s : Standing T V) (other : ℕ) (r : Standing T V)
      → Rule holds n word homes seats → get_elem? seats id ≡ some s → other ≢ id → get_elem? (set seats id (joined s r)) other ≡ some r → r.inside ≡ None
      → Rule holds n word homes (set (set seats id (joined s r)) other (outside []))
  joins_rule n word homes seats id s other r rule at apart there idle = record {
    views = rule.views;
    count = rule.count;
    holders = omega (arith, sum_set holds_turn seats id s both at, sum_set holds_turn seats' other r gone there, ap inside_count idle, rule.holders);
    one = rule.one;
    once = λ i. omega (arith, sum_set (carried_with i) seats id s both at, sum_set (carried_with i) seats' other r gone there, count_with-append number_of i r.carried s.carried, rule.once i);
    carried = omega (arith, sum_set carried_count seats id s both at, sum_set carried_count seats' other r gone there, length-append r.carried s.carried, rule.carried);
    fits = λ j q is. each (λ q. Fits holds rule.views q) fits_both (λ i v has. let below = has.1 in absurd (omega arith)) rule.fits j q is;
    inside_carries = λ j q is. each (λ q. holds_turn q ≤ carried_count q) (omega (arith, length-append r.carried s.carried, rule.inside_carries id s at)) (omega arith) rule.inside_carries j q is;
    free = rule.free;
    taken = rule.taken;
    entered = λ j q y is. each (λ q. q.inside ≡ Some y → holds y rule.views) (λ inside. rule.entered id s y at inside) (λ inside. cc) (λ k p there inside. rule.entered k p y there inside) j q is;
  } where
    both : Standing T V
    both = joined s r

    gone : Standing T V
    gone = outside []

    seats' : List (Standing T V)
    seats' = set seats id both

    its : get_elem? seats other ≡ some r
    its = sym (set_else seats id other both apart) ∙ there

    fits_both : Fits holds rule.views both
    fits_both i v has = ⊎_elim (λ (a : Contains r.carried (i, v)). rule.fits other r its i v a) (λ (b : Contains s.carried (i, v)). rule.fits id s at i v b) (Contains-append_cases r.carried s.carried (i, v) has)

    each : (P : Standing T V → Type 0) → P both → P gone → ((j : ℕ) (q : Standing T V) → get_elem? seats j ≡ some q → P q) → (j : ℕ) (q : Standing T V) → get_elem? (set seats' other gone) j ≡ some q → P q
    each P mine spent old j q is = ⊎_elim
        (λ (last : (j ≡ other) × (gone ≡ q)). subst P last.1 spent)
        (λ (rest : (j ≢ other) × (get_elem? seats' j ≡ some q)). ⊎_elim
        (λ (here : (j ≡ id) × (both ≡ q)). subst P here.1 mine)
        (λ (before : (j ≢ id) × (get_elem? seats j ≡ some q)). old j q before.1)
        (at_set seats id j both q rest.1))
        (at_set seats' other j gone q is)

  -- RELEASING
  pub releases_rule : (may : V → T → T → Type 0) (next : V → T → T → V)
      → ((x y : T) (views : List V) (i : ℕ) (v : V) → holds x views → slice_get views i ≡ Some v → may v x y → holds y (set views i (next v x y)))
      → (n word : ℕ) (homes : List (maybe.Option (Option T))) (seats : List (Standing T V)) (id i : ℕ) (v : V) (x y : T)
      → Rule holds n word homes seats → get_elem? seats id ≡ some (within ((i, v) ∷ []) x) → may v x y
      → Rule holds n 0 (set homes 0 (some (Some y))) (set seats id (outside ((i, next v x y) ∷ [])))
  releases_rule may next keeps n word homes seats id i v x y rule at allowed = record {
    views = views';
    count = length-set rule.views i v' ∙ rule.count;
    holders = omega (arith, sum_set holds_turn seats id s w at, held, rule.holders, rule.one);
    one = omega arith;
    once = λ k. omega (arith, sum_set (carried_with k) seats id s w at, rule.once k);
    carried = omega (arith, sum_set carried_count seats id s w at, rule.carried);
    fits = fits;
    inside_carries = λ j r there. each (λ r. holds_turn r ≤ carried_count r) (omega arith) (λ k q other is. rule.inside_carries k q is) j r there;
    free = λ is. (y, ap (λ (l : List (maybe.Option (Option T))). set l 0 (some (Some y))) (rule.taken (omega (arith, held, rule.holders))), keeps x y rule.views i v (rule.entered id s x at refl) here allowed);
    taken = λ none. absurd (omega (arith, none));
    entered = λ j r z there. each (λ r. r.inside ≡ Some z → holds z views') (λ inside. cc) (λ k q other is inside. absurd (alone k q z other is inside)) j r there;
  } where
    s : Standing T V
    s = within ((i, v) ∷ []) x

    v' : V
    v' = next v x y

    w : Standing T V
    w = outside ((i, v') ∷ [])

    views' : List V
    views' = set rule.views i v'

    held : 1 ≤ sum_by holds_turn seats
    held = sum_at holds_turn seats id s at

    mine : Contains s.carried (i, v)
    mine = (0, omega arith, refl)

    here : slice_get rule.views i ≡ Some v
    here = rule.fits id s at i v mine

    alone : (k : ℕ) (q : Standing T V) (z : T) → k ≢ id → get_elem? seats k ≡ some q → q.inside ≡ Some z → ⊥
    alone k q z other is inside = absurd (omega (arith, sum_two holds_turn seats k id q s other is at, rule.holders, rule.one, ap inside_count inside))

    each : (P : Standing T V → Type 0) → P w → ((j : ℕ) (r : Standing T V) → j ≢ id → get_elem? seats j ≡ some r → P r) → (j : ℕ) (r : Standing T V) → get_elem? (set seats id w) j ≡ some r → P r
    each P own old j r there = ⊎_elim
        (λ (at_home : (j ≡ id) × (w ≡ r)). subst P at_home.1 own)
        (λ (other : (j ≢ id) × (get_elem? seats j ≡ some r)). old j r other.0 other.1)
        (at_set seats id j w r there)

    fits_own : Fits holds views' w
    fits_own k u has =
        let same : (i, v') ≡ (k, u) = Contains-one (i, v') (k, u) has in
        subst (λ (c : ℕ × V). slice_get views' c.0 ≡ Some c.1) same (get_here rule.views i v v' here)

    other_number : (j k : ℕ) (r : Standing T V) (u : V) → j ≢ id → get_elem? seats j ≡ some r → Contains r.carried (k, u) → k ≢ i
    other_number j k r u other is has e =
        let mine_counted : 1 ≤ carried_with i s = with_of_member number_of s.carried (i, v) mine in
        let its : 1 ≤ carried_with k r = with_of_member number_of r.carried (k, u) has in
        absurd (omega (arith, sum_two (carried_with i) seats j id r s other is at, mine_counted, its, ap (λ (m : ℕ). carried_with m r) e, rule.once i, once-le i n))

    fits : (j : ℕ) (r : Standing T V) → get_elem? (set seats id w) j ≡ some r → Fits holds views' r
    fits j r there = each (λ r. Fits holds views' r) fits_own
        (λ j r other is k u has. get_else rule.views i k v' (other_number j k r u other is has) ∙ rule.fits j r is k u has) j r there
