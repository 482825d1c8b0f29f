-- The cells of words and pairs.
use Rattle.std.proofs.Common.{◌≡◌, ◌≢◌, ◌+◌, ◌<◌, ◌≤◌, ◌⊎◌, ℕ, true, false, List, length, get_or, refl, sym, ◌∙◌, ap, arith, ⊎_elim, inl, inr}
use Rattle.std.specs.Prelude.{nat_lt}
use Rattle.std.proofs.lemmas.Bool.{cases_lt, cases_eq}
use Rattle.std.proofs.lemmas.Grind.{common_steps}
use Rattle.std.proofs.lemmas.List.{get_or_past}
use Rattle.std.proofs.lemmas.List.FromFn.{get_or-map-range_with_len, length-map-range_with_len}
use Rattle.pm_model.specs.declared.Cell.TheVariants.{Single, Two, Marked}
use Rattle.pm_model.specs.Cells.{cell, is_single, is_lent, has_two, oldest, newest, flushed, fenced}
use Rattle.pm_lines.specs.declared.pairs.Pair.{Pair}
use Rattle.pm_lines.specs.Pairs.{greatest, pair_at, place_of, has_pair, pair_cell, word_cell, cells_of, IsLinked, IsPlace, HasNoPair, AddsPair, SwapsPairs, DropsPair}

-- a word with a pair at place k
pub word_cell-pair : (values : List ℕ) (pairs : List Pair) (marked i k : ℕ) → IsLinked values pairs → IsPlace pairs i k → word_cell values pairs marked i ≡ pair_cell marked k (pair_at pairs k)
unfolding word_cell
word_cell-pair values pairs marked i k linked place =
    let leads : get_or values (pair_at pairs k).word 0 + k ≡ greatest = linked.leads k place.below in
    let at : place_of values i ≡ k = let l : get_or values i 0 + k ≡ greatest = rw place.names at leads in omega arith in
    let has : has_pair values pairs i ≡ true = grind (arith, common_steps, place.below, place.names) in
    rw (has, at) refl

-- a word with no pair
pub word_cell-none : (values : List ℕ) (pairs : List Pair) (marked i : ℕ) → HasNoPair pairs i → word_cell values pairs marked i ≡ Single (get_or values i 0)
unfolding word_cell
word_cell-none values pairs marked i none =
    let has : has_pair values pairs i ≡ false = grind (arith, common_steps, none (place_of values i)) in
    rw has refl

-- a pair of the word can only be at the place that its number leads to
pub place-leads : (values : List ℕ) (pairs : List Pair) (i k : ℕ) → IsLinked values pairs → IsPlace pairs i k → place_of values i ≡ k
place-leads values pairs i k linked place =
    let leads : get_or values (pair_at pairs k).word 0 + k ≡ greatest = linked.leads k place.below in
    let at : get_or values i 0 + k ≡ greatest = rw place.names at leads in
    omega arith

-- two places are the same where their pairs are of the same word
pub place-same : (values : List ℕ) (pairs : List Pair) (i j k : ℕ) → IsLinked values pairs → IsPlace pairs i j → IsPlace pairs i k → j ≡ k
place-same values pairs i j k linked first second = sym (place-leads values pairs i j linked first) ∙ place-leads values pairs i k linked second

-- two pairs are of two words
pub pair_apart : (values : List ℕ) (pairs : List Pair) → IsLinked values pairs → (j k : ℕ) → j < length pairs → k < length pairs → j ≢ k → (pair_at pairs j).word ≢ (pair_at pairs k).word
pair_apart values pairs linked j k below_j below_k other same =
    other (place-same values pairs (pair_at pairs k).word j k linked (record { below = below_j; names = same }) (record { below = below_k; names = refl }))

-- a word has a pair or none
pub pair_cases : (values : List ℕ) (pairs : List Pair) (i : ℕ) → IsLinked values pairs → ((k : ℕ) × IsPlace pairs i k) ⊎ HasNoPair pairs i
pair_cases values pairs i linked = ⊎_elim
    (λ (below : place_of values i < length pairs). ⊎_elim
    (λ (same : (pair_at pairs (place_of values i)).word ≡ i). inl (place_of values i, record { below = below; names = same }))
    (λ (other : (pair_at pairs (place_of values i)).word ≢ i). inr (λ k h names. other (rw (place-leads values pairs i k linked (record { below = h; names = names })) names)))
    (cases_eq (pair_at pairs (place_of values i)).word i))
    (λ (past : length pairs ≤ place_of values i). inr (λ k h names. let at = place-leads values pairs i k linked (record { below = h; names = names }) in omega arith))
    (cases_lt (place_of values i) (length pairs))

-- the cells as a list
pub length-cells_of : (values : List ℕ) (pairs : List Pair) (marked : ℕ) → length (cells_of values pairs marked) ≡ length values
unfolding cells_of
length-cells_of values pairs marked = length-map-range_with_len (word_cell values pairs marked) 0 (length values)

pub cell-cells_of : (values : List ℕ) (pairs : List Pair) (marked i : ℕ) → IsLinked values pairs → cell (cells_of values pairs marked) i ≡ word_cell values pairs marked i
unfolding cells_of
cell-cells_of values pairs marked i linked = ⊎_elim
    (λ (h : i < length values). get_or-map-range_with_len (word_cell values pairs marked) 0 (length values) i i (Single 0) h (omega arith))
    (λ (h : length values ≤ i).
    let none : HasNoPair pairs i = λ k below names. let within = linked.within k below in omega arith in
    get_or_past (cells_of values pairs marked) i (Single 0) (omega (arith, length-cells_of values pairs marked))
    ∙ sym (word_cell-none values pairs marked i none ∙ ap Single (get_or_past values i 0 h)))
    (cases_lt i (length values))

-- A word gets a pair.
module _ (word value : ℕ) (values : List ℕ) (pairs : List Pair) (numbers : List ℕ) (new : List Pair) (linked : IsLinked values pairs) (none : HasNoPair pairs word)
    (within : word < length values) (adds : AddsPair word value values pairs numbers new) where
  last_place : IsPlace new word (length pairs)
  last_place = record { below = omega (arith, adds.count); names = ap (λ (p : Pair). p.word) adds.last }

  pub AddsPair-linked : IsLinked numbers new
  AddsPair-linked = record {
    within = λ k h. ⊎_elim
        (λ (before : k < length pairs). rw (adds.before k before, adds.size) (linked.within k before))
        (λ (last : length pairs ≤ k). let at : k ≡ length pairs = omega (arith, adds.count) in rw (at, adds.last, adds.size) within)
        (cases_lt k (length pairs));
    leads = λ k h. ⊎_elim
        (λ (before : k < length pairs). rw (adds.before k before, adds.others (pair_at pairs k).word (none k before)) (linked.leads k before))
        (λ (last : length pairs ≤ k). let at : k ≡ length pairs = omega (arith, adds.count) in rw (at, adds.last) adds.number)
        (cases_lt k (length pairs));
  }

  pub AddsPair-at : (marked : ℕ) → marked ≤ length pairs → word_cell numbers new marked word ≡ Two (get_or values word 0) value
  AddsPair-at marked le =
      let behind : nat_lt (length pairs) marked ≡ false = grind (arith, common_steps) in
      word_cell-pair numbers new marked word (length pairs) AddsPair-linked last_place ∙ rw (adds.last, behind) refl

  pub AddsPair-others : (marked i : ℕ) → i ≢ word → word_cell numbers new marked i ≡ word_cell values pairs marked i
  AddsPair-others marked i other = ⊎_elim
      (λ (found : (k : ℕ) × IsPlace pairs i k).
      let same : pair_at new found.0 ≡ pair_at pairs found.0 = adds.before found.0 found.1.below in
      word_cell-pair numbers new marked i found.0 AddsPair-linked (record { below = omega (arith, adds.count, found.1.below); names = rw same found.1.names })
      ∙ rw same (sym (word_cell-pair values pairs marked i found.0 linked found.1)))
      (λ (none : HasNoPair pairs i).
      word_cell-none numbers new marked i
      (λ k h names. ⊎_elim
      (λ (before : k < length pairs). none k before (rw (adds.before k before) at names))
      (λ (last : length pairs ≤ k). let at : k ≡ length pairs = omega (arith, adds.count) in other (sym (rw (at, adds.last) at names)))
      (cases_lt k (length pairs)))
      ∙ ap Single (adds.others i other)
      ∙ sym (word_cell-none values pairs marked i none))
      (pair_cases values pairs i linked)

not_below : (j k : ℕ) → k ≤ j → nat_lt j k ≡ false
not_below j k le = grind (arith, common_steps)

-- by place, the cell of a pair that has no mark
pub pair_cell-unmarked : (marked k : ℕ) (p : Pair) → marked ≤ k → pair_cell marked k p ≡ Two p.old p.new
pair_cell-unmarked marked k p le = rw (not_below k marked le) refl

-- and with a mark
pub pair_cell-marked : (marked k : ℕ) (p : Pair) → k < marked → pair_cell marked k p ≡ Marked p.old p.new
pair_cell-marked marked k p lt = let below : nat_lt k marked ≡ true = grind (arith, common_steps) in rw below refl

-- one place more is marked, or one less, and it is another
pair_cell-other : (marked k : ℕ) (p : Pair) → k ≢ marked → pair_cell (marked + 1) k p ≡ pair_cell marked k p
pair_cell-other marked k p other = ⊎_elim
    (λ (below : k < marked). pair_cell-marked (marked + 1) k p (omega arith) ∙ sym (pair_cell-marked marked k p below))
    (λ (above : marked ≤ k). pair_cell-unmarked (marked + 1) k p (omega arith) ∙ sym (pair_cell-unmarked marked k p above))
    (cases_lt k marked)

-- the cell of a pair is none of one candidate
pub pair_cell-two : (marked k : ℕ) (p : Pair) → is_single (pair_cell marked k p) ≡ true → ⊥
pair_cell-two marked k p single = ⊎_elim
    (λ (below : k < marked). let no : false ≡ true = rw (pair_cell-marked marked k p below) at single in cc)
    (λ (above : marked ≤ k). let no : false ≡ true = rw (pair_cell-unmarked marked k p above) at single in cc)
    (cases_lt k marked)

-- both candidates, with a mark or without
pub pair_cell-oldest : (marked k : ℕ) (p : Pair) → oldest (pair_cell marked k p) ≡ p.old
pair_cell-oldest marked k p = ⊎_elim
    (λ (below : k < marked). rw (pair_cell-marked marked k p below) refl)
    (λ (above : marked ≤ k). rw (pair_cell-unmarked marked k p above) refl)
    (cases_lt k marked)

pub pair_cell-newest : (marked k : ℕ) (p : Pair) → newest (pair_cell marked k p) ≡ p.new
pair_cell-newest marked k p = ⊎_elim
    (λ (below : k < marked). rw (pair_cell-marked marked k p below) refl)
    (λ (above : marked ≤ k). rw (pair_cell-unmarked marked k p above) refl)
    (cases_lt k marked)

pub pair_cell-home : (marked k : ℕ) (p : Pair) → is_lent (pair_cell marked k p) ≡ false
pair_cell-home marked k p = ⊎_elim
    (λ (below : k < marked). rw (pair_cell-marked marked k p below) refl)
    (λ (above : marked ≤ k). rw (pair_cell-unmarked marked k p above) refl)
    (cases_lt k marked)

pub pair_cell-has_two : (marked k : ℕ) (p : Pair) → has_two (pair_cell marked k p) ≡ true
pair_cell-has_two marked k p = ⊎_elim
    (λ (below : k < marked). rw (pair_cell-marked marked k p below) refl)
    (λ (above : marked ≤ k). rw (pair_cell-unmarked marked k p above) refl)
    (cases_lt k marked)

-- the cell of a word goes by its own number
pub word_cell-same : (values numbers : List ℕ) (pairs : List Pair) (marked i : ℕ) → get_or numbers i 0 ≡ get_or values i 0 → word_cell numbers pairs marked i ≡ word_cell values pairs marked i
unfolding word_cell
word_cell-same values numbers pairs marked i same = rw same refl

-- A pair is marked: it changes places with the first one that has no mark.
module _ (word place marked : ℕ) (values : List ℕ) (pairs : List Pair) (numbers : List ℕ) (new : List Pair) (linked : IsLinked values pairs) (at : IsPlace pairs word place)
    (unmarked : marked ≤ place) (swaps : SwapsPairs place marked values pairs numbers new) where
  below_marked : marked < length pairs
  below_marked = omega (arith, at.below)

  pub SwapsPairs-linked : IsLinked numbers new
  SwapsPairs-linked = record {
    within = λ k h. ⊎_elim
        (λ (first : k ≡ marked). rw (first, swaps.first, swaps.size) (linked.within place at.below))
        (λ (other : k ≢ marked). ⊎_elim
        (λ (second : k ≡ place). rw (second, swaps.second, swaps.size) (linked.within marked below_marked))
        (λ (rest : k ≢ place). rw (swaps.rest k rest other, swaps.size) (linked.within k (omega (arith, swaps.count))))
        (cases_eq k place))
        (cases_eq k marked);
    leads = λ k h. ⊎_elim
        (λ (first : k ≡ marked). rw (first, swaps.first) swaps.first_number)
        (λ (other : k ≢ marked). ⊎_elim
        (λ (second : k ≡ place). rw (second, swaps.second) swaps.second_number)
        (λ (rest : k ≢ place).
        let below : k < length pairs = omega (arith, swaps.count) in
        rw (swaps.rest k rest other, swaps.others (pair_at pairs k).word (pair_apart values pairs linked k place below at.below rest) (pair_apart values pairs linked k marked below below_marked other)) (linked.leads k below))
        (cases_eq k place))
        (cases_eq k marked);
  }

  pub SwapsPairs-at : word_cell numbers new (marked + 1) word ≡ flushed (word_cell values pairs marked word)
  SwapsPairs-at =
      let place_now : IsPlace new word marked = record { below = omega (arith, swaps.count, below_marked); names = rw swaps.first at.names } in
      rw (word_cell-pair values pairs marked word place linked at, pair_cell-unmarked marked place (pair_at pairs place) unmarked)
      (word_cell-pair numbers new (marked + 1) word marked SwapsPairs-linked place_now ∙ rw swaps.first (pair_cell-marked (marked + 1) marked (pair_at pairs place) (omega arith)))

  -- another word that has a pair
  other_pair : (i k : ℕ) → i ≢ word → IsPlace pairs i k → word_cell numbers new (marked + 1) i ≡ word_cell values pairs marked i
  other_pair i k other found = ⊎_elim
      (λ (first : k ≡ marked).
      let not_place : marked ≢ place = λ same. other (sym found.names ∙ ap (λ n. (pair_at pairs n).word) (first ∙ same) ∙ at.names) in
      let place_now : IsPlace new i place = record { below = omega (arith, swaps.count, at.below); names = rw swaps.second (rw first at found.names) } in
      let was : word_cell values pairs marked i ≡ Two (pair_at pairs marked).old (pair_at pairs marked).new =
      word_cell-pair values pairs marked i k linked found ∙ rw first (pair_cell-unmarked marked marked (pair_at pairs marked) (omega arith)) in
      rw was (word_cell-pair numbers new (marked + 1) i place SwapsPairs-linked place_now
      ∙ rw swaps.second (pair_cell-unmarked (marked + 1) place (pair_at pairs marked) (omega arith))))
      (λ (later : k ≢ marked).
      let not_place : k ≢ place = λ same. other (sym found.names ∙ ap (λ n. (pair_at pairs n).word) same ∙ at.names) in
      let same : pair_at new k ≡ pair_at pairs k = swaps.rest k not_place later in
      rw (word_cell-pair values pairs marked i k linked found)
      (word_cell-pair numbers new (marked + 1) i k SwapsPairs-linked (record { below = omega (arith, swaps.count, found.below); names = rw same found.names })
      ∙ rw same (pair_cell-other marked k (pair_at pairs k) later)))
      (cases_eq k marked)

  -- and one that has none
  no_pair : (i : ℕ) → HasNoPair pairs i → word_cell numbers new (marked + 1) i ≡ word_cell values pairs marked i
  no_pair i none = word_cell-none numbers new (marked + 1) i
      (λ k h names. ⊎_elim
      (λ (first : k ≡ marked). none place at.below (rw (first, swaps.first) at names))
      (λ (later : k ≢ marked). ⊎_elim
      (λ (second : k ≡ place). none marked below_marked (rw (second, swaps.second) at names))
      (λ (rest : k ≢ place). none k (omega (arith, swaps.count)) (rw (swaps.rest k rest later) at names))
      (cases_eq k place))
      (cases_eq k marked))
      ∙ ap Single (swaps.others i (λ e. none place at.below (sym e)) (λ e. none marked below_marked (sym e)))
      ∙ sym (word_cell-none values pairs marked i none)

  pub SwapsPairs-others : (i : ℕ) → i ≢ word → word_cell numbers new (marked + 1) i ≡ word_cell values pairs marked i
  SwapsPairs-others i other = ⊎_elim
      (λ (found : (k : ℕ) × IsPlace pairs i k). other_pair i found.0 other found.1)
      (λ (none : HasNoPair pairs i). no_pair i none)
      (pair_cases values pairs i linked)

-- The last marked pair goes.
module _ (place : ℕ) (values : List ℕ) (pairs : List Pair) (numbers : List ℕ) (new : List Pair) (linked : IsLinked values pairs) (below_place : place < length pairs)
    (drops : DropsPair place values pairs numbers new) where
  pub DropsPair-linked : IsLinked numbers new
  DropsPair-linked = record {
    within = λ k h. ⊎_elim
        (λ (at : k ≡ place). rw (at, drops.moved (rw at at h), drops.size) (linked.within (length new) (omega (arith, drops.count))))
        (λ (rest : k ≢ place). rw (drops.rest k rest h, drops.size) (linked.within k (omega (arith, drops.count))))
        (cases_eq k place);
    leads = λ k h. ⊎_elim
        (λ (at : k ≡ place). let there : place < length new = rw at at h in rw (at, drops.moved there) (drops.number there))
        (λ (rest : k ≢ place).
        let below : k < length pairs = omega (arith, drops.count) in
        rw (drops.rest k rest h, drops.others (pair_at pairs k).word (pair_apart values pairs linked k place below below_place rest) (pair_apart values pairs linked k (length new) below (omega (arith, drops.count)) (omega arith)))
        (linked.leads k below))
        (cases_eq k place);
  }

  dropped : HasNoPair new (pair_at pairs place).word
  dropped k h names = ⊎_elim
      (λ (at : k ≡ place). let there : place < length new = rw at at h in pair_apart values pairs linked (length new) place (omega (arith, drops.count)) below_place (omega arith) (rw (at, drops.moved there) at names))
      (λ (rest : k ≢ place). pair_apart values pairs linked k place (omega (arith, drops.count)) below_place rest (rw (drops.rest k rest h) at names))
      (cases_eq k place)

  at_word : word_cell numbers new place (pair_at pairs place).word ≡ Single (pair_at pairs place).new
  at_word = word_cell-none numbers new place (pair_at pairs place).word dropped ∙ ap Single drops.kept

  was_marked : word_cell values pairs (place + 1) (pair_at pairs place).word ≡ Marked (pair_at pairs place).old (pair_at pairs place).new
  was_marked = word_cell-pair values pairs (place + 1) (pair_at pairs place).word place linked (record { below = below_place; names = refl })
      ∙ pair_cell-marked (place + 1) place (pair_at pairs place) (omega arith)

  kept_pair : (i k : ℕ) → k ≢ place → IsPlace pairs i k → word_cell numbers new place i ≡ word_cell values pairs (place + 1) i
  kept_pair i k other found = ⊎_elim
      (λ (last : k ≡ length new).
      let there : place < length new = omega (arith, drops.count) in
      let place_now : IsPlace new i place = record { below = there; names = rw (drops.moved there) (rw last at found.names) } in
      let was : word_cell values pairs (place + 1) i ≡ Two (pair_at pairs (length new)).old (pair_at pairs (length new)).new =
      word_cell-pair values pairs (place + 1) i k linked found ∙ rw last (pair_cell-unmarked (place + 1) (length new) (pair_at pairs (length new)) (omega arith)) in
      rw was (word_cell-pair numbers new place i place DropsPair-linked place_now
      ∙ rw (drops.moved there) (pair_cell-unmarked place place (pair_at pairs (length new)) (omega arith))))
      (λ (before : k ≢ length new).
      let below : k < length new = omega (arith, drops.count, found.below) in
      let same : pair_at new k ≡ pair_at pairs k = drops.rest k other below in
      rw (word_cell-pair values pairs (place + 1) i k linked found, pair_cell-other place k (pair_at pairs k) other)
      (word_cell-pair numbers new place i k DropsPair-linked (record { below = below; names = rw same found.names }) ∙ rw same refl))
      (cases_eq k (length new))

  still_none : (i : ℕ) → HasNoPair pairs i → word_cell numbers new place i ≡ word_cell values pairs (place + 1) i
  still_none i none = word_cell-none numbers new place i
      (λ k h names. ⊎_elim
      (λ (at : k ≡ place). let there : place < length new = rw at at h in none (length new) (omega (arith, drops.count)) (rw (at, drops.moved there) at names))
      (λ (rest : k ≢ place). none k (omega (arith, drops.count)) (rw (drops.rest k rest h) at names))
      (cases_eq k place))
      ∙ ap Single (drops.others i (λ e. none place below_place (sym e)) (λ e. none (length new) (omega (arith, drops.count)) (sym e)))
      ∙ sym (word_cell-none values pairs (place + 1) i none)

  pub DropsPair-fenced : (i : ℕ) → fenced (word_cell numbers new place i) ≡ fenced (word_cell values pairs (place + 1) i)
  DropsPair-fenced i = ⊎_elim
      (λ (found : (k : ℕ) × IsPlace pairs i k). ⊎_elim
      (λ (at : found.0 ≡ place).
      let word : (pair_at pairs place).word ≡ i = rw at at found.1.names in
      rw (← word) (rw (at_word, was_marked) refl))
      (λ (other : found.0 ≢ place). ap fenced (kept_pair i found.0 other found.1))
      (cases_eq found.0 place))
      (λ (none : HasNoPair pairs i). ap fenced (still_none i none))
      (pair_cases values pairs i linked)

-- where no pair is marked a fence does nothing
pub fenced-none_marked : (values : List ℕ) (pairs : List Pair) (i : ℕ) → IsLinked values pairs → fenced (word_cell values pairs 0 i) ≡ word_cell values pairs 0 i
fenced-none_marked values pairs i linked = ⊎_elim
    (λ (found : (k : ℕ) × IsPlace pairs i k). rw (word_cell-pair values pairs 0 i found.0 linked found.1, pair_cell-unmarked 0 found.0 (pair_at pairs found.0) (omega arith)) refl)
    (λ (none : HasNoPair pairs i). rw (word_cell-none values pairs 0 i none) refl)
    (pair_cases values pairs i linked)
