-- Rising pairs: what a search finds among them, and what is there when one is taken out and another put in.
use Rattle.std.proofs.Common.{◌≡◌, ◌≢◌, ℕ, ◌+◌, ◌-◌, ◌<◌, ◌≤◌, ◌∙◌, sym, ap, List, length, get_or, arith, inl, inr}
use Rattle.std.proofs.lemmas.Bool.{cases_lt, cases_eq, cases_order}
use Rattle.std.proofs.lemmas.List.Edits.{get_or-insert_above, get_or-insert_at, get_or-insert_below, get_or-remove_above, get_or-remove_below, length-insert, length-remove}
use Rattle.std.specs.List.{insert, remove}
use Rattle.k_names.specs.Indexes.{Has, IsBegun, IsChanged, IsRising}

-- A pair is taken out.
module _ (pairs : List ℕ) (pair at : ℕ) (rising : IsRising pairs) (within : at < length pairs) (is : get_or pairs at 0 ≡ pair) where
  abbrev without : List ℕ
  without = remove pairs at

  shorter : length without + 1 ≡ length pairs
  shorter = length-remove pairs at within

  before_it : (k : ℕ) → k < at → get_or without k 0 ≡ get_or pairs k 0
  before_it k below = get_or-remove_below pairs at 0 k below within

  behind_it : (k : ℕ) → at ≤ k → get_or without k 0 ≡ get_or pairs (k + 1) 0
  behind_it k past = get_or-remove_above pairs at 0 k past within

  rises_without : (j k : ℕ) → j < k → k < length without → get_or without j 0 < get_or without k 0
  rises_without j k order inside = elim (cases_lt k at) [
    | inl below ↦ omega (arith, before_it j (omega arith), before_it k below, rising.rises j k order (omega arith))
    | inr past ↦ elim (cases_lt j at) [
      | inl below ↦ omega (arith, before_it j below, behind_it k past, rising.rises j (k + 1) (omega arith) (omega (arith, shorter)))
      | inr j_past ↦ omega (arith, behind_it j j_past, behind_it k past, rising.rises (j + 1) (k + 1) (omega arith) (omega (arith, shorter)))
    ]
  ]

  pub without-rising : IsRising without
  without-rising = record { rises = rises_without }

  pub without-kept : (other : ℕ) → Has without other → Has pairs other × (other ≢ pair)
  without-kept other h = elim (cases_lt h.at at) [
    | inl below ↦ (
      record { at = h.at; within = omega (arith, h.within, shorter); is = sym (before_it h.at below) ∙ h.is },
      λ same. omega (arith, rising.rises h.at at below within, before_it h.at below, h.is, is),
    )
    | inr past ↦ (
      record { at = h.at + 1; within = omega (arith, h.within, shorter); is = sym (behind_it h.at past) ∙ h.is },
      λ same. omega (arith, rising.rises at (h.at + 1) (omega arith) (omega (arith, h.within, shorter)), behind_it h.at past, h.is, is),
    )
  ]

  pub without-stays : (other : ℕ) → Has pairs other → other ≢ pair → Has without other
  without-stays other h apart = elim (cases_order h.at at) [
    | inl same ↦ absurd (apart (sym h.is ∙ ap (λ k. get_or pairs k 0) same ∙ is))
    | inr (inl below) ↦ record { at = h.at; within = omega (arith, shorter); is = before_it h.at below ∙ h.is }
    | inr (inr past) ↦
        let back : h.at - 1 + 1 ≡ h.at = omega arith in
        record {
          at = h.at - 1;
          within = omega (arith, h.within, shorter);
          is = behind_it (h.at - 1) (omega arith) ∙ ap (λ k. get_or pairs k 0) back ∙ h.is;
        }
  ]

-- A pair is put in, which is not there.
module _ (pairs : List ℕ) (pair to : ℕ) (rising : IsRising pairs) (begun : IsBegun pairs pair to) (new : Has pairs pair → ⊥) where
  abbrev with_it : List ℕ
  with_it = insert pairs to pair

  longer : length with_it ≡ length pairs + 1
  longer = length-insert pairs to pair begun.within

  below_it : (k : ℕ) → k < to → get_or with_it k 0 ≡ get_or pairs k 0
  below_it k below = get_or-insert_below pairs to pair 0 k below begun.within

  here : get_or with_it to 0 ≡ pair
  here = get_or-insert_at pairs to pair 0 begun.within

  above_it : (k : ℕ) → to ≤ k → get_or with_it (k + 1) 0 ≡ get_or pairs k 0
  above_it k past = get_or-insert_above pairs to pair 0 k past begun.within

  -- those behind are higher
  higher : (k : ℕ) → to ≤ k → k < length pairs → pair < get_or pairs k 0
  higher k past inside = elim (cases_eq (get_or pairs k 0) pair) [
    | inl same ↦ absurd (new (record { at = k; within = inside; is = same }))
    | inr apart ↦ omega (arith, begun.behind k past inside, apart)
  ]

  -- a place behind it, counted as before
  over : (k : ℕ) → to < k → get_or with_it k 0 ≡ get_or pairs (k - 1) 0
  over k past = let back : k ≡ k - 1 + 1 = omega arith in ap (λ i. get_or with_it i 0) back ∙ above_it (k - 1) (omega arith)

  rises_with : (j k : ℕ) → j < k → k < length with_it → get_or with_it j 0 < get_or with_it k 0
  rises_with j k order inside = elim (cases_order k to) [
    | inl k_here ↦ omega (arith, below_it j (omega arith), ap (λ i. get_or with_it i 0) k_here, here, begun.before j (omega arith))
    | inr (inl k_below) ↦ omega (arith, below_it j (omega arith), below_it k k_below, rising.rises j k order (omega (arith, begun.within)))
    | inr (inr k_past) ↦ elim (cases_order j to) [
      | inl j_here ↦ omega (arith, ap (λ i. get_or with_it i 0) j_here, here, over k k_past, higher (k - 1) (omega arith) (omega (arith, longer)))
      | inr (inl j_below) ↦ omega (arith, below_it j j_below, over k k_past, rising.rises j (k - 1) (omega arith) (omega (arith, longer)))
      | inr (inr j_past) ↦ omega (arith, over j j_past, over k k_past, rising.rises (j - 1) (k - 1) (omega arith) (omega (arith, longer)))
    ]
  ]

  pub with-rising : IsRising with_it
  with-rising = record { rises = rises_with }

  pub with-kept : (other : ℕ) → Has with_it other → other ≢ pair → Has pairs other
  with-kept other h apart = elim (cases_order h.at to) [
    | inl same ↦ absurd (apart (sym h.is ∙ ap (λ k. get_or with_it k 0) same ∙ here))
    | inr (inl below) ↦ record { at = h.at; within = omega (arith, begun.within); is = sym (below_it h.at below) ∙ h.is }
    | inr (inr past) ↦ record { at = h.at - 1; within = omega (arith, h.within, longer); is = sym (over h.at past) ∙ h.is }
  ]

  pub with-stays : (other : ℕ) → Has pairs other → Has with_it other
  with-stays other h = elim (cases_lt h.at to) [
    | inl below ↦ record { at = h.at; within = omega (arith, h.within, longer); is = below_it h.at below ∙ h.is }
    | inr past ↦ record { at = h.at + 1; within = omega (arith, h.within, longer); is = above_it h.at past ∙ h.is }
  ]

  pub with-own : Has with_it pair
  with-own = record { at = to; within = omega (arith, longer, begun.within); is = here }

-- A pair is taken out and another put in, which was not there but as the one that goes.
pub changed : (pairs : List ℕ) (gone put at to : ℕ) → IsRising pairs → at < length pairs → get_or pairs at 0 ≡ gone → IsBegun (remove pairs at) put to
    → (Has pairs put → put ≡ gone) → IsChanged pairs gone put (insert (remove pairs at) to put)
changed pairs gone put at to rising within is begun once =
    let rest = remove pairs at in
    let left : IsRising rest = without-rising pairs gone at rising within is in
    let new : Has rest put → ⊥ = λ h. let was = without-kept pairs gone at rising within is put h in was.1 (once was.0) in
    record {
      rising = with-rising rest put to left begun new;
      kept = λ pair h apart. without-kept pairs gone at rising within is pair (with-kept rest put to left begun new pair h apart);
      stays = λ pair h apart. with-stays rest put to left begun new pair (without-stays pairs gone at rising within is pair h apart);
      own = with-own rest put to left begun new;
    }

-- Where a pair is there, a search for it ends at it.
pub found_at : (pairs : List ℕ) (pair at : ℕ) → IsRising pairs → IsBegun pairs pair at → Has pairs pair → (at < length pairs) × (get_or pairs at 0 ≡ pair)
found_at pairs pair at rising begun h = elim (cases_order at h.at) [
  | inl same ↦ (omega (arith, same, h.within), ap (λ k. get_or pairs k 0) same ∙ h.is)
  | inr (inl before) ↦ absurd (omega (arith, rising.rises at h.at before h.within, h.is, begun.behind at (omega arith) (omega (arith, h.within))))
  | inr (inr behind) ↦ absurd (omega (arith, begun.before h.at behind, h.is))
]
