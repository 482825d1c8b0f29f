-- The slots that jobs claimed, and what the log of the round holds of them.
use Rattle.std.specs.Prelude.{◌≡◌, ◌≢◌, ◌⊎◌, ◌<◌, ℕ, Contains, List, ◌∷◌, length, Option, Some, None, slice_get, slice_set, refl}
use Rattle.std.specs.List.{remove}
use Rattle.std.proofs.Common.{ap, ◌∙◌, sym, subst, inl, inr}
use Rattle.std.proofs.lemmas.Bool.{cases_eq}
use Rattle.std.proofs.lemmas.Option.{same_Some, slice_get_within}
use Rattle.round_log.specs.pm_model.Parts.{Part}
use Rattle.round_log.specs.layout_model.declared.lines.Draft.{Draft}
use Rattle.round_log.specs.Held.{HoldsRound}
use Rattle.round_log.specs.Rounds.{RoundView}
use Rattle.world_view_laws.specs.list_laws.Filters.{filter_map-In, In-filter_map}
use Rattle.run_laws.proofs.Logs.{Contains-In, In-Contains}
use Rattle.run_laws.specs.declared.held.Held.{Held}
use Rattle.run_laws.specs.Held.{HaveOwnSlots, slot_in, slots_of}
use Rattle.run_laws.proofs.Places.{at_In, In_at, set_cases, set_here, set_there, skip, skip_apart, skip_back, skip_one, taken_at}

abbrev pub slot_held : Held → Option ℕ
slot_held h = slot_in h.work

-- ---- members

-- a job's slot is one of them, and each of them is a job's
pub slot_there : (jobs : List Held) (i slot : ℕ) (h : Held) → slice_get jobs i ≡ Some h → slot_in h.work ≡ Some slot → Contains (slots_of jobs) slot
slot_there jobs i slot h at is = In-Contains (slots_of jobs) slot (In-filter_map slot_held jobs h slot (In_at jobs i h at) is)

pub record IsSlotOf (jobs : List Held) (slot : ℕ) : Type 0 where
  pub place : ℕ
  pub job : Held
  pub at : slice_get jobs place ≡ Some job
  pub is : slot_in job.work ≡ Some slot

pub slot_of_job : (jobs : List Held) (slot : ℕ) → Contains (slots_of jobs) slot → IsSlotOf jobs slot
slot_of_job jobs slot there =
    let found = filter_map-In slot_held jobs slot (Contains-In (slots_of jobs) slot there) in
    let at = at_In jobs found.0 found.1 in
    record { place = at.0; job = found.0; at = at.1; is = found.2 }

-- ---- what the log holds, of slots that are the same

pub same_taken : (start : List Part) (log : RoundView) (claims : List (ℕ × Draft)) (old new : List ℕ) → ((n : ℕ) → Contains new n → Contains old n) → ((n : ℕ) → Contains old n → Contains new n)
    → HoldsRound start log claims old → HoldsRound start log claims new
same_taken start log claims old new back forth holds = record {
  count = holds.count;
  places = holds.places;
  claimed = holds.claimed;
  out = λ n is. holds.out n (back n is);
  others = λ n free apart. holds.others n free (λ is. apart (forth n is));
}

cons_here : (x : ℕ) (xs : List ℕ) → Contains (x ∷ xs) x
cons_here x xs = In-Contains (x ∷ xs) x (inl refl)

cons_behind : (x n : ℕ) (xs : List ℕ) → Contains xs n → Contains (x ∷ xs) n
cons_behind x n xs is = In-Contains (x ∷ xs) n (inr (Contains-In xs n is))

in_cons : (x n : ℕ) (xs : List ℕ) → Contains (x ∷ xs) n → (x ≡ n) ⊎ Contains xs n
in_cons x n xs is = elim (Contains-In (x ∷ xs) n is) [ inl same ↦ inl same | inr rest ↦ inr (In-Contains xs n rest) ]

-- ---- a job came further

module _ (jobs : List Held) (i : ℕ) (h new : Held) (at : slice_get jobs i ≡ Some h) where
  below : i < length jobs
  below = slice_get_within jobs i h at

  -- what stands at another place stands there still
  pub still_at : (j : ℕ) (k : Held) → j ≢ i → slice_get jobs j ≡ Some k → slice_get (slice_set jobs i new) j ≡ Some k
  still_at j k other there = set_there jobs i j new other ∙ there

  -- it claimed a slot: that is one more
  module _ (slot : ℕ) (none : slot_in h.work ≡ None) (some : slot_in new.work ≡ Some slot) where
    pub more_back : (n : ℕ) → Contains (slots_of (slice_set jobs i new)) n → Contains (slot ∷ slots_of jobs) n
    more_back n is =
        let one = slot_of_job (slice_set jobs i new) n is in
        elim (set_cases jobs i one.place new one.job below one.at) [
          | inl own ↦ subst (Contains (slot ∷ slots_of jobs)) (same_Some slot n (sym some ∙ (ap slot_held own.1 ∙ one.is))) (cons_here slot (slots_of jobs))
          | inr other ↦ cons_behind slot n (slots_of jobs) (slot_there jobs one.place n one.job other.1 one.is)
        ]

    was_there : (n : ℕ) → (one : IsSlotOf jobs n) → Contains (slots_of (slice_set jobs i new)) n
    was_there n one = elim (cases_eq one.place i) [
      | inl own ↦
          let same : h ≡ one.job = same_Some h one.job (sym at ∙ (ap (slice_get jobs) (sym own) ∙ one.at)) in
          let never : None ≡ Some n = sym none ∙ (ap slot_held same ∙ one.is) in
          cc
      | inr other ↦ slot_there (slice_set jobs i new) one.place n one.job (still_at one.place one.job other one.at) one.is
    ]

    pub more_forth : (n : ℕ) → Contains (slot ∷ slots_of jobs) n → Contains (slots_of (slice_set jobs i new)) n
    more_forth n is = elim (in_cons slot n (slots_of jobs) is) [
      | inl same ↦ slot_there (slice_set jobs i new) i n new (set_here jobs i new below) (some ∙ ap (λ m. Some m) same)
      | inr was ↦ was_there n (slot_of_job jobs n was)
    ]

    -- and each still has one of its own
    pub own_more : HaveOwnSlots jobs → ¬ Contains (slots_of jobs) slot → HaveOwnSlots (slice_set jobs i new)
    own_more own free a b n x y at_a at_b is_a is_b = by (set_cases jobs i a new x below at_a) (set_cases jobs i b new y below at_b) where
      slot_is : (k : Held) → new ≡ k → slot_in k.work ≡ Some n → slot ≡ n
      slot_is k same is = same_Some slot n (sym some ∙ (ap slot_held same ∙ is))

      by : ((a ≡ i) × (new ≡ x)) ⊎ ((a ≢ i) × (slice_get jobs a ≡ Some x)) → ((b ≡ i) × (new ≡ y)) ⊎ ((b ≢ i) × (slice_get jobs b ≡ Some y)) → a ≡ b
      by (inl one) (inl two) = one.0 ∙ sym two.0
      by (inl one) (inr two) = absurd (free (subst (Contains (slots_of jobs)) (sym (slot_is x one.1 is_a)) (slot_there jobs b n y two.1 is_b)))
      by (inr one) (inl two) = absurd (free (subst (Contains (slots_of jobs)) (sym (slot_is y two.1 is_b)) (slot_there jobs a n x one.1 is_a)))
      by (inr one) (inr two) = own a b n x y one.1 two.1 is_a is_b

  -- it keeps its slot
  pub own_same : slot_in new.work ≡ slot_in h.work → HaveOwnSlots jobs → HaveOwnSlots (slice_set jobs i new)
  own_same same own a b n x y at_a at_b is_a is_b = own a b n (was a x at_a).0 (was b y at_b).0 (was a x at_a).1 (was b y at_b).1 ((was a x at_a).2 ∙ is_a) ((was b y at_b).2 ∙ is_b) where
    was : (j : ℕ) (k : Held) → slice_get (slice_set jobs i new) j ≡ Some k → (l : Held) × (slice_get jobs j ≡ Some l) × (slot_in l.work ≡ slot_in k.work)
    was j k at_j = elim (set_cases jobs i j new k below at_j) [
      | inl one ↦ (h, ap (slice_get jobs) one.0 ∙ at, sym same ∙ ap slot_held one.1)
      | inr two ↦ (k, two.1, refl)
    ]

-- ---- a job is out no more

module _ (jobs : List Held) (i : ℕ) (h : Held) (at : slice_get jobs i ≡ Some h) where
  below-2 : i < length jobs
  below-2 = slice_get_within jobs i h at

  pub own_taken : HaveOwnSlots jobs → HaveOwnSlots (remove jobs i)
  own_taken own a b n x y at_a at_b is_a is_b = skip_one i a b (own (skip i a) (skip i b) n x y (sym (taken_at jobs i a below-2) ∙ at_a) (sym (taken_at jobs i b below-2) ∙ at_b) is_a is_b)

  -- which had a slot
  module _ (slot : ℕ) (some : slot_in h.work ≡ Some slot) (own : HaveOwnSlots jobs) where
    -- its slot is none of the others
    pub less_free : ¬ Contains (slots_of (remove jobs i)) slot
    less_free is =
        let one = slot_of_job (remove jobs i) slot is in
        skip_apart i one.place (own (skip i one.place) i slot one.job h (sym (taken_at jobs i one.place below-2) ∙ one.at) at one.is some)

    pub less_back : (n : ℕ) → Contains (slot ∷ slots_of (remove jobs i)) n → Contains (slots_of jobs) n
    less_back n is = elim (in_cons slot n (slots_of (remove jobs i)) is) [
      | inl same ↦ slot_there jobs i n h at (some ∙ ap (λ m. Some m) same)
      | inr was ↦ (let one = slot_of_job (remove jobs i) n was in slot_there jobs (skip i one.place) n one.job (sym (taken_at jobs i one.place below-2) ∙ one.at) one.is)
    ]

    pub less_forth : (n : ℕ) → Contains (slots_of jobs) n → Contains (slot ∷ slots_of (remove jobs i)) n
    less_forth n is =
        let one = slot_of_job jobs n is in
        elim (cases_eq one.place i) [
          | inl here ↦
              let same : h ≡ one.job = same_Some h one.job (sym at ∙ (ap (slice_get jobs) (sym here) ∙ one.at)) in
              subst (Contains (slot ∷ slots_of (remove jobs i))) (same_Some slot n (sym some ∙ (ap slot_held same ∙ one.is))) (cons_here slot (slots_of (remove jobs i)))
          | inr other ↦
              let place = skip_back i one.place other in
              cons_behind slot n (slots_of (remove jobs i)) (slot_there (remove jobs i) place.0 n one.job (taken_at jobs i place.0 below-2 ∙ (ap (slice_get jobs) place.1 ∙ one.at)) one.is)
        ]
