-- The jobs of the World beside those that are held, as each event leaves them.
use Rattle.std.specs.Prelude.{◌≡◌, ◌≢◌, ◌⊎◌, ◌<◌, ℕ, false, List, [], ◌∷◌, ◌++◌, length, map, Some, slice_get, slice_set}
use Rattle.std.specs.List.{remove}
use Rattle.std.proofs.Common.{arith, ap, ◌∙◌, sym, subst, inl, inr, length-append}
use Rattle.std.proofs.lemmas.Bool.{cases_eq}
use Rattle.std.proofs.lemmas.List.{append-nil}
use Rattle.std.proofs.lemmas.Option.{same_Some, slice_get_within}
use Rattle.world_view_laws.proofs.in_flight_proofs.Taking.{other_who}
use Rattle.world_view_laws.specs.list_laws.Members.{In}
use Rattle.world_view_laws.specs.live_model.Standing.{JobOut}
use Rattle.world_view_laws.specs.posix_types.declared.call.Who.{Who}
use Rattle.world_view_laws.specs.posix_types.declared.item.Item.{Item}
use Rattle.world_view_laws.specs.posix_types.Scripts.{Scripts}
use Rattle.world_view_laws.specs.posix_tables.Open.{same_who}
use Rattle.world_view_laws.specs.posix_laws.UnfinishedLaws.{AreUnfinished-begun}
use Rattle.world_view_laws.specs.posix_spec.Run.{Unfinished}
use Rattle.world_view_laws.specs.posix_spec.Scripted.{IsSetUp, next_call}
use Rattle.world_view_laws.specs.posix_spec.Unfinished.{AreUnfinished, HaveTwoCallers, IsNextCall}
use Rattle.world_view_laws.specs.in_flight.Histories.{next_stays, set_up_stays}
use Rattle.world_view_laws.specs.write_end.Blocks.{AreBlocksHome}
use Rattle.world_view_laws.specs.write_end.Ends.{begun_by}
use Rattle.world_view_laws.specs.Begins.{OthersStay}
use Rattle.world_view_laws.specs.Views.{calls_out, HasNone, WorldView}
use Rattle.run_laws.specs.declared.held.Held.{Held}
use Rattle.run_laws.specs.declared.held.Work.{Work}
use Rattle.run_laws.specs.Between.{AreNextCalls, HaveOwnCallers, HaveOwnDrafts}
use Rattle.run_laws.specs.Held.{AreHeld, IsWorkOut}
use Rattle.run_laws.proofs.Crashes.{AreOut, IsOut, work_out}
use Rattle.run_laws.proofs.Places.{all_at, at_In, In_at, map_at, pairs_at, place_there, push_cases, set_cases, set_count, set_here, set_there, skip, skip_apart, skip_back, skip_one, taken_at, taken_count}

-- ---- where the jobs of others stay

pub work_stays : (old new : WorldView) (who : Who) (p : JobOut) (work : Work) → OthersStay old new who → p.who ≢ who → IsWorkOut old p work → IsWorkOut new p work
work_stays old new who p (Work.Began job) stay other is = (stay.0 p job other is.0, is.1)
work_stays old new who p (Work.Filled job) stay other is = stay.1 p job other is
work_stays old new who p (Work.Claimed job slot) stay other is = stay.1 p job other is
work_stays old new who p (Work.Stored job slot) stay other is = stay.1 p job other is
work_stays old new who p (Work.Persisted job slot) stay other is = stay.1 p job other is

-- all, where the caller has none
pub held_stays : (old new : WorldView) (who : Who) (jobs : List Held) → new.pending ≡ old.pending → OthersStay old new who → HasNone old who → AreHeld old jobs → AreHeld new jobs
held_stays old new who jobs same stay none held = record {
  count = held.count ∙ ap (λ (ps : List JobOut). length ps) (sym same);
  each = λ i p h at_p at_h. (
      let there : slice_get old.pending i ≡ Some p = ap (λ (ps : List JobOut). slice_get ps i) (sym same) ∙ at_p in
      let both = held.each i p h there at_h in
      (both.0, work_stays old new who p h.work stay (none p (In_at old.pending i p there)) both.1));
}

-- one more
pub held_pushed : (old new : WorldView) (who : Who) (jobs : List Held) (p : JobOut) (h : Held) → new.pending ≡ old.pending ++ p ∷ [] → OthersStay old new who → HasNone old who
    → h.who ≡ p.who → IsWorkOut new p h.work → AreHeld old jobs → AreHeld new (jobs ++ h ∷ [])
held_pushed old new who jobs p h same stay none own is held = record {
  count = omega (arith, held.count, ap (λ (ps : List JobOut). length ps) same, length-append old.pending (p ∷ []), length-append jobs (h ∷ []));
  each = λ i q k at_q at_k. by i q k (push_cases old.pending i p q (ap (λ (ps : List JobOut). slice_get ps i) (sym same) ∙ at_q)) (push_cases jobs i h k at_k);
} where
  by : (i : ℕ) (q : JobOut) (k : Held) → (slice_get old.pending i ≡ Some q) ⊎ ((i ≡ length old.pending) × (p ≡ q)) → (slice_get jobs i ≡ Some k) ⊎ ((i ≡ length jobs) × (h ≡ k)) → (k.who ≡ q.who) × IsWorkOut new q k.work
  by i q k (inl one) (inl two) =
      let both = held.each i q k one two in
      (both.0, work_stays old new who q k.work stay (none q (In_at old.pending i q one)) both.1)
  by i q k (inl one) (inr two) = absurd (omega (arith, slice_get_within old.pending i q one, two.0, held.count))
  by i q k (inr one) (inl two) = absurd (omega (arith, slice_get_within jobs i k two, one.0, held.count))
  by i q k (inr one) (inr two) = (
    ap (λ (x : Held). x.who) (sym two.1) ∙ (own ∙ ap (λ (x : JobOut). x.who) one.1),
    subst (λ (x : JobOut). IsWorkOut new x k.work) one.1 (subst (λ (x : Held). IsWorkOut new p x.work) two.1 is),
  )

-- one came further
pub held_set : (w : WorldView) (jobs : List Held) (i : ℕ) (h new : Held) → slice_get jobs i ≡ Some h → new.who ≡ h.who → ((p : JobOut) → slice_get w.pending i ≡ Some p → IsWorkOut w p h.work → IsWorkOut w p new.work)
    → AreHeld w jobs → AreHeld w (slice_set jobs i new)
held_set w jobs i h new at own further held = record {
  count = set_count jobs i new ∙ held.count;
  each = λ j p k at_p at_k. by j p k at_p (set_cases jobs i j new k (slice_get_within jobs i h at) at_k);
} where
  by : (j : ℕ) (p : JobOut) (k : Held) → slice_get w.pending j ≡ Some p → ((j ≡ i) × (new ≡ k)) ⊎ ((j ≢ i) × (slice_get jobs j ≡ Some k)) → (k.who ≡ p.who) × IsWorkOut w p k.work
  by j p k at_p (inl one) =
      let here : slice_get w.pending i ≡ Some p = ap (slice_get w.pending) (sym one.0) ∙ at_p in
      let both = held.each i p h here at in
      (ap (λ (x : Held). x.who) (sym one.1) ∙ (own ∙ both.0), subst (λ (x : Held). IsWorkOut w p x.work) one.1 (further p here both.1))
  by j p k at_p (inr two) = held.each j p k at_p two.1

-- likewise where one lost its power
pub out_set : (w : WorldView) (ended : List Who) (jobs : List Held) (i : ℕ) (h new : Held) → slice_get jobs i ≡ Some h → new.who ≡ h.who → ((p : JobOut) → IsOut w p h.work → IsOut w p new.work)
    → AreOut w ended jobs → AreOut w ended (slice_set jobs i new)
out_set w ended jobs i h new at own further out = record {
  place = out.place;
  apart = out.apart;
  each = λ j k at_k. by j k (set_cases jobs i j new k below at_k);
  all = λ p there. elim (out.all p there) [ inl home ↦ inl home | inr one ↦ inr (back p one.0 one.1 one.2) ];
} where
  below : i < length jobs
  below = slice_get_within jobs i h at

  by : (j : ℕ) (k : Held) → ((j ≡ i) × (new ≡ k)) ⊎ ((j ≢ i) × (slice_get jobs j ≡ Some k)) → (p : JobOut) × (slice_get w.pending (out.place j) ≡ Some p) × (k.who ≡ p.who) × IsOut w p k.work
  by j k (inl one) =
      let was = out.each i h at in (
        was.0,
        ap (λ (n : ℕ). slice_get w.pending (out.place n)) one.0 ∙ was.1,
        ap (λ (x : Held). x.who) (sym one.1) ∙ (own ∙ was.2),
        subst (λ (x : Held). IsOut w was.0 x.work) one.1 (further was.0 was.3),
      )
  by j k (inr two) = out.each j k two.1

  back : (p : JobOut) (k : Held) → In k jobs → IsOut w p k.work → (x : Held) × In x (slice_set jobs i new) × IsOut w p x.work
  back p k there is = by_place (at_In jobs k there).0 (at_In jobs k there).1 (cases_eq (at_In jobs k there).0 i) where
    by_place : (j : ℕ) → slice_get jobs j ≡ Some k → (j ≡ i) ⊎ (j ≢ i) → (x : Held) × In x (slice_set jobs i new) × IsOut w p x.work
    by_place j at_k (inl same) = (
      new,
      In_at (slice_set jobs i new) i new (set_here jobs i new below),
      further p (subst (λ (x : Held). IsOut w p x.work) (same_Some k h (sym at_k ∙ (ap (slice_get jobs) same ∙ at))) is),
    )
    by_place j at_k (inr other) = (k, In_at (slice_set jobs i new) j k (set_there jobs i j new other ∙ at_k), is)

-- and where one is out no more, whose blocks are at home
pub out_taken : (old new : WorldView) (jobs : List Held) (i : ℕ) (p : JobOut) → slice_get old.pending i ≡ Some p → new.pending ≡ old.pending → OthersStay old new p.who → HaveOwnCallers old.pending
    → AreBlocksHome p.blocks new.disk.cells → AreHeld old jobs → AreOut new (p.who ∷ []) (remove jobs i)
out_taken old new jobs i p at same stay callers home held = record {
  place = skip i;
  apart = skip_one i;
  each = λ j h at_h. (
      let at_job : slice_get jobs (skip i j) ≡ Some h = sym (taken_at jobs i j below) ∙ at_h in
      let q = place_there old.pending (skip i j) (omega (arith, slice_get_within jobs (skip i j) h at_job, held.count)) in
      (q.0, ap (λ (ps : List JobOut). slice_get ps (skip i j)) same ∙ q.1, (held.each (skip i j) q.0 h q.1 at_job).0, stays j q.0 h q.1 at_job));
  all = λ q there. (let k = at_In new.pending q there in by q k.0 (ap (λ (ps : List JobOut). slice_get ps k.0) (sym same) ∙ k.1) (cases_eq k.0 i));
} where
  below : i < length jobs
  below = omega (arith, slice_get_within old.pending i p at, held.count)

  stays : (j : ℕ) (q : JobOut) (h : Held) → slice_get old.pending (skip i j) ≡ Some q → slice_get jobs (skip i j) ≡ Some h → IsOut new q h.work
  stays j q h at_q at_h = work_out new q h.work (work_stays old new p.who q h.work stay (λ one. skip_apart i j (callers (skip i j) i q p at_q at one)) (held.each (skip i j) q h at_q at_h).1)

  by : (q : JobOut) (k : ℕ) → slice_get old.pending k ≡ Some q → (k ≡ i) ⊎ (k ≢ i) → (In q.who (p.who ∷ []) × AreBlocksHome q.blocks new.disk.cells) ⊎ ((h : Held) × In h (remove jobs i) × IsOut new q h.work)
  by q k at_q (inl one) =
      let same : p ≡ q = same_Some p q (sym at ∙ (ap (slice_get old.pending) (sym one) ∙ at_q)) in
      inl (inl (ap (λ (x : JobOut). x.who) same), subst (λ (x : JobOut). AreBlocksHome x.blocks new.disk.cells) same home)
  by q k at_q (inr other) =
      let j = skip_back i k other in
      let there : slice_get old.pending (skip i j.0) ≡ Some q = ap (slice_get old.pending) j.1 ∙ at_q in
      let h = place_there jobs (skip i j.0) (omega (arith, slice_get_within old.pending (skip i j.0) q there, held.count)) in
      inr (h.0, In_at (remove jobs i) j.0 h.0 (taken_at jobs i j.0 below ∙ h.1), stays j.0 q h.0 there h.1)

-- one is out no more
pub held_taken : (old new : WorldView) (jobs : List Held) (i : ℕ) (p : JobOut) → slice_get old.pending i ≡ Some p → new.pending ≡ remove old.pending i → OthersStay old new p.who → HaveOwnCallers old.pending
    → AreHeld old jobs → AreHeld new (remove jobs i)
held_taken old new jobs i p at same stay callers held = record {
  count = omega (arith, held.count, ap (λ (ps : List JobOut). length ps) same, taken_count old.pending i below, taken_count jobs i below_jobs);
  each = λ j q k at_q at_k. (
      let there : slice_get old.pending (skip i j) ≡ Some q = sym (taken_at old.pending i j below) ∙ (ap (λ (ps : List JobOut). slice_get ps j) (sym same) ∙ at_q) in
      let both = held.each (skip i j) q k there (sym (taken_at jobs i j below_jobs) ∙ at_k) in
      (both.0, work_stays old new p.who q k.work stay (λ one. skip_apart i j (callers (skip i j) i q p there at one)) both.1));
} where
  below : i < length old.pending
  below = slice_get_within old.pending i p at

  below_jobs : i < length jobs
  below_jobs = omega (arith, below, held.count)

-- ---- callers and entries of their own

pub callers_taken : (pending : List JobOut) (i : ℕ) → i < length pending → HaveOwnCallers pending → HaveOwnCallers (remove pending i)
callers_taken pending i below own a b p q at_p at_q same = skip_one i a b (own (skip i a) (skip i b) p q (sym (taken_at pending i a below) ∙ at_p) (sym (taken_at pending i b below) ∙ at_q) same)

pub drafts_taken : (pending : List JobOut) (i : ℕ) → i < length pending → HaveOwnDrafts pending → HaveOwnDrafts (remove pending i)
drafts_taken pending i below own a b p q at_p at_q same = skip_one i a b (own (skip i a) (skip i b) p q (sym (taken_at pending i a below) ∙ at_p) (sym (taken_at pending i b below) ∙ at_q) same)

-- with one more
module _ (pending : List JobOut) (new : JobOut) where
  abbrev more : List JobOut
  more = pending ++ new ∷ []

  pub callers_pushed : HaveOwnCallers pending → ((p : JobOut) → In p pending → p.who ≢ new.who) → HaveOwnCallers more
  callers_pushed own none i j p q at_p at_q same = by (push_cases pending i new p at_p) (push_cases pending j new q at_q) where
    by : (slice_get pending i ≡ Some p) ⊎ ((i ≡ length pending) × (new ≡ p)) → (slice_get pending j ≡ Some q) ⊎ ((j ≡ length pending) × (new ≡ q)) → i ≡ j
    by (inl one) (inl two) = own i j p q one two same
    by (inl one) (inr two) = absurd (none p (In_at pending i p one) (same ∙ ap (λ (x : JobOut). x.who) (sym two.1)))
    by (inr one) (inl two) = absurd (none q (In_at pending j q two) (sym same ∙ ap (λ (x : JobOut). x.who) (sym one.1)))
    by (inr one) (inr two) = one.0 ∙ sym two.0

  pub drafts_pushed : HaveOwnDrafts pending → ((p : JobOut) → In p pending → p.draft ≢ new.draft) → HaveOwnDrafts more
  drafts_pushed own none i j p q at_p at_q same = by (push_cases pending i new p at_p) (push_cases pending j new q at_q) where
    by : (slice_get pending i ≡ Some p) ⊎ ((i ≡ length pending) × (new ≡ p)) → (slice_get pending j ≡ Some q) ⊎ ((j ≡ length pending) × (new ≡ q)) → i ≡ j
    by (inl one) (inl two) = own i j p q one two same
    by (inl one) (inr two) = absurd (none p (In_at pending i p one) (same ∙ ap (λ (x : JobOut). x.draft) (sym two.1)))
    by (inr one) (inl two) = absurd (none q (In_at pending j q two) (sym same ∙ ap (λ (x : JobOut). x.draft) (sym one.1)))
    by (inr one) (inr two) = one.0 ∙ sym two.0

  -- what holds of each
  pub each_pushed : (P : JobOut → Type 0) → ((p : JobOut) → In p pending → P p) → P new → (p : JobOut) → In p more → P p
  each_pushed P each own p there =
      let place = at_In more p there in
      elim (push_cases pending place.0 new p place.1) [
        | inl was ↦ each p (In_at pending place.0 p was)
        | inr last ↦ subst P last.1 own
      ]

-- what holds of each of others, holds of those that are left
pub In_taken : (pending : List JobOut) (i : ℕ) (p q : JobOut) → slice_get pending i ≡ Some p → HaveOwnCallers pending → In q (remove pending i) → In q pending × (q.who ≢ p.who)
In_taken pending i p q at own there =
    let place = at_In (remove pending i) q there in
    let was : slice_get pending (skip i place.0) ≡ Some q = sym (taken_at pending i place.0 (slice_get_within pending i p at)) ∙ place.1 in
    (In_at pending (skip i place.0) q was, λ same. skip_apart i place.0 (own (skip i place.0) i q p was at same))

-- ---- next calls

-- those of other callers stay the next ones
pub next_later : (scripts : Scripts) (history : List Item) (item : Item) (p : JobOut) → next_call scripts history item.who ≡ Some item.call → p.who ≢ item.who
    → (next_call scripts history p.who ≡ Some p.call) × IsSetUp scripts history p.who → (next_call scripts (history ++ item ∷ []) p.who ≡ Some p.call) × IsSetUp scripts (history ++ item ∷ []) p.who
next_later scripts history item p own other was =
    (next_stays scripts history item p.who (other_who item.who p.who (λ same. other (sym same))) ∙ was.0, set_up_stays scripts history item p.who own was.1)

-- THE CALLS THAT ARE OUT are the next of their callers, one each.
pub open_jobs : (w : WorldView) → AreNextCalls w → HaveOwnCallers w.pending → AreUnfinished w.scripts w.history (map begun_by w.pending)
open_jobs w next callers = record {
  next = all_at (IsNextCall w.scripts w.history) (map begun_by w.pending) (λ i c at. (
      let found = map_at begun_by w.pending i c at in
      let is = next found.0 (In_at w.pending i found.0 found.1) in
      subst (IsNextCall w.scripts w.history) found.2 (record { call = is.0; set_up = is.1 })));
  one_each = pairs_at HaveTwoCallers (map begun_by w.pending) (λ i j c d before at_c at_d. (
      let one = map_at begun_by w.pending i c at_c in
      let two = map_at begun_by w.pending j d at_d in
      let apart : same_who one.0.who two.0.who ≡ false = other_who one.0.who two.0.who (λ same. (let place : i ≡ j = callers i j one.0 two.0 one.1 two.1 same in absurd (omega (arith, place, before)))) in
      subst (λ (x : Unfinished). HaveTwoCallers x d) one.2 (subst (λ (x : Unfinished). HaveTwoCallers (begun_by one.0) x) two.2 apart)));
}

pub open_calls : (w : WorldView) → w.unfinished ≡ [] → AreNextCalls w → HaveOwnCallers w.pending → AreUnfinished w.scripts w.history (calls_out w)
open_calls w none next callers = subst (AreUnfinished w.scripts w.history) (sym (ap (λ (cs : List Unfinished). map begun_by w.pending ++ cs) none ∙ append-nil (map begun_by w.pending))) (open_jobs w next callers)

-- with one more, of a caller with no job
pub open_with : (w : WorldView) (c : Unfinished) → w.unfinished ≡ c ∷ [] → AreNextCalls w → HaveOwnCallers w.pending → HasNone w c.0 → IsNextCall w.scripts w.history c → AreUnfinished w.scripts w.history (calls_out w)
open_with w c is next callers none own =
    subst (AreUnfinished w.scripts w.history) (sym (ap (λ (cs : List Unfinished). map begun_by w.pending ++ cs) is))
    (AreUnfinished-begun w.scripts w.history (map begun_by w.pending) c (open_jobs w next callers) own
    (all_at (λ (other : Unfinished). HaveTwoCallers other c) (map begun_by w.pending) (λ i d at. (
    let found = map_at begun_by w.pending i d at in
    subst (λ (x : Unfinished). HaveTwoCallers x c) found.2 (other_who found.0.who c.0 (none found.0 (In_at w.pending i found.0 found.1)))))))
