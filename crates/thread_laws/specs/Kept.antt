-- The laws of the turn's rule: it begins, it is kept by whatever a holder may leave, and each view tells what is so.
use Rattle.std.specs.Prelude.{◌≡◌, ◌≢◌, ◌⊎◌, ◌<◌, ◌≤◌, ◌+◌, ◌-◌, ◌||◌, not, ℕ, zero, suc, Bool, true, false, nat_lt, List, [], ◌∷◌, ◌++◌, drop, filter, length, map, slice_get, slice_set, sum_by, Option, Some, None, refl}
use Rattle.std.specs.List.{range_with_len}
use Rattle.std.proofs.Common.{arith, ap, ◌∙◌, sym, subst, inl, inr, length-append}
use Rattle.std.proofs.lemmas.Bool.{cases_Bool, cases_eq}
use Rattle.std.proofs.lemmas.Bool.Decides.{nat_tests}
use Rattle.std.proofs.lemmas.List.{length-map}
use Rattle.std.proofs.lemmas.List.FromFn.{length-range_with_len}
use Rattle.std.proofs.lemmas.List.Sums.{sum_by-append, sum_by-cons}
use Rattle.round_laws.specs.world_view_laws.pm_model.Powers.{Supply}
use Rattle.round_laws.specs.world_view_laws.oplog_entry.layout_model.declared.lines.Draft.{Draft}
use Rattle.round_laws.specs.world_view_laws.list_laws.Filters.{filter-In, In-filter}
use Rattle.round_laws.specs.world_view_laws.list_laws.Members.{In, slice_get-push}
use Rattle.round_laws.specs.world_view_laws.list_laws.Sums.{sum_at_place}
use Rattle.round_laws.specs.world_view_laws.posix_types.declared.call.Who.{Who}
use Rattle.round_laws.specs.world_view_laws.posix_types.declared.item.Item.{Item}
use Rattle.round_laws.specs.world_view_laws.posix_tables.Open.{same_who}
use Rattle.round_laws.specs.world_view_laws.posix_spec.Scripted.{items_of}
use Rattle.round_laws.specs.world_view_laws.live_model.Jobs.{without}
use Rattle.round_laws.specs.world_view_laws.live_model.Standing.{JobOut}
use Rattle.round_laws.specs.world_view_laws.Acts.{IsAct, jobs_of}
use Rattle.round_laws.specs.world_view_laws.Views.{WorldView}
use Rattle.thread_laws.specs.Hands.{callers_for, first_hands, HandView, newcomer}
use Rattle.thread_laws.specs.Holders.{claims_grow, first_listed, listed_job, round_stays, view_of_holder, view_of_other}
use Rattle.thread_laws.specs.Jobs.{jobs_In, none_of, same_is, same_self}
use Rattle.thread_laws.specs.Moves.{first_draft, Knows, MayLeave, MayOpen, next-done, next-full, next-out, next-who, next_hand}
use Rattle.thread_laws.specs.Places.{append-In, at_set, drop_whole, In-behind, In-front, mapped_at, one_at, ranged_at, set_at, set_beside}
use Rattle.thread_laws.specs.Stands.{AreTogether, HasFull, IsViewOf, listed, Stands}

not_other : (a b : Who) → a ≡ b → same_who a b ≡ false → ⊥
not_other a b same other = let never : true ≡ false = sym (ap (λ (w : Who). same_who w b) same ∙ same_self b) ∙ other in cc

-- ---- by an act of the worker at place i

module _ (old new : WorldView) (before after : Supply) (views : List HandView) (i : ℕ) (v : HandView) (was : Stands old before views) (at : slice_get views i ≡ Some v)
    (may : MayLeave v old new before after) where
  abbrev next : HandView
  next = next_hand v old new

  abbrev now : List HandView
  now = slice_set views i next

  -- who stands at a place has the caller that stood there
  was_there : (j : ℕ) (u : HandView) → slice_get now j ≡ Some u → (t : HandView) × (slice_get views j ≡ Some t) × (u.who ≡ t.who)
  was_there j u there = elim (at_set views i j next u there) [
    | inl (same, is) ↦ (v, subst (λ (k : ℕ). slice_get views k ≡ Some v) (sym same) at, ap (λ (x : HandView). x.who) (sym is) ∙ next-who v old new)
    | inr (apart, is) ↦ (u, is, refl)
  ]

  each_stays : (j : ℕ) (u : HandView) → slice_get now j ≡ Some u → IsViewOf new after u
  each_stays j u there = elim (at_set views i j next u there) [
    | inl (same, is) ↦ subst (IsViewOf new after) is (view_of_holder v old new before after (was.each i v at) may)
    | inr (apart, is) ↦ view_of_other v u old new before after was.world (was.each j u is) (λ e. apart (was.callers j i u v is at e)) may
  ]

  callers_stay : (j k : ℕ) (u t : HandView) → slice_get now j ≡ Some u → slice_get now k ≡ Some t → u.who ≡ t.who → j ≡ k
  callers_stay j k u t at_j at_k same =
      let one = was_there j u at_j in
      let two = was_there k t at_k in
      was.callers j k one.0 two.0 one.1 two.1 (sym one.2 ∙ (same ∙ two.2))

  -- ---- entries of jobs out

  -- the holder's new entry is that which it had, or another than all that are out
  own_entry : (d : Draft) → next.out ≡ Some d → (v.out ≡ Some d) ⊎ ((q : JobOut) → In q old.pending → q.draft ≢ d)
  own_entry d is =
      let first : first_draft (jobs_of v.who new.pending) ≡ Some d = sym (next-out v old new) ∙ is in
      elim may.act.own [
        | inl same ↦ inl (sym (first_listed (jobs_of v.who old.pending) v.out (was.each i v at).out) ∙ (ap first_draft (sym same) ∙ first))
        | inr (inl none) ↦ (let never : None ≡ Some d = ap first_draft (sym (none_of v.who new.pending none)) ∙ first in cc)
        | inr (inr one) ↦ (
            let it : Some one.job.draft ≡ Some d = ap first_draft (sym one.one) ∙ first in
            let same : one.job.draft ≡ d = cc in
            inr (λ q there e. one.apart q there (e ∙ sym same)))
      ]

  -- of the holder and another
  own_apart : (k : ℕ) (t : HandView) (d : Draft) → k ≢ i → slice_get views k ≡ Some t → next.out ≡ Some d → t.out ≡ Some d → ⊥
  own_apart k t d apart at_k mine its = elim (own_entry d mine) [
    | inl had ↦ apart (was.drafts k i t v d at_k at its had)
    | inr other ↦ (
        let job = listed_job (jobs_of t.who old.pending) d ((was.each k t at_k).out ∙ ap listed its) in
        other job.0 (jobs_In t.who old.pending job.0 job.1).0 job.2)
  ]

  drafts_stay : (j k : ℕ) (u t : HandView) (d : Draft) → slice_get now j ≡ Some u → slice_get now k ≡ Some t → u.out ≡ Some d → t.out ≡ Some d → j ≡ k
  drafts_stay j k u t d at_j at_k one two = elim (at_set views i j next u at_j) [
    | inl (same, is) ↦ elim (at_set views i k next t at_k) [
      | inl (too, is2) ↦ same ∙ sym too
      | inr (apart, there) ↦ absurd (own_apart k t d apart there (ap (λ (x : HandView). x.out) is ∙ one) two)
    ]
    | inr (apart, there) ↦ elim (at_set views i k next t at_k) [
      | inl (too, is2) ↦ absurd (own_apart j u d apart there (ap (λ (x : HandView). x.out) is2 ∙ two) one)
      | inr (apart2, there2) ↦ was.drafts j k u t d there there2 one two
    ]
  ]

  -- ---- jobs that are out

  abbrev HasWorker : JobOut → Type 0
  HasWorker p = (j : ℕ) × (u : HandView) × (slice_get now j ≡ Some u) × (p.who ≡ u.who)

  beside_worker : (p : JobOut) → same_who p.who v.who ≡ false → In p old.pending → HasWorker p
  beside_worker p other there =
      let worker = was.of_workers p there in
      let apart : worker.0 ≢ i = (λ e. (
      let same : worker.1 ≡ v = one_at views worker.0 worker.1 v worker.2 (subst (λ (k : ℕ). slice_get views k ≡ Some v) (sym e) at) in
      let own : p.who ≡ v.who = worker.3 ∙ ap (λ (x : HandView). x.who) same in
      not_other p.who v.who own other)) in
      (worker.0, worker.1, set_beside views i worker.0 next worker.1 apart worker.2, worker.3)

  workers_stay : (p : JobOut) → In p new.pending → HasWorker p
  workers_stay p there = elim (cases_Bool (same_who p.who v.who)) [
    | inl own ↦ (i, next, set_at views i v next at, same_is p.who v.who own ∙ sym (next-who v old new))
    | inr other ↦ (
        let left : In p (without v.who new.pending) = In-filter (λ (q : JobOut). not (same_who q.who v.who)) new.pending p there (ap not other) in
        let kept : In p (without v.who old.pending) = subst (In p) may.act.jobs left in
        beside_worker p other (filter-In (λ (q : JobOut). not (same_who q.who v.who)) old.pending p kept).0)
  ]

  -- ---- claims

  abbrev added : List (ℕ × Draft)
  added = drop (length old.claims) new.claims

  claims_weigh : (f : ℕ × Draft → ℕ) → sum_by f new.claims ≡ sum_by (λ (u : HandView). sum_by f u.done) now
  claims_weigh f =
      omega (
        arith,
        ap (sum_by f) (claims_grow v.who old new may.act.pair),
        sum_by-append f old.claims added,
        was.claims.weigh f,
        sum_at_place (λ (u : HandView). sum_by f u.done) views i v next at,
        ap (sum_by f) (next-done v old new),
        sum_by-append f v.done added,
      )

  abbrev IsFrom : ℕ × Draft → Type 0
  IsFrom pair = (j : ℕ) × (u : HandView) × (slice_get now j ≡ Some u) × In pair u.done

  own_pair : (pair : ℕ × Draft) → In pair (v.done ++ added) → IsFrom pair
  own_pair pair there = (i, next, set_at views i v next at, subst (In pair) (sym (next-done v old new)) there)

  claims_from : (pair : ℕ × Draft) → In pair new.claims → IsFrom pair
  claims_from pair there = elim (append-In old.claims added pair (subst (In pair) (claims_grow v.who old new may.act.pair) there)) [
    | inl before ↦ (
        let from = was.claims.from pair before in
        elim (cases_eq from.0 i) [
          | inl same ↦ (
              let is : from.1 ≡ v = one_at views from.0 from.1 v from.2 (subst (λ (k : ℕ). slice_get views k ≡ Some v) (sym same) at) in
              own_pair pair (In-front v.done added pair (subst (λ (x : HandView). In pair x.done) is from.3)))
          | inr apart ↦ (from.0, from.1, set_beside views i from.0 next from.1 apart from.2, from.3)
        ])
    | inr more ↦ own_pair pair (In-behind v.done added pair more)
  ]

  -- ---- jobs given up

  full_by : (full given : Bool) → (full ≡ true) ⊎ (given ≡ true) → (full || given) ≡ true
  full_by true given is = refl
  full_by false given (inl is) = cc
  full_by false given (inr is) = is

  own_full : (v.full ≡ true) ⊎ (nat_lt old.given_up new.given_up ≡ true) → HasFull now
  own_full is = record {
    place = i;
    view = next;
    at = set_at views i v next at;
    full = next-full v old new ∙ full_by v.full (nat_lt old.given_up new.given_up) is;
  }

  full_stays : (new.given_up ≡ 0) ⊎ HasFull now
  full_stays = elim may.act.given_up [
    | inl same ↦ elim was.given_up [
      | inl none ↦ inl (same ∙ none)
      | inr full ↦ elim (cases_eq full.place i) [
        | inl here ↦ (
            let is : full.view ≡ v = one_at views full.place full.view v full.at (subst (λ (k : ℕ). slice_get views k ≡ Some v) (sym here) at) in
            inr (own_full (inl (ap (λ (x : HandView). x.full) (sym is) ∙ full.full))))
        | inr apart ↦ inr (record { place = full.place; view = full.view; at = set_beside views i full.place next full.view apart full.at; full = full.full })
      ]
    ]
    | inr (more, none, over) ↦ inr (own_full (inr (less old.given_up new.given_up more)))
  ] where
    less : (n m : ℕ) → m ≡ n + 1 → nat_lt n m ≡ true
    less n m is = grind (arith, nat_tests)

  hands_kept : Stands new after now
  hands_kept = record {
    world = round_stays v old new before after was.world may;
    each = each_stays;
    callers = callers_stay;
    drafts = drafts_stay;
    of_workers = workers_stay;
    claims = record { weigh = claims_weigh; from = claims_from };
    given_up = full_stays;
  }

pub keeps_hands : (old new : WorldView) (before after : Supply) (views : List HandView) (i : ℕ) (v : HandView) → Stands old before views → slice_get views i ≡ Some v
    → MayLeave v old new before after → Stands new after (slice_set views i (next_hand v old new))
keeps_hands old new before after views i v was at may = hands_kept old new before after views i v was at may

-- ---- at the opening

pub sized_hands : (w : WorldView) (power : Supply) (n : ℕ) → MayOpen w power n → length (first_hands w power n) ≡ n
sized_hands w power n may =
    let threads = map (λ (k : ℕ). Who.Thread k) (range_with_len 0 (n - 1)) in
    omega (
      arith,
      may.some,
      length-map (callers_for n) (newcomer w power),
      length-append threads (Who.Setup ∷ []),
      length-map (range_with_len 0 (n - 1)) (λ (k : ℕ). Who.Thread k),
      length-range_with_len 0 (n - 1),
    )

-- who is at a place: the thread of this number, or the set-up at the end
caller_at : (n i : ℕ) (who : Who) → slice_get (callers_for n) i ≡ Some who → ((who ≡ Who.Thread i) × (i < n - 1)) ⊎ ((who ≡ Who.Setup) × (i ≡ n - 1))
caller_at n i who at = elim (slice_get-push (map (λ (k : ℕ). Who.Thread k) (range_with_len 0 (n - 1))) Who.Setup i who at) [
  | inl front ↦ (
      let thread = mapped_at (λ (k : ℕ). Who.Thread k) (range_with_len 0 (n - 1)) i who front in
      let is = ranged_at 0 (n - 1) i thread.0 thread.1 in
      let same : thread.0 ≡ i = omega (arith, is.0) in
      inl (sym thread.2 ∙ ap (λ (k : ℕ). Who.Thread k) same, is.1))
  | inr (end, is) ↦ inr (sym is, omega (arith, end, length-map (range_with_len 0 (n - 1)) (λ (k : ℕ). Who.Thread k), length-range_with_len 0 (n - 1)))
]

no_thread : (k : ℕ) → Who.Thread k ≡ Who.Setup → ⊥
no_thread k is = cc

one_thread : (j k : ℕ) → Who.Thread j ≡ Who.Thread k → j ≡ k
one_thread j k is = cc

one_caller : (n i j : ℕ) (who : Who) → slice_get (callers_for n) i ≡ Some who → slice_get (callers_for n) j ≡ Some who → i ≡ j
one_caller n i j who at there = elim (caller_at n i who at) [
  | inl (one, low) ↦ elim (caller_at n j who there) [
    | inl (two, below) ↦ one_thread i j (sym one ∙ two)
    | inr (two, end) ↦ absurd (no_thread i (sym one ∙ two))
  ]
  | inr (one, last) ↦ elim (caller_at n j who there) [
    | inl (two, below) ↦ absurd (no_thread j (sym two ∙ one))
    | inr (two, end) ↦ last ∙ sym end
  ]
]

nothing_done : (f : ℕ × Draft → ℕ) (w : WorldView) (power : Supply) (callers : List Who) → sum_by (λ (v : HandView). sum_by f v.done) (map (newcomer w power) callers) ≡ 0
nothing_done f w power [] = refl
nothing_done f w power (who ∷ callers) =
    omega (arith, sum_by-cons (λ (v : HandView). sum_by f v.done) (newcomer w power who) (map (newcomer w power) callers), nothing_done f w power callers)

module _ (w : WorldView) (power : Supply) (n : ℕ) (may : MayOpen w power n) where
  new_view : (who : Who) → IsViewOf w power (newcomer w power who)
  new_view who = record {
    lap = refl;
    given = refl;
    mine = ap (λ (k : ℕ). items_of (drop k w.history) who) may.none_returned ∙ ap (λ (items : List Item). items_of items who) (drop_whole w.history);
    out = ap (λ (ps : List JobOut). map (λ (p : JobOut). p.draft) (jobs_of who ps)) may.none_out;
    done = λ pair there. absurd there;
    job = inl (ap (jobs_of who) may.none_out);
    shown = tt;
  }

  hands_start : Stands w power (first_hands w power n)
  hands_start = record {
    world = record { usable = may.usable; lines_out = may.lines_out; settled = omega (arith, may.none_returned); paid = may.paid; bound = may.bound };
    each = λ i v at. (let it = mapped_at (newcomer w power) (callers_for n) i v at in subst (IsViewOf w power) it.2 (new_view it.0));
    callers = λ i j v u at there same. (
        let one = mapped_at (newcomer w power) (callers_for n) i v at in
        let two = mapped_at (newcomer w power) (callers_for n) j u there in
        let who : one.0 ≡ two.0 = ap (λ (x : HandView). x.who) one.2 ∙ (same ∙ ap (λ (x : HandView). x.who) (sym two.2)) in
        one_caller n i j two.0 (one.1 ∙ ap Some who) two.1);
    drafts = λ i j v u d at there out out2. (
        let one = mapped_at (newcomer w power) (callers_for n) i v at in
        let never : None ≡ Some d = ap (λ (x : HandView). x.out) one.2 ∙ out in
        cc);
    of_workers = λ p there. absurd (subst (In p) may.none_out there);
    claims = record {
      weigh = λ f. ap (sum_by f) may.none_claimed ∙ sym (nothing_done f w power (callers_for n));
      from = λ pair there. absurd (subst (In pair) may.none_claimed there);
    };
    given_up = inl may.none_given_up;
  }

pub starts_hands : (w : WorldView) (power : Supply) (n : ℕ) → MayOpen w power n → Stands w power (first_hands w power n)
starts_hands w power n may = hands_start w power n may

-- ---- what a view tells

pub tells_hands : (w : WorldView) (power : Supply) (views : List HandView) (i : ℕ) (v : HandView) → Stands w power views → slice_get views i ≡ Some v → Knows w power v
tells_hands w power views i v stands at = record { world = stands.world; view = stands.each i v at }
