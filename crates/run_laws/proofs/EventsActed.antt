-- The jobs whose entry was stored: a test that tells them by their callers, and how many there are.
use Rattle.std.specs.Prelude.{◌≡◌, ◌≤◌, ◌+◌, ◌||◌, ℕ, zero, suc, Bool, true, false, cond, filter, List, [], ◌∷◌, ◌++◌, length, map, Option, Some, None, refl}
use Rattle.std.specs.List.{cons_option, filter_map, list_any}
use Rattle.std.proofs.Common.{arith, ap, ◌∙◌, sym, inl, inr, length-append}
use Rattle.std.proofs.lemmas.List.{length-map}
use Rattle.std.proofs.lemmas.List.Sums.{sum_by-cons}
use Rattle.round_log.specs.layout_model.declared.lines.Draft.{Draft}
use Rattle.run_laws.proofs.Longer.{same_caller}
use Rattle.world_view_laws.specs.in_flight.commute_laws.Handles.{same_who-is}
use Rattle.world_view_laws.specs.list_laws.Filters.{In-filter_map}
use Rattle.world_view_laws.specs.list_laws.Members.{In}
use Rattle.world_view_laws.specs.live_model.Standing.{JobOut}
use Rattle.world_view_laws.specs.posix_tables.Open.{same_who}
use Rattle.world_view_laws.specs.posix_types.declared.call.Who.{Who}
use Rattle.world_view_laws.specs.write_end.Ends.{begun_by}
use Rattle.world_view_laws.specs.Losses.{calls_acted}
use Rattle.world_view_laws.specs.Views.{WorldView}
use Rattle.world_view_laws.proofs.in_flight_proofs.Taking.{other_who}
use Rattle.run_laws.specs.declared.held.Held.{Held}
use Rattle.run_laws.specs.declared.held.Work.{Work}
use Rattle.run_laws.specs.Between.{HaveOwnCallers}
use Rattle.run_laws.specs.EventsPaid.{early_in, steps_early}
use Rattle.run_laws.proofs.Places.{at_In}

-- ---- entries that were stored

-- the entry of a job that was stored, and its slot
abbrev pub entry_in : Work → Option (ℕ × Draft)
entry_in (Work.Began job) = None
entry_in (Work.Filled job) = None
entry_in (Work.Claimed job slot) = None
entry_in (Work.Stored job slot) = Some (slot, job.draft)
entry_in (Work.Persisted job slot) = Some (slot, job.draft)

abbrev pub entry_held : Held → Option (ℕ × Draft)
entry_held h = entry_in h.work

abbrev pub entries_of : List Held → List (ℕ × Draft)
entries_of jobs = filter_map entry_held jobs

-- and the caller of such a job
abbrev pub actor_by : Who → Work → Option Who
actor_by who (Work.Began job) = None
actor_by who (Work.Filled job) = None
actor_by who (Work.Claimed job slot) = None
actor_by who (Work.Stored job slot) = Some who
actor_by who (Work.Persisted job slot) = Some who

abbrev pub actor_held : Held → Option Who
actor_held h = actor_by h.who h.work

abbrev pub actors_of : List Held → List Who
actors_of jobs = filter_map actor_held jobs

actor_some : (who : Who) (work : Work) (e : ℕ × Draft) → entry_in work ≡ Some e → actor_by who work ≡ Some who
actor_some who (Work.Began job) e is = (let never : None ≡ Some e = is in cc)
actor_some who (Work.Filled job) e is = (let never : None ≡ Some e = is in cc)
actor_some who (Work.Claimed job slot) e is = (let never : None ≡ Some e = is in cc)
actor_some who (Work.Stored job slot) e is = refl
actor_some who (Work.Persisted job slot) e is = refl

pub actor_there : (jobs : List Held) (h : Held) (e : ℕ × Draft) → In h jobs → entry_in h.work ≡ Some e → In h.who (actors_of jobs)
actor_there jobs h e there is = In-filter_map actor_held jobs h h.who there (actor_some h.who h.work e is)

-- there are as many as steps that were taken ahead
one_actor : (who : Who) (work : Work) (xs : List Who) → length (cons_option (actor_by who work) xs) ≡ early_in work + length xs
one_actor who (Work.Began job) xs = omega arith
one_actor who (Work.Filled job) xs = omega arith
one_actor who (Work.Claimed job slot) xs = omega arith
one_actor who (Work.Stored job slot) xs = omega arith
one_actor who (Work.Persisted job slot) xs = omega arith

pub actors_count : (jobs : List Held) → length (actors_of jobs) ≡ steps_early jobs
actors_count [] = refl
actors_count (h ∷ jobs) = (let one = one_actor h.who h.work (actors_of jobs) in let rest = actors_count jobs in omega (arith, one, rest, sum_by-cons (λ (x : Held). early_in x.work) h jobs))

-- ---- a test by callers

-- the job is of one of these callers
abbrev pub is_among : List Who → JobOut → Bool
is_among whos p = list_any (same_who p.who) whos

or_true : (a b : Bool) → b ≡ true → (a || b) ≡ true
or_true true b is = refl
or_true false b is = is

true_or : (a b : Bool) → a ≡ true → (a || b) ≡ true
true_or true b is = refl
true_or false b is = cc

pub among_In : (whos : List Who) (p : JobOut) → In p.who whos → is_among whos p ≡ true
among_In [] p at = absurd at
among_In (x ∷ whos) p (inl same) = true_or (same_who p.who x) (is_among whos p) (ap (same_who p.who) same ∙ same_caller p.who)
among_In (x ∷ whos) p (inr rest) = or_true (same_who p.who x) (is_among whos p) (among_In whos p rest)

pub In-front : (xs ys : List Who) (x : Who) → In x xs → In x (xs ++ ys)
In-front [] ys x at = absurd at
In-front (z ∷ xs) ys x (inl same) = inl same
In-front (z ∷ xs) ys x (inr rest) = inr (In-front xs ys x rest)

pub In-behind : (xs ys : List Who) (x : Who) → In x ys → In x (xs ++ ys)
In-behind [] ys x at = at
In-behind (z ∷ xs) ys x at = inr (In-behind xs ys x at)

-- ---- at most one job of each caller

none_pass : (f : JobOut → Bool) (ps : List JobOut) → ((q : JobOut) → In q ps → f q ≡ false) → filter f ps ≡ []
none_pass f [] fails = refl
none_pass f (p ∷ ps) fails = ap (λ (b : Bool). cond b (p ∷ filter f ps) (filter f ps)) (fails p (inl refl)) ∙ none_pass f ps (λ q at. fails q (inr at))

module _ (f g : JobOut → Bool) where
  abbrev either : JobOut → Bool
  either p = f p || g p

  either_count : (ps : List JobOut) → length (filter either ps) ≤ length (filter f ps) + length (filter g ps)
  either_count [] = omega arith
  either_count (p ∷ ps) = by (f p) (g p) (either_count ps) where
    by : (a b : Bool) → length (filter either ps) ≤ length (filter f ps) + length (filter g ps)
        → length (cond (a || b) (p ∷ filter either ps) (filter either ps)) ≤ length (cond a (p ∷ filter f ps) (filter f ps)) + length (cond b (p ∷ filter g ps) (filter g ps))
    by true true rest = omega (arith, rest)
    by true false rest = omega (arith, rest)
    by false true rest = omega (arith, rest)
    by false false rest = rest

abbrev is_of : Who → JobOut → Bool
is_of x p = same_who p.who x

one_of : (x : Who) (ps : List JobOut) → HaveOwnCallers ps → length (filter (is_of x) ps) ≤ 1
one_of x [] own = omega arith
one_of x (p ∷ ps) own = by (same_who p.who x) refl (one_of x ps tail) where
  tail : HaveOwnCallers ps
  tail i j q r at_q at_r same = (let one : suc i ≡ suc j = own (suc i) (suc j) q r at_q at_r same in omega (arith, one))

  other : p.who ≡ x → (q : JobOut) → In q ps → is_of x q ≡ false
  other is q at =
      let place = at_In ps q at in
      other_who q.who x (λ same. (let one : zero ≡ suc place.0 = own zero (suc place.0) p q refl place.1 (is ∙ sym same) in omega (arith, one)))

  by : (b : Bool) → same_who p.who x ≡ b → length (filter (is_of x) ps) ≤ 1 → length (cond b (p ∷ filter (is_of x) ps) (filter (is_of x) ps)) ≤ 1
  by true is rest = (let none = none_pass (is_of x) ps (other (same_who-is p.who x is)) in omega (arith, ap (λ (qs : List JobOut). length qs) none))
  by false is rest = rest

pub few_among : (whos : List Who) (ps : List JobOut) → HaveOwnCallers ps → length (filter (is_among whos) ps) ≤ length whos
few_among [] ps own = (let none = none_pass (is_among []) ps (λ q at. refl) in omega (arith, ap (λ (qs : List JobOut). length qs) none))
few_among (x ∷ whos) ps own =
    let one = one_of x ps own in
    let rest = few_among whos ps own in
    let sum : length (filter (is_among (x ∷ whos)) ps) ≤ length (filter (is_of x) ps) + length (filter (is_among whos) ps) = either_count (is_of x) (is_among whos) ps in
    omega (arith, one, rest, sum)

-- the calls that a test tells
pub count_calls : (w : WorldView) (acts : JobOut → Bool) → length (calls_acted w acts) ≡ length (filter acts w.pending) + length w.unfinished
count_calls w acts = length-append (map begun_by (filter acts w.pending)) w.unfinished ∙ ap (λ (n : ℕ). n + length w.unfinished) (length-map (filter acts w.pending) begun_by)
