-- What is out between two events, and where the power went in one, is what a crash asks for.
use Rattle.std.specs.Prelude.{◌≡◌, ◌⊎◌, ◌<◌, ◌≤◌, ◌+◌, ℕ, zero, suc, true, false, AllPairs, Contains, filter, List, [], ◌∷◌, ◌++◌, length, map, Option, Some, None, slice_get, refl}
use Rattle.std.specs.List.{cons_option, filter_map}
use Rattle.std.proofs.Common.{arith, ap, ◌∙◌, sym, subst, inl, inr, length-append}
use Rattle.std.proofs.lemmas.Bool.{cases_eq}
use Rattle.std.proofs.lemmas.Option.{same_Some, slice_get_within}
use Rattle.round_log.specs.pm_model.Parts.{Part}
use Rattle.round_log.specs.layout_model.declared.lines.Draft.{Draft}
use Rattle.round_log.specs.image_model.LogRule.{HoldsEntry, IsAsAtFirst}
use Rattle.round_log.specs.oplog_entry.LogLines.{line_at}
use Rattle.round_log.specs.Held.{HoldsRound}
use Rattle.round_log.specs.Rounds.{IsRound, RoundView}
use Rattle.world_view_laws.specs.list_laws.Filters.{filter_map-In, In-filter_map, In-map, map-In}
use Rattle.world_view_laws.specs.list_laws.Members.{In}
use Rattle.world_view_laws.specs.live_model.Standing.{JobOut}
use Rattle.world_view_laws.specs.posix_types.declared.call.Who.{Who}
use Rattle.world_view_laws.specs.write_end.Blocks.{AreBlocksHome, AreBlocksOut}
use Rattle.world_view_laws.specs.write_end.CrashesLaws.{MissesNone}
use Rattle.world_view_laws.specs.write_end.Lines.{IsJobLine}
use Rattle.world_view_laws.specs.write_jobs.Jobs.{FilledView, JobView}
use Rattle.world_view_laws.specs.Begins.{IsFilledOut, IsJobOut}
use Rattle.world_view_laws.specs.Lines.{AreCrashLines, AreFresh, first_of}
use Rattle.world_view_laws.specs.Losses.{AreAllOut, AreTwo, callers_of, calls_acted, MayCrash}
use Rattle.world_view_laws.specs.Views.{WorldView}
use Rattle.run_laws.proofs.Logs.{Contains-In, In-Contains}
use Rattle.run_laws.specs.declared.held.Held.{Held}
use Rattle.run_laws.specs.declared.held.Work.{Work}
use Rattle.run_laws.specs.Between.{HaveOwnCallers, HaveOwnDrafts}
use Rattle.run_laws.specs.Held.{AreHeld, filled_in, filled_of, IsLogOf, IsWorkOut, job_in, jobs_of, lines_in, slot_in, slots_of}
use Rattle.run_laws.specs.EventsPaid.{HaveActed, steps_early}
use Rattle.run_laws.proofs.EventsActed.{actor_there, actors_count, actors_of, among_In, count_calls, entries_of, entry_held, entry_in, few_among, In-behind, In-front, is_among}
use Rattle.run_laws.proofs.Lines.{IsLineLeft, line_left}
use Rattle.run_laws.proofs.Places.{at_In, In_at, pairs_at, place_there}
use Rattle.run_laws.proofs.Slots.{slot_held, slot_of_job, slot_there}

-- ---- the jobs that are out, also where one lost its power

abbrev pub IsOut : WorldView → JobOut → Work → Type 0
IsOut w p (Work.Began job) = IsJobOut w p job
IsOut w p (Work.Filled job) = IsFilledOut w p job
IsOut w p (Work.Claimed job slot) = IsFilledOut w p job
IsOut w p (Work.Stored job slot) = IsFilledOut w p job
IsOut w p (Work.Persisted job slot) = IsFilledOut w p job

pub lent_out : (w : WorldView) (p : JobOut) (work : Work) → IsOut w p work → AreBlocksOut p.blocks w.disk.cells
lent_out w p (Work.Began job) is = is.lent
lent_out w p (Work.Filled job) is = is.lent
lent_out w p (Work.Claimed job slot) is = is.lent
lent_out w p (Work.Stored job slot) is = is.lent
lent_out w p (Work.Persisted job slot) is = is.lent

-- each is one of the World, at a place of its own; and those of the World that are not among them are of these callers, and have their
-- blocks at home
pub record AreOut (w : WorldView) (ended : List Who) (jobs : List Held) : Type 0 where
  pub place : ℕ → ℕ
  pub apart : (i j : ℕ) → place i ≡ place j → i ≡ j
  pub each : (i : ℕ) (h : Held) → slice_get jobs i ≡ Some h → (p : JobOut) × (slice_get w.pending (place i) ≡ Some p) × (h.who ≡ p.who) × IsOut w p h.work
  pub all : (p : JobOut) → In p w.pending → (In p.who ended × AreBlocksHome p.blocks w.disk.cells) ⊎ ((h : Held) × In h jobs × IsOut w p h.work)

pub work_out : (w : WorldView) (p : JobOut) (work : Work) → IsWorkOut w p work → IsOut w p work
work_out w p (Work.Began job) is = is.0
work_out w p (Work.Filled job) is = is
work_out w p (Work.Claimed job slot) is = is
work_out w p (Work.Stored job slot) is = is
work_out w p (Work.Persisted job slot) is = is

pub held_out : (w : WorldView) (jobs : List Held) → AreHeld w jobs → AreOut w [] jobs
held_out w jobs held = record {
  place = λ i. i;
  apart = λ i j same. same;
  each = λ i h at. (
      let p = place_there w.pending i (omega (arith, slice_get_within jobs i h at, held.count)) in
      let both = held.each i p.0 h p.1 at in
      (p.0, p.1, both.0, work_out w p.0 h.work both.1));
  all = λ p there. (
      let i = at_In w.pending p there in
      let h = place_there jobs i.0 (omega (arith, slice_get_within w.pending i.0 p i.1, held.count)) in
      inr (h.0, In_at jobs i.0 h.0 h.1, work_out w p h.0.work (held.each i.0 p h.0 i.1 h.1).1));
}

-- ---- callers of their own

abbrev AreDistinct : List Who → Type 0
AreDistinct [] = Unit {0}
AreDistinct (x ∷ xs) = (¬ In x xs) × AreDistinct xs

In-joined : (xs ys : List Who) (z : Who) → In z (xs ++ ys) → In z xs ⊎ In z ys
In-joined [] ys z is = inr is
In-joined (x ∷ xs) ys z (inl same) = inl (inl same)
In-joined (x ∷ xs) ys z (inr rest) = elim (In-joined xs ys z rest) [ inl one ↦ inl (inr one) | inr two ↦ inr two ]

joined : (xs ys : List Who) → AreDistinct xs → AreDistinct ys → ((z : Who) → In z xs → In z ys → ⊥) → AreDistinct (xs ++ ys)
joined [] ys one two apart = two
joined (x ∷ xs) ys one two apart = (
  λ there. elim (In-joined xs ys x there) [ inl first ↦ one.0 first | inr second ↦ apart x (inl refl) second ],
  joined xs ys one.1 two (λ z at other. apart z (inr at) other),
)

two_at : (xs : List Who) → AreDistinct xs → (i j : ℕ) (x y : Who) → i < j → slice_get xs i ≡ Some x → slice_get xs j ≡ Some y → AreTwo x y
two_at [] are i j x y before at_x at_y same = (let never : None ≡ Some x = at_x in cc)
two_at (z ∷ zs) are i zero x y before at_x at_y same = absurd (omega (arith, before))
two_at (z ∷ zs) are zero (suc j) x y before at_x at_y same = are.0 (subst (λ (w : Who). In w zs) (sym (same_Some z x at_x ∙ same)) (In_at zs j y at_y))
two_at (z ∷ zs) are (suc i) (suc j) x y before at_x at_y same = two_at zs are.1 i j x y (omega (arith, before)) at_x at_y same

distinct_pairs : (xs : List Who) → AreDistinct xs → AllPairs AreTwo xs
distinct_pairs xs are = pairs_at AreTwo xs (two_at xs are)

abbrev who_of : Held → Who
who_of h = h.who

-- those at places of their own
distinct_jobs : (jobs : List Held) → ((i j : ℕ) (h k : Held) → slice_get jobs i ≡ Some h → slice_get jobs j ≡ Some k → h.who ≡ k.who → i ≡ j) → AreDistinct (map who_of jobs)
distinct_jobs [] own = tt
distinct_jobs (h ∷ jobs) own = (
  λ there. (
      let found = map-In who_of jobs h.who there in
      let place = at_In jobs found.0 found.1 in
      absurd (omega (arith, own 0 (suc place.0) h found.0 refl place.1 (sym found.2)))),
  distinct_jobs jobs (λ i j x y at_x at_y same. (let one : suc i ≡ suc j = own (suc i) (suc j) x y at_x at_y same in omega (arith, one))),
)

-- those of some of them
module _ {A : Type 0} (f : Held → Option A) (key : A → Who) where
  some_there : (jobs : List Held) → ((h : Held) (a : A) → In h jobs → f h ≡ Some a → key a ≡ h.who) → (z : Who) → In z (map key (filter_map f jobs)) → (h : Held) × (a : A) × In h jobs × (f h ≡ Some a) × (h.who ≡ z)
  some_there jobs own z there =
      let found = map-In key (filter_map f jobs) z there in
      let from = filter_map-In f jobs found.0 found.1 in
      (from.0, found.0, from.1, from.2, sym (own from.0 found.0 from.1 from.2) ∙ found.2)

  distinct_some : (jobs : List Held) → ((h : Held) (a : A) → In h jobs → f h ≡ Some a → key a ≡ h.who) → AreDistinct (map who_of jobs) → AreDistinct (map key (filter_map f jobs))
  distinct_some [] own are = tt
  distinct_some (h ∷ jobs) own are = by (f h) refl (distinct_some jobs (λ k a at is. own k a (inr at) is) are.1) where
    by : (o : Option A) → f h ≡ o → AreDistinct (map key (filter_map f jobs)) → AreDistinct (map key (cons_option o (filter_map f jobs)))
    by None is rest = rest
    by (Some a) is rest = (
      λ there. (
          let one = some_there jobs (λ k b at is_b. own k b (inr at) is_b) (key a) there in
          are.0 (subst (λ (z : Who). In z (map who_of jobs)) (one.4 ∙ own h a (inl refl) is) (In-map who_of jobs one.0 one.2))),
      rest,
    )

-- a job is to be filled or is filled
never_both : (work : Work) (job : JobView) (filled : FilledView) → job_in work ≡ Some job → filled_in work ≡ Some filled → ⊥
never_both (Work.Began x) job filled one two = (let never : None ≡ Some filled = two in cc)
never_both (Work.Filled x) job filled one two = (let never : None ≡ Some job = one in cc)
never_both (Work.Claimed x slot) job filled one two = (let never : None ≡ Some job = one in cc)
never_both (Work.Stored x slot) job filled one two = (let never : None ≡ Some job = one in cc)
never_both (Work.Persisted x slot) job filled one two = (let never : None ≡ Some job = one in cc)

out_began : (w : WorldView) (p : JobOut) (work : Work) (job : JobView) → job_in work ≡ Some job → IsOut w p work → IsJobOut w p job
out_began w p (Work.Began x) job is out = subst (IsJobOut w p) (same_Some x job is) out
out_began w p (Work.Filled x) job is out = (let never : None ≡ Some job = is in cc)
out_began w p (Work.Claimed x slot) job is out = (let never : None ≡ Some job = is in cc)
out_began w p (Work.Stored x slot) job is out = (let never : None ≡ Some job = is in cc)
out_began w p (Work.Persisted x slot) job is out = (let never : None ≡ Some job = is in cc)

out_filled : (w : WorldView) (p : JobOut) (work : Work) (job : FilledView) → filled_in work ≡ Some job → IsOut w p work → IsFilledOut w p job
out_filled w p (Work.Began x) job is out = (let never : None ≡ Some job = is in cc)
out_filled w p (Work.Filled x) job is out = subst (IsFilledOut w p) (same_Some x job is) out
out_filled w p (Work.Claimed x slot) job is out = subst (IsFilledOut w p) (same_Some x job is) out
out_filled w p (Work.Stored x slot) job is out = subst (IsFilledOut w p) (same_Some x job is) out
out_filled w p (Work.Persisted x slot) job is out = subst (IsFilledOut w p) (same_Some x job is) out

-- it is one or the other
either : (w : WorldView) (p : JobOut) (work : Work) → IsOut w p work → ((job : JobView) × (job_in work ≡ Some job) × IsJobOut w p job) ⊎ ((job : FilledView) × (filled_in work ≡ Some job) × IsFilledOut w p job)
either w p (Work.Began x) out = inl (x, refl, out)
either w p (Work.Filled x) out = inr (x, refl, out)
either w p (Work.Claimed x slot) out = inr (x, refl, out)
either w p (Work.Stored x slot) out = inr (x, refl, out)
either w p (Work.Persisted x slot) out = inr (x, refl, out)

abbrev job_held : Held → Option JobView
job_held h = job_in h.work

abbrev filled_held : Held → Option FilledView
filled_held h = filled_in h.work

module _ (w : WorldView) (ended : List Who) (jobs : List Held) (out : AreOut w ended jobs) (callers : HaveOwnCallers w.pending) where
  -- the job of the World at a place, and the other way round
  pub record IsOutAt (i : ℕ) (h : Held) : Type 0 where
    pub job : JobOut
    pub at : slice_get w.pending (out.place i) ≡ Some job
    pub who : h.who ≡ job.who
    pub is : IsOut w job h.work

  pub out_at : (i : ℕ) (h : Held) → slice_get jobs i ≡ Some h → IsOutAt i h
  out_at i h at =
      let one = out.each i h at in
      record { job = one.0; at = one.1; who = one.2; is = one.3 }

  own_callers : (i j : ℕ) (h k : Held) → slice_get jobs i ≡ Some h → slice_get jobs j ≡ Some k → h.who ≡ k.who → i ≡ j
  own_callers i j h k at_h at_k same =
      let one = out_at i h at_h in
      let two = out_at j k at_k in
      out.apart i j (callers (out.place i) (out.place j) one.job two.job one.at two.at (sym one.who ∙ (same ∙ two.who)))

  apart_jobs : AreDistinct (map who_of jobs)
  apart_jobs = distinct_jobs jobs own_callers

  job_own : (h : Held) (job : JobView) → In h jobs → job_held h ≡ Some job → job.who ≡ h.who
  job_own h job there is =
      let place = at_In jobs h there in
      let one = out_at place.0 h place.1 in
      (out_began w one.job h.work job is one.is).who ∙ sym one.who

  filled_own : (h : Held) (job : FilledView) → In h jobs → filled_held h ≡ Some job → job.who ≡ h.who
  filled_own h job there is =
      let place = at_In jobs h there in
      let one = out_at place.0 h place.1 in
      (out_filled w one.job h.work job is one.is).who ∙ sym one.who

  abbrev job_who : JobView → Who
  job_who job = job.who

  abbrev filled_who : FilledView → Who
  filled_who job = job.who

  no_two : (z : Who) → In z (map job_who (jobs_of jobs)) → In z (map filled_who (filled_of jobs)) → ⊥
  no_two z one two =
      let first = some_there job_held job_who jobs job_own z one in
      let second = some_there filled_held filled_who jobs filled_own z two in
      let i = at_In jobs first.0 first.2 in
      let j = at_In jobs second.0 second.2 in
      let same : i.0 ≡ j.0 = own_callers i.0 j.0 first.0 second.0 i.1 j.1 (first.4 ∙ sym second.4) in
      let one_job : first.0 ≡ second.0 = same_Some first.0 second.0 (sym i.1 ∙ (ap (slice_get jobs) same ∙ j.1)) in
      never_both first.0.work first.1 second.1 first.3 (ap filled_held one_job ∙ second.3)

  -- THEY ARE ALL THAT ARE OUT.
  pub all_out : AreAllOut w (jobs_of jobs) (filled_of jobs)
  all_out = record {
    each_out = λ job there. (
        let from = filter_map-In job_held jobs job there in
        let place = at_In jobs from.0 from.1 in
        let one = out_at place.0 from.0 place.1 in
        (one.job, out_began w one.job from.0.work job from.2 one.is));
    each_filled = λ job there. (
        let from = filter_map-In filled_held jobs job there in
        let place = at_In jobs from.0 from.1 in
        let one = out_at place.0 from.0 place.1 in
        (one.job, out_filled w one.job from.0.work job from.2 one.is));
    one_each = distinct_pairs (callers_of (jobs_of jobs) (filled_of jobs))
        (joined (map job_who (jobs_of jobs)) (map filled_who (filled_of jobs)) (distinct_some job_held job_who jobs job_own apart_jobs) (distinct_some filled_held filled_who jobs filled_own apart_jobs) no_two);
    all = λ p there. (
        elim (out.all p there) [
          | inl home ↦ inl home.1
          | inr held ↦ inr (elim (either w p held.0.work held.2) [
            | inl one ↦ inl (one.0, In-filter_map job_held jobs held.0 one.0 held.1 one.1, one.2)
            | inr two ↦ inr (two.0, In-filter_map filled_held jobs held.0 two.0 held.1 two.1, two.2)
          ])
        ]);
  }

-- ---- the lines

-- THE LOG AS IT IS LEFT, where the power may have gone in a line.
pub record IsLogLeft (w : WorldView) (log : RoundView) (jobs : List Held) : Type 0 where
  pub start : List Part
  pub fresh : AreFresh w start
  pub base : log.base ≡ w.base
  pub round : IsRound log
  pub holds : HoldsRound start log w.claims (slots_of jobs)
  pub lines : (h : Held) → In h jobs → IsLineLeft w log h.work

slot_member : (jobs : List Held) (h : Held) (slot : ℕ) → In h jobs → slot_in h.work ≡ Some slot → Contains (slots_of jobs) slot
slot_member jobs h slot there is = let place = at_In jobs h there in slot_there jobs place.0 slot h place.1 is

pub log_left : (w : WorldView) (log : RoundView) (jobs : List Held) → IsLogOf w log jobs → IsLogLeft w log jobs
log_left w log jobs is = record {
  start = is.start;
  fresh = is.fresh;
  base = is.base;
  round = is.round;
  holds = is.holds;
  lines = λ h there. line_left w log jobs is h.work (λ slot some. slot_member jobs h slot there some) (is.lines h there);
}

-- what an entry on its way is of
record IsEntry (w : WorldView) (log : RoundView) (work : Work) (n : ℕ) (d : Draft) : Type 0 where
  job : FilledView
  filled : filled_in work ≡ Some job
  draft : job.draft ≡ d
  slot : slot_in work ≡ Some n
  line : IsLineLeft w log work → IsJobLine (line_at log.lines n).cells (first_of w n) d (w.base + n)

abbrev Entry : Type 0
Entry = ℕ × Draft

is_entry : (w : WorldView) (log : RoundView) (job : FilledView) (slot : ℕ) (work : Work) (n : ℕ) (d : Draft) → filled_in work ≡ Some job → slot_in work ≡ Some slot
    → (IsLineLeft w log work → IsJobLine (line_at log.lines slot).cells (first_of w slot) job.draft (w.base + slot)) → (let one : Entry = (slot, job.draft) in let two : Entry = (n, d) in one ≡ two) → IsEntry w log work n d
is_entry w log job slot work n d filled some line same = record {
  job = job;
  filled = filled;
  draft = ap (λ (e : Entry). e.1) same;
  slot = some ∙ ap (λ (e : Entry). Some e.0) same;
  line = λ left. subst (λ (e : Entry). IsJobLine (line_at log.lines e.0).cells (first_of w e.0) e.1 (w.base + e.0)) same (line left);
}

entry_is : (w : WorldView) (log : RoundView) (work : Work) (n : ℕ) (d : Draft) → (let two : Entry = (n, d) in entry_in work ≡ Some two) → IsEntry w log work n d
entry_is w log (Work.Began job) n d is = (let two : Entry = (n, d) in let never : None ≡ Some two = is in cc)
entry_is w log (Work.Filled job) n d is = (let two : Entry = (n, d) in let never : None ≡ Some two = is in cc)
entry_is w log (Work.Claimed job slot) n d is = (let two : Entry = (n, d) in let never : None ≡ Some two = is in cc)
entry_is w log (Work.Stored job slot) n d is = (let one : Entry = (slot, job.draft) in let two : Entry = (n, d) in is_entry w log job slot (Work.Stored job slot) n d refl refl (λ left. left) (same_Some one two is))
entry_is w log (Work.Persisted job slot) n d is = (let one : Entry = (slot, job.draft) in let two : Entry = (n, d) in is_entry w log job slot (Work.Persisted job slot) n d refl refl (λ left. left) (same_Some one two is))

-- a line whose slot has no entry on its way is as at the beginning of the lap
line_fresh : (w : WorldView) (log : RoundView) (work : Work) (n : ℕ) → slot_in work ≡ Some n → ((d : Draft) → (let one : Entry = (n, d) in entry_in work ≡ Some one) → ⊥) → IsLineLeft w log work
    → IsAsAtFirst (line_at log.lines n).cells (first_of w n)
line_fresh w log (Work.Began job) n is none left = (let never : None ≡ Some n = is in cc)
line_fresh w log (Work.Filled job) n is none left = (let never : None ≡ Some n = is in cc)
line_fresh w log (Work.Claimed job slot) n is none left = subst (λ (m : ℕ). IsAsAtFirst (line_at log.lines m).cells (first_of w m)) (same_Some slot n is) left
line_fresh w log (Work.Stored job slot) n is none left = absurd (none job.draft (ap (λ (m : ℕ). (let one : Entry = (m, job.draft) in Some one)) (same_Some slot n is)))
line_fresh w log (Work.Persisted job slot) n is none left = absurd (none job.draft (ap (λ (m : ℕ). (let one : Entry = (m, job.draft) in Some one)) (same_Some slot n is)))

in_or_not : (xs : List ℕ) (n : ℕ) → In n xs ⊎ (¬ In n xs)
in_or_not [] n = inr (λ at. at)
in_or_not (x ∷ xs) n = elim (cases_eq x n) [
  | inl same ↦ inl (inl same)
  | inr other ↦ elim (in_or_not xs n) [
    | inl there ↦ inl (inr there)
    | inr none ↦ inr (λ at. elim at [ inl same ↦ other same | inr rest ↦ none rest ])
  ]
]

module _ (w : WorldView) (log : RoundView) (ended : List Who) (jobs : List Held) (out : AreOut w ended jobs) (callers : HaveOwnCallers w.pending) (drafts : HaveOwnDrafts w.pending) (left : IsLogLeft w log jobs) where
  count : length log.lines ≡ w.geometry.log
  count = left.holds.count ∙ left.fresh.are.count

  -- a job of which the entry is on its way
  record IsOnWay (n : ℕ) (d : Draft) : Type 0 where
    place : ℕ
    held : Held
    at : slice_get jobs place ≡ Some held
    some : (let one : Entry = (n, d) in entry_in held.work ≡ Some one)
    entry : IsEntry w log held.work n d

  on_way : (n : ℕ) (d : Draft) → (let one : Entry = (n, d) in In one (entries_of jobs)) → IsOnWay n d
  on_way n d there =
      let one : Entry = (n, d) in
      let from = filter_map-In entry_held jobs one there in
      let place = at_In jobs from.0 from.1 in
      record { place = place.0; held = from.0; at = place.1; some = from.2; entry = entry_is w log from.0.work n d from.2 }

  -- the entry is that of its job
  its_draft : (n : ℕ) (d : Draft) (way : IsOnWay n d) → (p : JobOut) × (slice_get w.pending (out.place way.place) ≡ Some p) × (d ≡ p.draft)
  its_draft n d way =
      let one = out_at w ended jobs out callers way.place way.held way.at in
      let filled = out_filled w one.job way.held.work way.entry.job way.entry.filled one.is in
      (one.job, one.at, sym way.entry.draft ∙ filled.draft)

  slot_way : (n : ℕ) (d : Draft) (way : IsOnWay n d) → Contains (slots_of jobs) n
  slot_way n d way = slot_there jobs way.place n way.held way.at way.entry.slot

  -- ONE SLOT FOR EACH: no two jobs have one entry.
  one_slot : (m n : ℕ) (d : Draft) → IsOnWay m d → IsOnWay n d → m ≡ n
  one_slot m n d one two =
      let first = its_draft m d one in
      let second = its_draft n d two in
      let same : one.place ≡ two.place = out.apart one.place two.place (drafts (out.place one.place) (out.place two.place) first.0 second.0 first.1 second.1 (sym first.2 ∙ second.2)) in
      let held : one.held ≡ two.held = same_Some one.held two.held (sym one.at ∙ (ap (slice_get jobs) same ∙ two.at)) in
      same_Some m n (sym one.entry.slot ∙ (ap slot_held held ∙ two.entry.slot))

  pub crash_lines : AreCrashLines w (filled_of jobs) (entries_of jobs) log.lines
  crash_lines = record {
    are = record { count = count; places = λ n below. left.holds.places n ∙ left.fresh.are.places n (omega (arith, below, left.holds.count)) };
    claimed = λ n d there. (
        let one : Entry = (n, d) in
        let held = left.holds.claimed n d (In-Contains w.claims one there) in
        (omega (arith, held.0, left.round.within), subst (λ (b : ℕ). HoldsEntry (line_at log.lines n).cells d (b + n)) left.base held.1));
    of_jobs = λ n d there. (
        let way = on_way n d there in
        (way.entry.job, In-filter_map filled_held jobs way.held way.entry.job (In_at jobs way.place way.held way.at) way.entry.filled, way.entry.draft));
    one_each = λ m n d one two. one_slot m n d (on_way m d one) (on_way n d two);
    entries = λ n d there. (
        let way = on_way n d there in
        (omega (arith, (left.holds.out n (slot_way n d way)).0, left.round.within), way.entry.line (left.lines way.held (In_at jobs way.place way.held way.at))));
    others = λ n below free none. by_slot n below free none (in_or_not (slots_of jobs) n);
  } where
    by_slot : (n : ℕ) → n < length log.lines → ((d : Draft) → ¬ (let one : Entry = (n, d) in In one w.claims)) → ((d : Draft) → ¬ (let one : Entry = (n, d) in In one (entries_of jobs))) → In n (slots_of jobs) ⊎ (¬ In n (slots_of jobs))
        → IsAsAtFirst (line_at log.lines n).cells (first_of w n)
    by_slot n below free none (inl there) =
        let slot = slot_of_job jobs n (In-Contains (slots_of jobs) n there) in
        let job = In_at jobs slot.place slot.job slot.at in
        line_fresh w log slot.job.work n slot.is (λ d is. (let one : Entry = (n, d) in none d (In-filter_map entry_held jobs slot.job one job is))) (left.lines slot.job job)
    by_slot n below free none (inr untaken) =
        subst (λ (line : Part). IsAsAtFirst line.cells (first_of w n)) (sym (left.holds.others n (λ d there. (let one : Entry = (n, d) in free d (Contains-In w.claims one there))) (λ there. untaken (Contains-In (slots_of jobs) n there))))
        (left.fresh.words n (omega (arith, below, left.holds.count)))

  -- ---- who acted

  -- those that ended, and those whose entry was stored
  abbrev actors : List Who
  actors = ended ++ actors_of jobs

  never_among : (p : JobOut) → In p.who actors → is_among actors p ≡ false → ⊥
  never_among p own fails = (let holds = among_In actors p own in cc (holds, fails))

  pub misses_none : MissesNone w.pending w.disk.cells (entries_of jobs) (is_among actors)
  misses_none = record {
    lent = λ p there fails. elim (out.all p there) [
      | inl own ↦ absurd (never_among p (In-front ended (actors_of jobs) p.who own.0) fails)
      | inr held ↦ lent_out w p held.0.work held.2
    ];
    none = λ p slot there fails at. (
        let way = on_way slot p.draft at in
        let its = its_draft slot p.draft way in
        let place = at_In w.pending p there in
        let here : place.0 ≡ out.place way.place = drafts place.0 (out.place way.place) p its.0 place.1 its.1 its.2 in
        let same : p ≡ its.0 = same_Some p its.0 (sym place.1 ∙ (ap (slice_get w.pending) here ∙ its.1)) in
        let one = out_at w ended jobs out callers way.place way.held way.at in
        let same_job : one.job ≡ its.0 = same_Some one.job its.0 (sym one.at ∙ its.1) in
        let who : way.held.who ≡ p.who = one.who ∙ ap (λ (x : JobOut). x.who) (same_job ∙ sym same) in
        let acts : In way.held.who (actors_of jobs) = actor_there jobs way.held (slot, p.draft) (In_at jobs way.place way.held way.at) way.some in
        never_among p (In-behind ended (actors_of jobs) p.who (subst (λ (x : Who). In x (actors_of jobs)) who acts)) fails);
  }

-- ---- the crash

abbrev pub IsLogLeftOf : WorldView → Option RoundView → List Held → Type 0
IsLogLeftOf w None jobs = w.lines_out ≡ false
IsLogLeftOf w (Some log) jobs = IsLogLeft w log jobs

module _ (w : WorldView) (ended : List Who) where
  -- WHAT IS OUT IS WHAT A CRASH ASKS FOR.
  pub may_crash : (log : Option RoundView) (jobs : List Held) → AreOut w ended jobs → HaveOwnCallers w.pending → HaveOwnDrafts w.pending → IsLogLeftOf w log jobs → MayCrash w (lines_in log) (jobs_of jobs) (filled_of jobs)
  may_crash None jobs out callers drafts home = record {
    jobs = all_out w ended jobs out callers;
    lines_are = λ lines. (let never : false ≡ true = sym home ∙ lines in cc);
    none = λ none. refl;
  }
  may_crash (Some log) jobs out callers drafts left = record {
    jobs = all_out w ended jobs out callers;
    lines_are = λ lines. (entries_of jobs, crash_lines w log ended jobs out callers drafts left);
    none = λ home. (let never : true ≡ false = sym left.fresh.are.out ∙ home in cc);
  }

  -- AND SO MANY OF THE CALLS THAT ARE OUT ACTED AT MOST: those of jobs that ended, those of jobs whose entry was stored, and the one that lost
  -- its power.
  module _ (jobs : List Held) (callers : HaveOwnCallers w.pending) (most : ℕ) (few : length ended + steps_early jobs + length w.unfinished ≤ most) where
    few_calls : length (calls_acted w (is_among (ended ++ actors_of jobs))) ≤ most
    few_calls =
        let among : length (filter (is_among (ended ++ actors_of jobs)) w.pending) ≤ length (ended ++ actors_of jobs) = few_among (ended ++ actors_of jobs) w.pending callers in
        let calls : length (calls_acted w (is_among (ended ++ actors_of jobs))) ≡ length (filter (is_among (ended ++ actors_of jobs)) w.pending) + length w.unfinished = count_calls w (is_among (ended ++ actors_of jobs)) in
        omega (arith, few, among, calls, length-append ended (actors_of jobs), actors_count jobs)

    pub have_acted : (log : Option RoundView) → AreOut w ended jobs → HaveOwnDrafts w.pending → IsLogLeftOf w log jobs → HaveActed w (record { log = log; jobs = jobs }) most
    have_acted None out drafts home = record { acts = is_among (ended ++ actors_of jobs); tells = λ lines. (let never : false ≡ true = sym home ∙ lines in cc); few = few_calls }
    have_acted (Some log) out drafts left = record {
      acts = is_among (ended ++ actors_of jobs);
      tells = λ lines. (entries_of jobs, crash_lines w log ended jobs out callers drafts left, misses_none w log ended jobs out callers drafts left);
      few = few_calls;
    }
