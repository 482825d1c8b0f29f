-- Once the power went, a closed round gives what a crash asks for.
use Rattle.std.specs.Prelude.{◌≡◌, ◌≢◌, ◌⊎◌, ◌<◌, ◌≤◌, ◌+◌, not, ℕ, zero, suc, Bool, true, false, AllPairs, Contains, List, [], ◌∷◌, ◌++◌, drop, filter, length, map, Option, Some, None, slice_get, refl}
use Rattle.std.specs.List.{cons_option, filter_map}
use Rattle.std.proofs.Common.{arith, ap, ◌∙◌, sym, subst, inl, inr}
use Rattle.std.proofs.lemmas.Option.{same_Some, slice_get_within}
use Rattle.oplog_tail.specs.declared.views.Claim.{Claim}
use Rattle.oplog_tail.specs.Closing.{claims_of_all}
use Rattle.oplog_tail.specs.Logs.{LogView}
use Rattle.oplog_tail.specs.Views.{claim}
use Rattle.oplog_tail.specs.oplog_entry.declared.claims.Mark.{Mark}
use Rattle.oplog_tail.specs.oplog_entry.declared.claims.Mark.TheVariants.{Lost, Written}
use Rattle.round_laws.specs.world_view_laws.pm_model.Parts.{Part}
use Rattle.round_laws.specs.world_view_laws.pm_model.Powers.{Supply}
use Rattle.round_laws.specs.world_view_laws.oplog_entry.layout_model.declared.lines.Draft.{Draft}
use Rattle.round_laws.specs.world_view_laws.list_laws.Filters.{filter_map-In, In-map, map-In}
use Rattle.round_laws.specs.world_view_laws.list_laws.Members.{In, In-slice_get, slice_get-In}
use Rattle.round_laws.specs.world_view_laws.posix_types.declared.call.Who.{Who}
use Rattle.round_laws.specs.world_view_laws.live_model.Standing.{JobOut}
use Rattle.round_laws.specs.world_view_laws.write_end.Blocks.{AreBlocksHome}
use Rattle.round_laws.specs.world_view_laws.write_jobs.Jobs.{FilledView, JobView}
use Rattle.round_laws.specs.world_view_laws.Acts.{jobs_of}
use Rattle.round_laws.specs.world_view_laws.Begins.{IsFilledOut, IsJobOut}
use Rattle.round_laws.specs.world_view_laws.Losses.{AreAllOut, AreTwo, callers_of, MayCrash}
use Rattle.round_laws.specs.world_view_laws.Views.{WorldView}
use Rattle.thread_laws.specs.Closed.{AreClaimsOf}
use Rattle.thread_laws.specs.EndsLaws.{ClosedMayCrash}
use Rattle.thread_laws.specs.Hands.{HandView}
use Rattle.thread_laws.specs.Jobs.{In_jobs, one_most}
use Rattle.thread_laws.specs.Moves.{Knows}
use Rattle.thread_laws.specs.Places.{append-In, drop_front, one_at, pairs_at}
use Rattle.thread_laws.specs.Returned.{filled_jobs_left, filled_left, IsClosed, job_left, jobs_left, Returned, seats_of}
use Rattle.thread_laws.specs.Stands.{IsJobOf, IsViewOf}
use Rattle.thread_laws.specs.States.{HasFilledJob, HasJob}
use Rattle.thread_laws.specs.Works.{as_written, IsLeftWith, IsLostOf}
use Rattle.thread_laws.specs.declared.works.Worked.{Worked}
use Rattle.thread_laws.proofs.ClosedLines.{closed_crash}
use Rattle.thread_laws.proofs.Ending.{claims_are, here, part_at, part_of_claim, taken-In, taken_of, view_of, written-In}
use Rattle.thread_laws.proofs.Moving.{filled_is_here, job_is_here}

-- ---- what came back of a worker

is_job : (worked : Worked) (job : JobView) → job_left worked ≡ Some job → worked ≡ Worked.Job job
is_job Worked.Ended job is = (let never : None ≡ Some job = is in cc)
is_job (Worked.Job x) job is = ap (λ (y : JobView). Worked.Job y) (same_Some x job is)
is_job (Worked.Filled x) job is = (let never : None ≡ Some job = is in cc)

is_filled : (worked : Worked) (job : FilledView) → filled_left worked ≡ Some job → worked ≡ Worked.Filled job
is_filled Worked.Ended job is = (let never : None ≡ Some job = is in cc)
is_filled (Worked.Job x) job is = (let never : None ≡ Some job = is in cc)
is_filled (Worked.Filled x) job is = ap (λ (y : FilledView). Worked.Filled y) (same_Some x job is)

In-filter_map : {X Y : Type 0} (h : X → Option Y) (xs : List X) (x : X) (y : Y) → In x xs → h x ≡ Some y → In y (filter_map h xs)
In-filter_map {Y = Y} h [] x y there is = absurd there
In-filter_map {Y = Y} h (z ∷ xs) x y (inl same) is = by (h z) (ap h same ∙ is) where
  by : (o : Option Y) → o ≡ Some y → In y (cons_option o (filter_map h xs))
  by None e = (let never : None ≡ Some y = e in cc)
  by (Some a) e = inl (same_Some a y e)
In-filter_map {Y = Y} h (z ∷ xs) x y (inr there) is = more (h z) (In-filter_map h xs x y there is) where
  more : (o : Option Y) → In y (filter_map h xs) → In y (cons_option o (filter_map h xs))
  more None i = i
  more (Some a) i = inr i

-- the claim of a job whose append lost the power is of a filled job
lost_filled : (worked : Worked) (lost : List Claim) (c : Claim) → IsLostOf worked lost → In c lost → (job : FilledView) × (worked ≡ Worked.Filled job) × (c.entry ≡ job.draft)
lost_filled Worked.Ended lost c none there = absurd (subst (In c) none there)
lost_filled (Worked.Job job) lost c none there = absurd (subst (In c) none there)
lost_filled (Worked.Filled job) lost c (n, is) there = elim (subst (In c) is there) [
  | inl same ↦ (job, refl, ap (λ (x : Claim). x.entry) (sym same))
  | inr none ↦ absurd none
]

one_lost : (worked : Worked) (lost : List Claim) (c e : Claim) → IsLostOf worked lost → In c lost → In e lost → c ≡ e
one_lost Worked.Ended lost c e none there also = absurd (subst (In c) none there)
one_lost (Worked.Job job) lost c e none there also = absurd (subst (In c) none there)
one_lost (Worked.Filled job) lost c e (n, is) there also = elim (subst (In c) is there) [
  | inl same ↦ elim (subst (In e) is also) [ inl too ↦ sym same ∙ too | inr none ↦ absurd none ]
  | inr none ↦ absurd none
]

-- what a seat claimed behind the pairs of its view
abbrev lost_of : Returned → List Claim
lost_of r = drop (length (as_written r.view.done)) r.seat.claims

lost_is : (r : Returned) (lost : List Claim) → r.seat.claims ≡ as_written r.view.done ++ lost → lost ≡ lost_of r
lost_is r lost are = sym (drop_front (as_written r.view.done) lost) ∙ ap (drop (length (as_written r.view.done))) (sym are)

-- ---- callers of their own

abbrev AreDistinct : List Who → Type 0
AreDistinct [] = Unit {0}
AreDistinct (x ∷ xs) = (¬ In x xs) × AreDistinct xs

joined : (xs ys : List Who) → AreDistinct xs → AreDistinct ys → ((z : Who) → In z xs → In z ys → ⊥) → AreDistinct (xs ++ ys)
joined [] ys one two apart = two
joined (x ∷ xs) ys one two apart = (
  λ there. elim (append-In xs ys x there) [ inl first ↦ one.0 first | inr second ↦ apart x (inl refl) second ],
  joined xs ys one.1 two (λ z at other. apart z (inr at) other),
)

two_at : (xs : List Who) → AreDistinct xs → (i j : ℕ) (x y : Who) → i < j → slice_get xs i ≡ Some x → slice_get xs j ≡ Some y → AreTwo x y
two_at [] are i j x y before at_x at_y same = (let never : None ≡ Some x = at_x in cc)
two_at (z ∷ zs) are i zero x y before at_x at_y same = absurd (omega (arith, before))
two_at (z ∷ zs) are zero (suc j) x y before at_x at_y same = are.0 (subst (λ (w : Who). In w zs) (sym (same_Some z x at_x ∙ same)) (In-slice_get zs j y at_y))
two_at (z ∷ zs) are (suc i) (suc j) x y before at_x at_y same = two_at zs are.1 i j x y (omega (arith, before)) at_x at_y same

distinct_pairs : (xs : List Who) → AreDistinct xs → AllPairs AreTwo xs
distinct_pairs xs are = pairs_at AreTwo xs (two_at xs are)

abbrev caller : Returned → Who
caller r = r.view.who

-- those at places of their own
distinct_parts : (parts : List Returned) → ((i j : ℕ) (r s : Returned) → slice_get parts i ≡ Some r → slice_get parts j ≡ Some s → caller r ≡ caller s → i ≡ j) → AreDistinct (map caller parts)
distinct_parts [] own = tt
distinct_parts (r ∷ parts) own = (
  λ there. (
      let found = map-In caller parts (caller r) there in
      let place = slice_get-In parts found.0 found.1 in
      absurd (omega (arith, own 0 (suc place.0) r found.0 refl place.1 (sym found.2)))),
  distinct_parts parts (λ i j x y at_x at_y same. (let one : suc i ≡ suc j = own (suc i) (suc j) x y at_x at_y same in omega (arith, one))),
)

-- those of some of them
module _ {A : Type 0} (f : Returned → Option A) (key : A → Who) where
  some_there : (parts : List Returned) → ((r : Returned) (a : A) → In r parts → f r ≡ Some a → key a ≡ caller r) → (z : Who) → In z (map key (filter_map f parts))
      → (r : Returned) × (a : A) × In r parts × (f r ≡ Some a) × (caller r ≡ z)
  some_there parts own z there =
      let found = map-In key (filter_map f parts) z there in
      let from = filter_map-In f parts found.0 found.1 in
      (from.0, found.0, from.1, from.2, sym (own from.0 found.0 from.1 from.2) ∙ found.2)

  distinct_some : (parts : List Returned) → ((r : Returned) (a : A) → In r parts → f r ≡ Some a → key a ≡ caller r) → AreDistinct (map caller parts)
      → AreDistinct (map key (filter_map f parts))
  distinct_some [] own are = tt
  distinct_some (r ∷ parts) own are = by (f r) refl (distinct_some parts (λ s a at is. own s a (inr at) is) are.1) where
    by : (o : Option A) → f r ≡ o → AreDistinct (map key (filter_map f parts)) → AreDistinct (map key (cons_option o (filter_map f parts)))
    by None is rest = rest
    by (Some a) is rest = (
      λ there. (
          let one = some_there parts (λ s b at is_b. own s b (inr at) is_b) (key a) there in
          are.0 (subst (λ (z : Who). In z (map caller parts)) (one.4 ∙ own r a (inl refl) is) (In-map caller parts one.0 one.2))),
      rest,
    )

-- ---- a closed round

module _ (w : WorldView) (power : Supply) (log : LogView) (lines : List Part) (parts : List Returned) (closed : IsClosed w power log lines parts) where
  knows : (r : Returned) → In r parts → Knows w power r.view
  knows r there = record { world = closed.stands.world; view = view_of w power log lines parts closed r there }

  left : (r : Returned) (worked : Worked) → In r parts → r.worked ≡ worked → IsLeftWith r.view worked
  left r worked there is = subst (IsLeftWith r.view) is (here w power log lines parts closed r there).job

  has_job : (r : Returned) (job : JobView) → In r parts → job_left r.worked ≡ Some job → HasJob r.view job
  has_job r job there is = left r (Worked.Job job) there (is_job r.worked job is)

  has_filled : (r : Returned) (job : FilledView) → In r parts → filled_left r.worked ≡ Some job → HasFilledJob r.view job
  has_filled r job there is = left r (Worked.Filled job) there (is_filled r.worked job is)

  job_own : (r : Returned) (job : JobView) → In r parts → job_left r.worked ≡ Some job → job.who ≡ caller r
  job_own r job there is = let has = has_job r job there is in has.is.who ∙ has.who

  filled_own : (r : Returned) (job : FilledView) → In r parts → filled_left r.worked ≡ Some job → job.who ≡ caller r
  filled_own r job there is = let has = has_filled r job there is in has.is.who ∙ has.who

  own_places : (i j : ℕ) (r s : Returned) → slice_get parts i ≡ Some r → slice_get parts j ≡ Some s → caller r ≡ caller s → i ≡ j
  own_places i j r s at_r at_s same =
      closed.apart i j r s at_r at_s
      (closed.stands.callers r.number s.number r.view s.view (closed.each r (In-slice_get parts i r at_r)).0 (closed.each s (In-slice_get parts j s at_s)).0 same)

  -- two of one caller are one
  one_part : (r s : Returned) → In r parts → In s parts → caller r ≡ caller s → r ≡ s
  one_part r s at_r at_s same =
      let i = slice_get-In parts r at_r in
      let j = slice_get-In parts s at_s in
      one_at parts i.0 r s i.1 (subst (λ (k : ℕ). slice_get parts k ≡ Some s) (sym (own_places i.0 j.0 r s i.1 j.1 same)) j.1)

  never_both : (worked : Worked) (job : JobView) (filled : FilledView) → job_left worked ≡ Some job → filled_left worked ≡ Some filled → ⊥
  never_both Worked.Ended job filled one two = (let never : None ≡ Some job = one in cc)
  never_both (Worked.Job x) job filled one two = (let never : None ≡ Some filled = two in cc)
  never_both (Worked.Filled x) job filled one two = (let never : None ≡ Some job = one in cc)

  abbrev job_of : Returned → Option JobView
  job_of r = job_left r.worked

  abbrev filled_of : Returned → Option FilledView
  filled_of r = filled_left r.worked

  abbrev job_who : JobView → Who
  job_who job = job.who

  abbrev filled_who : FilledView → Who
  filled_who job = job.who

  no_two : (z : Who) → In z (map job_who (jobs_left parts)) → In z (map filled_who (filled_jobs_left parts)) → ⊥
  no_two z one two =
      let a = some_there job_of job_who parts job_own z one in
      let b = some_there filled_of filled_who parts filled_own z two in
      let same : a.0 ≡ b.0 = one_part a.0 b.0 a.2 b.2 (a.4 ∙ sym b.4) in
      never_both b.0.worked a.1 b.1 (ap job_of (sym same) ∙ a.3) b.3

  -- ---- the jobs

  abbrev IsHere : JobOut → Type 0
  IsHere p = ((job : JobView) × In job (jobs_left parts) × IsJobOut w p job) ⊎ ((job : FilledView) × In job (filled_jobs_left parts) × IsFilledOut w p job)

  own_out : (r : Returned) → In r parts → (p : JobOut) → In p w.pending → p.who ≡ caller r → (worked : Worked) → r.worked ≡ worked → AreBlocksHome p.blocks w.disk.cells ⊎ IsHere p
  own_out r there p at own Worked.Ended is =
      let none : r.view.begun ≡ None = (left r Worked.Ended there is).0 in
      let job : IsJobOf w r.view.who None = subst (IsJobOf w r.view.who) none (view_of w power log lines parts closed r there).job in
      elim job [
        | inl gone ↦ absurd (subst (In p) gone (In_jobs r.view.who w.pending p at own))
        | inr (lost, home) ↦ inl (home p (In_jobs r.view.who w.pending p at own))
      ]
  own_out r there p at own (Worked.Job job) is =
      let kept = ap job_left is in
      let out = job_is_here w power r.view job (knows r there) (has_job r job there kept) in
      let same : out.0 ≡ p =
      one_most (jobs_of r.view.who w.pending) r.view.out out.0 p (view_of w power log lines parts closed r there).out (In_jobs r.view.who w.pending out.0 out.2.there out.1) (In_jobs r.view.who w.pending p at own)
      in
      inr (inl (job, In-filter_map job_of parts r job there kept, subst (λ (q : JobOut). IsJobOut w q job) same out.2))
  own_out r there p at own (Worked.Filled job) is =
      let kept = ap filled_left is in
      let out = filled_is_here w power r.view job (knows r there) (has_filled r job there kept) in
      let same : out.0 ≡ p =
      one_most (jobs_of r.view.who w.pending) r.view.out out.0 p (view_of w power log lines parts closed r there).out (In_jobs r.view.who w.pending out.0 out.2.there out.1) (In_jobs r.view.who w.pending p at own)
      in
      inr (inr (job, In-filter_map filled_of parts r job there kept, subst (λ (q : JobOut). IsFilledOut w q job) same out.2))

  all_out : AreAllOut w (jobs_left parts) (filled_jobs_left parts)
  all_out = record {
    each_out = λ job there. (
        let from = filter_map-In job_of parts job there in
        let out = job_is_here w power from.0.view job (knows from.0 from.1) (has_job from.0 job from.1 from.2) in
        (out.0, out.2));
    each_filled = λ job there. (
        let from = filter_map-In filled_of parts job there in
        let out = filled_is_here w power from.0.view job (knows from.0 from.1) (has_filled from.0 job from.1 from.2) in
        (out.0, out.2));
    one_each = distinct_pairs (callers_of (jobs_left parts) (filled_jobs_left parts))
        (joined (map job_who (jobs_left parts)) (map filled_who (filled_jobs_left parts)) (distinct_some job_of job_who parts job_own (distinct_parts parts own_places))
        (distinct_some filled_of filled_who parts filled_own (distinct_parts parts own_places)) no_two);
    all = λ p there. (
        let worker = closed.stands.of_workers p there in
        let part = part_at w power log lines parts closed worker.0 worker.1 worker.2 in
        own_out part.0 part.1 p there (worker.3 ∙ ap (λ (v : HandView). v.who) (sym part.2)) part.0.worked refl);
  }

  -- ---- the lines

  pub record IsTakenBy (n : ℕ) (d : Draft) : Type 0 where
    pub part : Returned
    pub there : In part parts
    pub job : FilledView
    pub is : part.worked ≡ Worked.Filled job
    pub entry : d ≡ job.draft
    pub lost_are : IsLostOf part.worked (lost_of part)
    pub lost : In (claim n d Lost) (lost_of part)

  taken_by : (n : ℕ) (d : Draft) → In (n, d) (taken_of parts) → IsTakenBy n d
  taken_by n d there =
      let c : Claim = claim n d Lost in
      let part = part_of_claim parts c (taken-In parts n d there) in
      let is = here w power log lines parts closed part.0 part.1 in
      elim (append-In (as_written part.0.view.done) is.lost c (subst (In c) is.claims part.2)) [
        | inl written ↦ absurd (not_written (written-In part.0.view.done c written).0)
        | inr lost ↦ (
            let job = lost_filled part.0.worked is.lost c is.lost_are lost in
            record {
              part = part.0;
              there = part.1;
              job = job.0;
              is = job.1;
              entry = job.2;
              lost_are = subst (IsLostOf part.0.worked) (lost_is part.0 is.lost is.claims) is.lost_are;
              lost = subst (In c) (lost_is part.0 is.lost is.claims) lost;
            })
      ] where
        not_written : Lost ≡ Written → ⊥
        not_written same = cc

  taken_job : (n : ℕ) (d : Draft) → In (n, d) (taken_of parts) → (job : FilledView) × In job (filled_jobs_left parts) × (job.draft ≡ d)
  taken_job n d there =
      let by = taken_by n d there in
      (by.job, In-filter_map filled_of parts by.part by.job by.there (ap filled_left by.is), sym by.entry)

  taken_once : (m n : ℕ) (d : Draft) → In (m, d) (taken_of parts) → In (n, d) (taken_of parts) → m ≡ n
  taken_once m n d one two =
      let a = taken_by m d one in
      let b = taken_by n d two in
      let out_a : a.part.view.out ≡ Some d = (has_filled a.part a.job a.there (ap filled_left a.is)).entry ∙ ap Some (sym a.entry) in
      let out_b : b.part.view.out ≡ Some d = (has_filled b.part b.job b.there (ap filled_left b.is)).entry ∙ ap Some (sym b.entry) in
      let places = closed.stands.drafts a.part.number b.part.number a.part.view b.part.view d (closed.each a.part a.there).0 (closed.each b.part b.there).0 out_a out_b in
      let views : a.part.view ≡ b.part.view =
      one_at closed.views a.part.number a.part.view b.part.view (closed.each a.part a.there).0
      (subst (λ (k : ℕ). slice_get closed.views k ≡ Some b.part.view) (sym places) (closed.each b.part b.there).0)
      in
      let parts_same : a.part ≡ b.part = one_part a.part b.part a.there b.there (ap (λ (v : HandView). v.who) views) in
      let its : In (claim n d Lost) (lost_of a.part) = subst (λ (r : Returned). In (claim n d Lost) (lost_of r)) (sym parts_same) b.lost in
      ap (λ (c : Claim). c.number) (one_lost a.part.worked (lost_of a.part) (claim m d Lost) (claim n d Lost) a.lost_are a.lost its)

pub closed_may_crash : ClosedMayCrash
closed_may_crash w power log lines parts closed = record {
  jobs = all_out w power log lines parts closed;
  lines_are = λ out. (
    taken_of parts,
    closed_crash w log (claims_of_all (seats_of parts)) lines (filled_jobs_left parts) (taken_of parts) closed.over (claims_are w power log lines parts closed)
        (taken_job w power log lines parts closed) (taken_once w power log lines parts closed),
  );
  none = λ none. (let never : true ≡ false = sym closed.stands.world.lines_out ∙ none in cc);
}
