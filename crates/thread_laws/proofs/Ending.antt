-- What a closed round gives the World's end.
use Rattle.std.specs.Prelude.{◌≡◌, ◌≢◌, ◌⊎◌, ◌<◌, ◌≤◌, ◌+◌, ◌*◌, ◌^◌, not, ℕ, zero, suc, Bool, true, false, Contains, flat_map, List, [], ◌∷◌, ◌++◌, drop, filter, is_none, IsSome, length, map, Option, Some, None, slice_get, refl}
use Rattle.std.proofs.Common.{arith, ap, ◌∙◌, sym, subst, inl, inr, append-nil}
use Rattle.std.proofs.lemmas.Option.{slice_get_within}
use Rattle.oplog_tail.specs.declared.views.Claim.{Claim}
use Rattle.oplog_tail.specs.Closing.{AreFirst, claims_of_all}
use Rattle.oplog_tail.specs.Logs.{capacity, LogView}
use Rattle.oplog_tail.specs.Seats.{SeatView}
use Rattle.oplog_tail.specs.Views.{claim, is_written}
use Rattle.oplog_tail.specs.oplog_entry.declared.claims.Full.{Full}
use Rattle.oplog_tail.specs.oplog_entry.declared.claims.Mark.{Mark}
use Rattle.oplog_tail.specs.oplog_entry.declared.claims.Mark.TheVariants.{Lost, Written}
use Rattle.round_laws.specs.world_view_laws.pm_model.Parts.{Part}
use Rattle.round_laws.specs.world_view_laws.pm_model.Powers.{is_on, Steps, Supply}
use Rattle.round_laws.specs.world_view_laws.oplog_entry.layout_model.declared.lines.Draft.{Draft}
use Rattle.round_laws.specs.world_view_laws.in_flight.Counts.{history_complete, history_within}
use Rattle.round_laws.specs.world_view_laws.list_laws.Filters.{filter-In, In-filter, In-map, map-In}
use Rattle.round_laws.specs.world_view_laws.list_laws.Members.{In}
use Rattle.round_laws.specs.world_view_laws.posix_types.declared.call.Call.{Call}
use Rattle.round_laws.specs.world_view_laws.posix_types.declared.call.Who.{Who}
use Rattle.round_laws.specs.world_view_laws.posix_spec.Scripted.{Scripted}
use Rattle.round_laws.specs.world_view_laws.live_model.Standing.{JobOut}
use Rattle.round_laws.specs.world_view_laws.write_jobs.Jobs.{FilledView, JobView}
use Rattle.round_laws.specs.world_view_laws.declared.views.over.Over.{Over}
use Rattle.round_laws.specs.world_view_laws.Acts.{jobs_of, Last, shows}
use Rattle.round_laws.specs.world_view_laws.Lines.{HoldTheClaims}
use Rattle.round_laws.specs.world_view_laws.Rounds.{MayCheckpoint, MayUnmount}
use Rattle.round_laws.specs.world_view_laws.Views.{next_of, WorldView}
use Rattle.thread_laws.specs.Closed.{AreClaimsOf, IsClosedOver}
use Rattle.thread_laws.specs.EndsLaws.{ClosedIsQuiet, ClosedMayCheckpoint, ClosedMayUnmount, StillIsReturned, WorkedIsReturned}
use Rattle.thread_laws.specs.Hands.{Gone, HandView, Nothing, Sees, Shown}
use Rattle.thread_laws.specs.Jobs.{In_jobs, no_member}
use Rattle.thread_laws.specs.Places.{append-In, Contains-In, In-behind, In-Contains, In-front, one_at}
use Rattle.thread_laws.specs.Returned.{HaveStopped, HaveWorkers, IsClosed, IsLossShown, Returned, ReturnedHere, seats_of}
use Rattle.thread_laws.specs.Stands.{HasFull, IsJobOf, IsStillShown, IsViewOf}
use Rattle.thread_laws.specs.States.{HasFilledJob, HasJob, HasStopped, IsOutAtEnd, IsShownLost, StopsAll}
use Rattle.thread_laws.specs.Works.{as_written, AreWritten, IsCause, IsLeftWith, IsLostOf}
use Rattle.thread_laws.specs.declared.works.Worked.{Worked}
use Rattle.thread_laws.proofs.ClosedLines.{closed_holds, full_is_claimed}

-- ---- the claims of all seats

pub claim_of_part : (parts : List Returned) (r : Returned) (c : Claim) → In r parts → In c r.seat.claims → In c (claims_of_all (seats_of parts))
claim_of_part [] r c there has = there
claim_of_part (s ∷ parts) r c (inl same) has =
    In-front s.seat.claims (claims_of_all (seats_of parts)) c (subst (λ (x : Returned). In c x.seat.claims) (sym same) has)
claim_of_part (s ∷ parts) r c (inr there) has = In-behind s.seat.claims (claims_of_all (seats_of parts)) c (claim_of_part parts r c there has)

pub part_of_claim : (parts : List Returned) (c : Claim) → In c (claims_of_all (seats_of parts)) → (r : Returned) × In r parts × In c r.seat.claims
part_of_claim [] c there = absurd there
part_of_claim (s ∷ parts) c there = elim (append-In s.seat.claims (claims_of_all (seats_of parts)) c there) [
  | inl own ↦ (s, inl refl, own)
  | inr rest ↦ (let part = part_of_claim parts c rest in (part.0, inr part.1, part.2))
]

seat_of_part : (parts : List Returned) (r : Returned) → In r parts → In r.seat (seats_of parts)
seat_of_part parts r there = In-map (λ (x : Returned). x.seat) parts r there

-- what is written of these pairs
pub written-In : (xs : List (ℕ × Draft)) (c : Claim) → In c (as_written xs) → (c.mark ≡ Written) × In (c.number, c.entry) xs
written-In xs c there =
    let pair = map-In (λ (pair : ℕ × Draft). claim pair.0 pair.1 Written) xs c there in
    (ap (λ (x : Claim). x.mark) (sym pair.2), subst (λ (x : Claim). In (x.number, x.entry) xs) pair.2 pair.1)

lost-In : (worked : Worked) (lost : List Claim) (c : Claim) → IsLostOf worked lost → In c lost → c.mark ≡ Lost
lost-In Worked.Ended lost c none there = absurd (subst (In c) none there)
lost-In (Worked.Job job) lost c none there = absurd (subst (In c) none there)
lost-In (Worked.Filled job) lost c (n, is) there = elim (subst (In c) is there) [
  | inl same ↦ ap (λ (x : Claim). x.mark) (sym same)
  | inr none ↦ absurd none
]

-- the pairs of claims whose append lost the power
abbrev is_taken : Claim → Bool
is_taken c = not (is_written c.mark)

pub taken_of : List Returned → List (ℕ × Draft)
taken_of parts = map (λ (c : Claim). (c.number, c.entry)) (filter is_taken (claims_of_all (seats_of parts)))

is_lost : (m : Mark) → not (is_written m) ≡ true → m ≡ Lost
is_lost Written is = cc
is_lost Lost is = refl

pub In-taken : (parts : List Returned) (c : Claim) → In c (claims_of_all (seats_of parts)) → c.mark ≡ Lost → In (c.number, c.entry) (taken_of parts)
unfolding taken_of
In-taken parts c there lost =
    In-map (λ (x : Claim). (x.number, x.entry)) (filter is_taken (claims_of_all (seats_of parts))) c
    (In-filter is_taken (claims_of_all (seats_of parts)) c there (ap (λ (m : Mark). not (is_written m)) lost))

pub taken-In : (parts : List Returned) (n : ℕ) (d : Draft) → In (n, d) (taken_of parts) → In (claim n d Lost) (claims_of_all (seats_of parts))
unfolding taken_of
taken-In parts n d there =
    let from = map-In (λ (x : Claim). (x.number, x.entry)) (filter is_taken (claims_of_all (seats_of parts))) (n, d) there in
    let is = filter-In is_taken (claims_of_all (seats_of parts)) from.0 from.1 in
    let lost : from.0.mark ≡ Lost = is_lost from.0.mark is.1 in
    let same : from.0 ≡ claim n d Lost = (λ i. record { number = (from.2 i).0; entry = (from.2 i).1; mark = lost i }) in
    subst (λ (x : Claim). In x (claims_of_all (seats_of parts))) same is.0

-- ---- a closed round

module _ (w : WorldView) (power : Supply) (log : LogView) (lines : List Part) (parts : List Returned) (closed : IsClosed w power log lines parts) where
  pub view_of : (r : Returned) → In r parts → IsViewOf w power r.view
  view_of r there = closed.stands.each r.number r.view (closed.each r there).0

  -- none was shown that the World is gone
  not_gone : (r : Returned) → In r parts → r.view.last ≢ Gone
  not_gone r there gone = subst (IsStillShown (shows w r.view.who)) gone (view_of r there).shown

  pub here : (r : Returned) → In r parts → ReturnedHere r
  here r there = (closed.each r there).1.here (not_gone r there)

  -- of each view this came back
  pub part_at : (i : ℕ) (v : HandView) → slice_get closed.views i ≡ Some v → (r : Returned) × In r parts × (r.view ≡ v)
  part_at i v at =
      let part = closed.all i (slice_get_within closed.views i v at) in
      (part.0, part.1, one_at closed.views i part.0.view v (subst (λ (k : ℕ). slice_get closed.views k ≡ Some part.0.view) part.2 (closed.each part.0 part.1).0) at)

  pub claims_are : AreClaimsOf (claims_of_all (seats_of parts)) w.claims (taken_of parts)
  claims_are = record {
    written = λ n d there. (
        let from = closed.stands.claims.from (n, d) there in
        let part = part_at from.0 from.1 from.2 in
        let done : In (n, d) part.0.view.done = subst (λ (v : HandView). In (n, d) v.done) (sym part.2) from.3 in
        let has : In (claim n d Written) part.0.seat.claims = Contains-In part.0.seat.claims (claim n d Written) ((closed.each part.0 part.1).1.written n d done) in
        In-Contains (claims_of_all (seats_of parts)) (claim n d Written) (claim_of_part parts part.0 (claim n d Written) part.1 has));
    lost = λ n d there. In-Contains (claims_of_all (seats_of parts)) (claim n d Lost) (taken-In parts n d there);
    all = λ c has. (
        let there = Contains-In (claims_of_all (seats_of parts)) c has in
        let part = part_of_claim parts c there in
        let is = here part.0 part.1 in
        elim (append-In (as_written part.0.view.done) is.lost c (subst (In c) is.claims part.2)) [
          | inl written ↦ (
              let its = written-In part.0.view.done c written in
              inl (its.0, (view_of part.0 part.1).done (c.number, c.entry) its.1))
          | inr lost ↦ (
              let mark = lost-In part.0.worked is.lost c is.lost_are lost in
              inr (mark, In-taken parts c there mark))
        ]);
  }

  -- ---- while the power is on

  module _ (awake : w.lost ≡ false) where
    no_loss : (r : Returned) → In r parts → IsShownLost r.view.last → ⊥
    no_loss r there = by r.view.last (view_of r there).shown where
      by : (shown : Shown) → IsStillShown (shows w r.view.who) shown → IsShownLost shown → ⊥
      by Nothing still lost = lost
      by (Sees last) still lost = let never : true ≡ false = sym (still.lost lost) ∙ awake in cc
      by Gone still lost = lost

    ended : (r : Returned) → In r parts → r.worked ≡ Worked.Ended
    ended r there = by r.worked refl (here r there).shown where
      by : (worked : Worked) → r.worked ≡ worked → IsLossShown worked r.view → worked ≡ Worked.Ended
      by Worked.Ended is shown = refl
      by (Worked.Job job) is shown = absurd (no_loss r there shown)
      by (Worked.Filled job) is shown = absurd (no_loss r there shown)

    -- so none of its jobs is out
    none_out : (p : JobOut) → In p w.pending → ⊥
    none_out p there =
        let worker = closed.stands.of_workers p there in
        let part = part_at worker.0 worker.1 worker.2 in
        let own : p.who ≡ part.0.view.who = worker.3 ∙ ap (λ (v : HandView). v.who) (sym part.2) in
        let left : IsLeftWith part.0.view Worked.Ended = subst (IsLeftWith part.0.view) (ended part.0 part.1) (here part.0 part.1).job in
        let job : IsJobOf w part.0.view.who None = subst (IsJobOf w part.0.view.who) left.0 (view_of part.0 part.1).job in
        elim job [
          | inl none ↦ subst (In p) none (In_jobs part.0.view.who w.pending p there own)
          | inr (lost, home) ↦ (let never : true ≡ false = sym lost ∙ awake in cc)
        ]

    none_pending : w.pending ≡ []
    none_pending = no_member w.pending none_out

    none_taken : taken_of parts ≡ []
    none_taken = no_member (taken_of parts) (λ pair there. (
        let c : Claim = claim pair.0 pair.1 Lost in
        let part = part_of_claim parts c (taken-In parts pair.0 pair.1 there) in
        let is = here part.0 part.1 in
        elim (append-In (as_written part.0.view.done) is.lost c (subst (In c) is.claims part.2)) [
          | inl written ↦ not_written (written-In part.0.view.done c written).0
          | inr lost ↦ subst (In c) (subst (λ (worked : Worked). IsLostOf worked is.lost) (ended part.0 part.1) is.lost_are) lost
        ])) where
          not_written : Lost ≡ Written → ⊥
          not_written same = cc

    claims_whole : AreClaimsOf (claims_of_all (seats_of parts)) w.claims []
    claims_whole = subst (AreClaimsOf (claims_of_all (seats_of parts)) w.claims) none_taken claims_are

    lines_hold : HoldTheClaims w lines
    lines_hold = closed_holds w log (claims_of_all (seats_of parts)) lines closed.over claims_whole

    some_claimed : 1 ≤ w.geometry.log → (w.given_up ≡ 0 → ⊥) → w.claims ≢ []
    some_claimed some given none = elim closed.stands.given_up [
      | inl is ↦ given is
      | inr full ↦ (
          let part = part_at full.place full.view full.at in
          let found = (here part.0 part.1).full (ap (λ (v : HandView). v.full) part.2 ∙ full.full) in
          let lines_there : 1 ≤ capacity log = omega (arith, some, closed.over.fresh.are.count) in
          let one = full_is_claimed log (seats_of parts) part.0.seat found.0 closed.first
          (In-Contains (seats_of parts) part.0.seat (seat_of_part parts part.0 part.1)) found.1 lines_there in
          elim (claims_whole.all one.0 one.1) [
            | inl written ↦ subst (In (one.0.number, one.0.entry)) none written.1
            | inr lost ↦ lost.1
          ])
    ]

    -- a cause for which all stop is the end of the round
    over_by_all : (r : Returned) → In r parts → StopsAll r.view.last → w.over ≢ None
    over_by_all r there = by r.view.last (view_of r there).shown where
      by : (shown : Shown) → IsStillShown (shows w r.view.who) shown → StopsAll shown → w.over ≢ None
      by Nothing still stops none = absurd stops
      by (Sees last) still (inl over) none = over (sym (still.over over) ∙ none)
      by (Sees last) still (inr lost) none = let never : true ≡ false = sym (still.lost lost) ∙ awake in cc
      by Gone still stops none = absurd still

    over_by_own : (r : Returned) → In r parts → next_of w r.view.who ≢ None → HasStopped r.view.last → w.over ≢ None
    over_by_own r there next = by r.view.last (view_of r there).shown where
      ends : (o : Option Call) → is_none o ≡ true → o ≡ None
      ends None is = refl
      ends (Some call) is = cc

      by : (shown : Shown) → IsStillShown (shows w r.view.who) shown → HasStopped shown → w.over ≢ None
      by Nothing still stops none = absurd stops
      by (Sees last) still (inl end) none = next (ends (next_of w r.view.who) (still.ended end))
      by (Sees last) still (inr (inl over)) none = over (sym (still.over over) ∙ none)
      by (Sees last) still (inr (inr lost)) none = let never : true ≡ false = sym (still.lost lost) ∙ awake in cc
      by Gone still stops none = absurd still

    is_over : HaveStopped parts → HaveWorkers w parts → (who : Who) → next_of w who ≢ None → w.over ≢ None
    is_over (inl each) workers who next =
        let worker = workers who next in
        over_by_own worker.0 worker.1 (λ none. next (ap (next_of w) (sym worker.2) ∙ none)) (each worker.0 worker.1)
    is_over (inr (r, there, stops)) workers who next = over_by_all r there stops

pub closed_is_quiet : ClosedIsQuiet
closed_is_quiet w power log lines parts closed awake some =
    (none_pending w power log lines parts closed awake, lines_hold w power log lines parts closed awake, some_claimed w power log lines parts closed awake some)

some_over : (o : Option Over) → o ≢ None → IsSome o
some_over None some = absurd (some refl)
some_over (Some over) some = refl

pub closed_may_checkpoint : ClosedMayCheckpoint
closed_may_checkpoint w power log lines parts closed awake some stopped workers who next = record {
  over = some_over w.over (is_over w power log lines parts closed awake stopped workers who next);
  none_out = none_pending w power log lines parts closed awake;
  lines_are = lines_hold w power log lines parts closed awake;
  some = some_claimed w power log lines parts closed awake some;
}

pub closed_may_unmount : ClosedMayUnmount
closed_may_unmount w power log lines parts closed awake some scripted none = record {
  none_out = none_pending w power log lines parts closed awake;
  lines_are = lines_hold w power log lines parts closed awake;
  ended = omega (arith, history_complete w.scripts w.history none, history_within w.scripts w.history scripted);
}

-- ---- what comes back of one worker

loss_shown : (worked : Worked) (v : HandView) (power : Supply) → IsCause worked v power → IsLossShown worked v
loss_shown Worked.Ended v power cause = tt
loss_shown (Worked.Job job) v power cause = cause.1
loss_shown (Worked.Filled job) v power cause = cause.1

pub worked_is_returned : WorkedIsReturned
worked_is_returned number v u seat now power worked has nothing empty free = record {
  written = has.written;
  here = λ there. (
      let is = has.here there in
      record {
        lost = is.lost;
        lost_are = is.lost_are;
        claims = is.gained
            ∙ (ap (λ (cs : List Claim). cs ++ (as_written (drop (length v.done) u.done) ++ is.lost)) free
            ∙ ap (λ (ps : List (ℕ × Draft)). as_written (drop (length ps) u.done) ++ is.lost) nothing);
        full = λ full. elim (is.full full) [ inl was ↦ (let never : false ≡ true = sym empty ∙ was in cc) | inr found ↦ found ];
        job = is.job;
        shown = loss_shown worked u power has.cause;
      });
}

pub still_is_returned : StillIsReturned
still_is_returned number v seat out begun nothing empty free = record {
  written = λ n d there. absurd (subst (In (n, d)) nothing there);
  here = λ there. record {
    lost = [];
    lost_are = refl;
    claims = free ∙ ap (λ (ps : List (ℕ × Draft)). as_written ps ++ []) (sym nothing);
    full = λ full. (let never : false ≡ true = sym empty ∙ full in cc);
    job = (begun, inl out);
    shown = tt;
  };
}
