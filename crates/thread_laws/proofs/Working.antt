-- How a worker's part is put together: lists, and the steps of its own power.
use Rattle.std.specs.Prelude.{◌≡◌, ◌≢◌, ◌⊎◌, ◌<◌, ◌≤◌, ◌+◌, ◌*◌, ◌^◌, ℕ, Bool, true, false, Contains, List, [], ◌∷◌, ◌++◌, drop, length, map, nat_lt, Option, Some, None, refl}
use Rattle.std.proofs.Common.{arith, ap, ◌∙◌, sym, subst, inl, inr, append-nil, append_assoc, length-append}
use Rattle.std.proofs.lemmas.Bool.{cases_lt}
use Rattle.std.proofs.lemmas.Bool.Decides.{nat_tests}
use Rattle.oplog_tail.specs.Answers.{Answers}
use Rattle.oplog_tail.specs.Seats.{SeatView, with_claim}
use Rattle.oplog_tail.specs.Views.{claim}
use Rattle.oplog_tail.specs.declared.appends.Appended.{Appended}
use Rattle.oplog_tail.specs.declared.appends.Receipt.{Receipt}
use Rattle.oplog_tail.specs.declared.views.Claim.{Claim}
use Rattle.oplog_tail.specs.oplog_entry.declared.claims.Full.{Full}
use Rattle.oplog_tail.specs.oplog_entry.declared.claims.Mark.{Mark}
use Rattle.oplog_tail.specs.oplog_entry.declared.claims.Mark.TheVariants.{Lost, Written}
use Rattle.round_laws.specs.world_view_laws.pm_model.Powers.{is_on, Steps, Supply}
use Rattle.round_laws.specs.world_view_laws.oplog_entry.layout_model.declared.lines.Draft.{Draft}
use Rattle.round_laws.specs.world_view_laws.list_laws.Members.{In}
use Rattle.round_laws.specs.world_view_laws.posix_types.declared.item.Item.{Item}
use Rattle.round_laws.specs.world_view_laws.write_jobs.Jobs.{FilledView, JobView}
use Rattle.thread_laws.specs.Hands.{Gone, HandView, Nothing, Sees, Shown}
use Rattle.thread_laws.specs.Places.{append-In, Contains-In, drop_front, drop_whole, In-Contains, In-front}
use Rattle.thread_laws.specs.States.{HasFilledJob, HasJob, HasStopped, IsShownLost, IsShownSetUp, StopsAll}
use Rattle.thread_laws.specs.Works.{as_written, AreWritten, HasCome, HasDropped, HasEnded, HasLooked, HasTold, HasWorked, IsLater, job_steps, LeavesHere}
use Rattle.thread_laws.specs.WorksLaws.{ComesByJob, ComesByLook, ComesFirst, EndsByFinish, EndsByFull, EndsByLook, EndsUnappended, EndsUnfilled, OwnIsBounded}
use Rattle.thread_laws.specs.declared.works.Next.{Next}
use Rattle.thread_laws.specs.declared.works.Worked.{Worked}

-- ---- later views

pub same_later : (v : HandView) → IsLater v v
same_later v = record { who = refl; lap = refl; given = refl; mine = ([], sym (append-nil v.mine)); done = ([], sym (append-nil v.done)); full = λ f. f }

pub later_later : (a b c : HandView) → IsLater a b → IsLater b c → IsLater a c
later_later a b c one two = record {
  who = two.who ∙ one.who;
  lap = two.lap ∙ one.lap;
  given = two.given ∙ one.given;
  mine = (one.mine.0 ++ two.mine.0, two.mine.1 ∙ (ap (λ xs. xs ++ two.mine.0) one.mine.1 ∙ append_assoc a.mine one.mine.0 two.mine.0));
  done = (one.done.0 ++ two.done.0, two.done.1 ∙ (ap (λ xs. xs ++ two.done.0) one.done.1 ∙ append_assoc a.done one.done.0 two.done.0));
  full = λ f. two.full (one.full f);
}

-- a loss that was shown is a cause to stop
pub lost_stops : (shown : Shown) → IsShownLost shown → HasStopped shown
lost_stops Nothing is = absurd is
lost_stops (Sees last) is = inr (inr is)
lost_stops Gone is = absurd is

gone_stops : (shown : Shown) → shown ≡ Gone → HasStopped shown
gone_stops shown is = subst HasStopped (sym is) tt

-- ---- pairs and claims

written_more : (xs : List (ℕ × Draft)) (n : ℕ) (d : Draft) → as_written (xs ++ (n, d) ∷ []) ≡ as_written xs ++ claim n d Written ∷ []
written_more [] n d = refl
written_more (x ∷ xs) n d = ap (λ cs. claim x.0 x.1 Written ∷ cs) (written_more xs n d)

-- what was gained so far, and one more
gained_more : (old v u : HandView) (n : ℕ) (d : Draft) → IsLater old v → u.done ≡ v.done ++ (n, d) ∷ []
    → drop (length old.done) u.done ≡ drop (length old.done) v.done ++ (n, d) ∷ []
gained_more old v u n d later more =
    let gained : drop (length old.done) v.done ≡ later.done.0 = ap (drop (length old.done)) later.done.1 ∙ drop_front old.done later.done.0 in
    let all : u.done ≡ old.done ++ (later.done.0 ++ (n, d) ∷ []) = more ∙ (ap (λ xs. xs ++ (n, d) ∷ []) later.done.1 ∙ append_assoc old.done later.done.0 ((n, d) ∷ [])) in
    ap (drop (length old.done)) all ∙ (drop_front old.done (later.done.0 ++ (n, d) ∷ []) ∙ ap (λ xs. xs ++ (n, d) ∷ []) (sym gained))

-- claims that stand stay, in a seat with one more
stays_written : (v : HandView) (now then : SeatView) (n : ℕ) (d : Draft) (mark : Mark) → AreWritten v now → then ≡ with_claim now n d mark → AreWritten v then
stays_written v now then n d mark are is m e there =
    let all : List Claim = now.claims ++ claim n d mark ∷ [] in
    let has : Contains all (claim m e Written) = In-Contains all (claim m e Written) (In-front now.claims (claim n d mark ∷ []) (claim m e Written) (Contains-In now.claims (claim m e Written) (are m e there))) in
    subst (λ (cs : List Claim). Contains cs (claim m e Written)) (sym (ap (λ (s : SeatView). s.claims) is)) has

last_In : {X : Type 0} (xs : List X) (x : X) → In x (xs ++ x ∷ [])
last_In [] x = inl refl
last_In (y ∷ xs) x = inr (last_In xs x)

more_written : (v u : HandView) (now then : SeatView) (n : ℕ) (d : Draft) → AreWritten v now → then ≡ with_claim now n d Written → u.done ≡ v.done ++ (n, d) ∷ [] → AreWritten u then
more_written v u now then n d are is more m e there = elim (append-In v.done ((n, d) ∷ []) (m, e) (subst (In (m, e)) more there)) [
  | inl before ↦ stays_written v now then n d Written are is m e before
  | inr (inl same) ↦ (
      let all : List Claim = now.claims ++ claim n d Written ∷ [] in
      let last : Contains all (claim n d Written) = In-Contains all (claim n d Written) (last_In now.claims (claim n d Written)) in
      let has : Contains all (claim m e Written) = subst (λ (p : ℕ × Draft). Contains all (claim p.0 p.1 Written)) same last in
      subst (λ (cs : List Claim). Contains cs (claim m e Written)) (sym (ap (λ (s : SeatView). s.claims) is)) has)
  | inr (inr none) ↦ absurd none
]

same_written : (v u : HandView) (now : SeatView) → AreWritten v now → u.done ≡ v.done → AreWritten u now
same_written v u now are same m e there = are m e (subst (In (m, e)) same there)

one_gained : (old v u : HandView) (seat now then : SeatView) (n : ℕ) (d : Draft) → IsLater old v → now.claims ≡ seat.claims ++ as_written (drop (length old.done) v.done)
    → then ≡ with_claim now n d Written → u.done ≡ v.done ++ (n, d) ∷ [] → then.claims ≡ seat.claims ++ as_written (drop (length old.done) u.done)
one_gained old v u seat now then n d later gained is more =
    let had = drop (length old.done) v.done in
    ap (λ (s : SeatView). s.claims) is
    ∙ (ap (λ cs. cs ++ claim n d Written ∷ []) gained
    ∙ (append_assoc seat.claims (as_written had) (claim n d Written ∷ [])
    ∙ ap (λ cs. seat.claims ++ cs) (sym (ap as_written (gained_more old v u n d later more) ∙ written_more had n d))))

-- ---- so far

pub comes_first : ComesFirst
comes_first v seat power written is = record {
  later = same_later v;
  log = refl;
  written = written;
  gained = sym (ap (λ xs. seat.claims ++ as_written xs) (drop_whole v.done) ∙ append-nil seat.claims);
  full = refl;
  given = ap (λ (p : Supply). p.given) is;
  paid = omega (arith, ap (λ (p : Supply). p.taken) is);
}

pub comes_by_look : ComesByLook
comes_by_look old v u seat now power next come looked = record {
  later = later_later old v u come.later looked.later;
  log = come.log;
  written = same_written v u now come.written looked.done;
  gained = come.gained ∙ ap (λ xs. seat.claims ++ as_written (drop (length old.done) xs)) (sym looked.done);
  full = looked.full ∙ come.full;
  given = come.given;
  paid = omega (arith, come.paid, ap length looked.later.mine.1, length-append v.mine looked.later.mine.0);
}

pub comes_by_job : ComesByJob
comes_by_job old v u seat now then before middle after d capacity receipt come fills answers steps ended =
    let is : then ≡ with_claim now receipt.slot d Written = answers.3 in
    let on = ended.on refl in
    record {
      later = later_later old v u come.later ended.later;
      log = ap (λ (s : SeatView). s.log) is ∙ come.log;
      written = more_written v u now then receipt.slot d come.written is on.0;
      gained = one_gained old v u seat now then receipt.slot d come.later come.gained is on.0;
      full = ended.full ∙ come.full;
      given = steps.given ∙ (fills.given ∙ come.given);
      paid = omega (arith, come.paid, fills.bound, steps.bound, on.1);
    }

-- ---- the ends

pub ends_by_look : EndsByLook
ends_by_look old v u seat now power come looked = record {
  later = later_later old v u come.later looked.later;
  log = come.log;
  written = same_written v u now come.written looked.done;
  cause = looked.next_is.2;
  here = λ there. record {
    lost = [];
    lost_are = refl;
    gained = come.gained ∙ ap (λ cs. seat.claims ++ cs) (ap (λ xs. as_written (drop (length old.done) xs)) (sym looked.done) ∙ sym (append-nil (as_written (drop (length old.done) u.done))));
    full = λ full. inl (sym (looked.full ∙ come.full) ∙ full);
    job = (looked.next_is.0, inl looked.next_is.1);
  };
}

-- the view in which a loss was told
told_later : (v u : HandView) → u ≡ record v { last = u.last } → IsLater v u
told_later v u is = subst (IsLater v) (sym is) (record { who = refl; lap = refl; given = refl; mine = (same_later v).mine; done = (same_later v).done; full = λ f. f })

told_job : (v u : HandView) (job : JobView) → HasTold v u true → HasJob v job → HasJob u job
told_job v u job (lost, set_up, is) has =
    subst (λ (x : HandView). HasJob x job) (sym is) (record { then = has.then; out = has.out; begun = has.begun; who = has.who; is = has.is; entry = has.entry; set_up = set_up has.set_up })

told_filled : (v u : HandView) (job : FilledView) → HasTold v u true → HasFilledJob v job → HasFilledJob u job
told_filled v u job (lost, set_up, is) has =
    subst (λ (x : HandView). HasFilledJob x job) (sym is) (record { then = has.then; out = has.out; begun = has.begun; who = has.who; is = has.is; entry = has.entry; set_up = set_up has.set_up })

-- where the World is gone, it is shown so
gone_later : (v u : HandView) → u ≡ record v { last = Gone } → IsLater v u
gone_later v u is = subst (IsLater v) (sym is) (record { who = refl; lap = refl; given = refl; mine = (same_later v).mine; done = (same_later v).done; full = λ f. f })

ends_gone : (old v u : HandView) (seat now : SeatView) (power : Supply) → IsLater old v → now.log ≡ seat.log → AreWritten v now → u ≡ record v { last = Gone }
    → HasWorked old u seat now power Worked.Ended
ends_gone old v u seat now power later log written is =
    let gone : u.last ≡ Gone = ap (λ (x : HandView). x.last) is in
    record {
      later = later_later old v u later (gone_later v u is);
      log = log;
      written = same_written v u now written (ap (λ (x : HandView). x.done) is);
      cause = gone_stops u.last gone;
      here = λ there. absurd (there gone);
    }

pub ends_unfilled : EndsUnfilled
ends_unfilled old v u seat now before after job come fills off has = (
  λ told. record {
    later = later_later old v u come.later (told_later v u told.2);
    log = come.log;
    written = same_written v u now come.written (ap (λ (x : HandView). x.done) told.2);
    cause = (off, told.0);
    here = λ there. record {
      lost = [];
      lost_are = refl;
      gained = come.gained
          ∙ ap (λ cs. seat.claims ++ cs)
          (ap (λ xs. as_written (drop (length old.done) xs)) (sym (ap (λ (x : HandView). x.done) told.2)) ∙ sym (append-nil (as_written (drop (length old.done) u.done))));
      full = λ full. inl (sym (ap (λ (x : HandView). x.full) told.2 ∙ come.full) ∙ full);
      job = told_job v u job told has;
    };
  },
  λ gone. ends_gone old v u seat now after come.later come.log come.written gone,
)

pub ends_unappended : EndsUnappended
ends_unappended old v u seat now then before middle after capacity job come fills answers steps has =
    let n = answers.1.0 in
    let is : then ≡ with_claim now n job.draft Lost = answers.1.2 in
    let log : then.log ≡ seat.log = ap (λ (s : SeatView). s.log) is ∙ come.log in
    let written : AreWritten v then = stays_written v now then n job.draft Lost come.written is in (
      λ told. record {
        later = later_later old v u come.later (told_later v u told.2);
        log = log;
        written = same_written v u then written (ap (λ (x : HandView). x.done) told.2);
        cause = (answers.2, told.0);
        here = λ there. record {
          lost = claim n job.draft Lost ∷ [];
          lost_are = (n, refl);
          gained = ap (λ (s : SeatView). s.claims) is
              ∙ (ap (λ cs. cs ++ claim n job.draft Lost ∷ []) come.gained
              ∙ (append_assoc seat.claims (as_written (drop (length old.done) v.done)) (claim n job.draft Lost ∷ [])
              ∙ ap (λ xs. seat.claims ++ (as_written (drop (length old.done) xs) ++ claim n job.draft Lost ∷ [])) (sym (ap (λ (x : HandView). x.done) told.2))));
          full = λ full. inl (sym (ap (λ (x : HandView). x.full) told.2 ∙ come.full) ∙ full);
          job = told_filled v u job told has;
        };
      },
      λ gone. ends_gone old v u seat then after come.later log written gone,
    )

pub ends_by_full : EndsByFull
ends_by_full old v u seat now then before middle after capacity d full come fills answers dropped =
    let log : then.log ≡ now.log = ap (λ (s : SeatView). s.log) answers.2 in
    let claims : then.claims ≡ now.claims = ap (λ (s : SeatView). s.claims) answers.2 in
    record {
      later = later_later old v u come.later dropped.later;
      log = log ∙ come.log;
      written = λ m e there. subst (λ (cs : List Claim). Contains cs (claim m e Written)) (sym claims) (same_written v u now come.written dropped.done m e there);
      cause = dropped.stopped;
      here = λ there. (
          let stands = dropped.here there in
          record {
            lost = [];
            lost_are = refl;
            gained = claims
                ∙ (come.gained ∙ ap (λ cs. seat.claims ++ cs) (ap (λ xs. as_written (drop (length old.done) xs)) (sym dropped.done) ∙ sym (append-nil (as_written (drop (length old.done) u.done)))));
            full = λ given. inr (full, ap (λ (s : SeatView). s.full) answers.2);
            job = (stands.0, inl stands.1);
          });
    }

pub ends_by_finish : EndsByFinish
ends_by_finish old v u seat now then before middle after capacity d receipt come fills answers steps ended =
    let is : then ≡ with_claim now receipt.slot d Written = answers.3 in
    let log : then.log ≡ seat.log = ap (λ (s : SeatView). s.log) is ∙ come.log in
    elim (ended.off refl) [
      | inl (gone, same) ↦ record {
        later = later_later old v u come.later ended.later;
        log = log;
        written = same_written v u then (stays_written v now then receipt.slot d Written come.written is) same;
        cause = gone_stops u.last gone;
        here = λ there. absurd (there gone);
      }
      | inr (more, none, out, lost) ↦ record {
        later = later_later old v u come.later ended.later;
        log = log;
        written = more_written v u now then receipt.slot d come.written is more;
        cause = lost_stops u.last lost;
        here = λ there. record {
          lost = [];
          lost_are = refl;
          gained = one_gained old v u seat now then receipt.slot d come.later come.gained is more
              ∙ ap (λ cs. seat.claims ++ cs) (sym (append-nil (as_written (drop (length old.done) u.done))));
          full = λ full. inl (sym (ended.full ∙ come.full) ∙ full);
          job = (none, inr (v.done, receipt.slot, d, more, out, lost));
        };
      }
    ]

not_below : (taken given : ℕ) → nat_lt taken given ≡ false → given ≤ taken
not_below taken given is = elim (cases_lt taken given) [ inl below ↦ (let never : true ≡ false = sym (less taken given below) ∙ is in cc) | inr above ↦ above ] where
  less : (n m : ℕ) → n < m → nat_lt n m ≡ true
  less n m below = grind (arith, nat_tests)

-- a power that is off has taken all its steps
pub all_taken : (power : Supply) → is_on power ≡ false → (steps : ℕ) × (power.given ≡ Some steps) × (steps ≤ power.taken)
all_taken power off = by power.given refl off where
  by : (given : Option ℕ) → power.given ≡ given → is_on power ≡ false → (steps : ℕ) × (power.given ≡ Some steps) × (steps ≤ power.taken)
  by None is off = (let never : true ≡ false = sym (ap (λ (g : Option ℕ). is_on (record { given = g; taken = power.taken })) is) ∙ off in cc)
  by (Some steps) is off = (steps, is, not_below power.taken steps (sym (ap (λ (g : Option ℕ). is_on (record { given = g; taken = power.taken })) is) ∙ off))

pub own_is_bounded : OwnIsBounded
own_is_bounded old v seat now before after n come few steps off =
    let all = all_taken after off in
    (all.0, come.later.given ∙ (sym come.given ∙ (sym steps.given ∙ all.1)), omega (arith, all.2, steps.bound, few, come.paid))
