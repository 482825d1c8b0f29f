-- The workers of a round start, or do not, and come back.
use Rattle.std.specs.Prelude.{◌≡◌, ◌⊎◌, ◌<◌, ◌+◌, ◌-◌, ℕ, true, false, List, [], ◌∷◌, ◌++◌, length, slice_get, Some, None, refl}
use Rattle.std.proofs.Common.{arith, ap, ◌∙◌, sym, subst, inl, inr, append-nil, append_assoc, length-append}
use Rattle.std.proofs.lemmas.Option.{slice_get_within}
use Rattle.oplog_tail.specs.Logs.{LogView}
use Rattle.oplog_tail.specs.Seats.{SeatView}
use Rattle.ruled_turn.specs.Passes.{outside_pass, PassView, TurnView}
use Rattle.thread_laws.specs.world_view_laws.oplog_entry.layout_model.declared.lines.Draft.{Draft}
use Rattle.thread_laws.specs.world_view_laws.pm_model.Powers.{Supply}
use Rattle.thread_laws.specs.world_view_laws.list_laws.Filters.{In-map, map-In}
use Rattle.thread_laws.specs.world_view_laws.list_laws.Members.{In, In-slice_get, pushed-In, slice_get-front, slice_get-In, slice_get-last, slice_get-push}
use Rattle.thread_laws.specs.world_view_laws.posix_types.declared.call.Who.{Who}
use Rattle.thread_laws.specs.world_view_laws.Views.{WorldView}
use Rattle.thread_laws.specs.EndsLaws.{StillIsReturned, WorkedIsReturned}
use Rattle.thread_laws.specs.Hands.{Gone, HandView, Lap, lap_of, newcomer, Nothing, Sees, Shown}
use Rattle.thread_laws.specs.Places.{In-front, one_at}
use Rattle.thread_laws.specs.Returned.{HaveStopped, IsReturned, Returned}
use Rattle.thread_laws.specs.States.{HasStopped, IsShownLost, IsShownSetUp, StopsAll}
use Rattle.thread_laws.specs.Works.{IsCause, IsLater}
use Rattle.thread_laws.specs.declared.works.Worked.{Worked}
use Rattle.split_threads.specs.Backs.{AllMayStart, AreBack, AreThreadsBack, caller_at, carried_by, HasCameBack, HaveComeBack, IsBack, MayStart, no_hand, number_of, part_of, parts_of}
use Rattle.split_threads.specs.Dealt.{AreNewThreads, fresh_power, HasOnlyLooked, HasSeen, HaveSeen, IsNewWorker, number_at}
use Rattle.split_threads.specs.Workers.{IsOpenedWith, IsWorker, MayWork}
use Rattle.split_threads.specs.declared.set_up.Look.{Look}
use Rattle.split_threads.specs.declared.starting.Back.{Back}
use Rattle.split_threads.specs.declared.turns.Held.{Held}
use Rattle.split_threads.specs.declared.working.Own.{Own}
use Rattle.split_threads.proofs.Closing.{number_last, number_thread}
use Rattle.split_threads.proofs.Hands.{caller_last, caller_thread}
use Rattle.split_threads.proofs.Parting.{map_more}
use Rattle.split_threads.proofs.Places.{popped_at, popped_front, some_at}

-- ---- views

later_same : (v : HandView) → IsLater v v
later_same v = record { who = refl; lap = refl; given = refl; mine = ([], sym (append-nil v.mine)); done = ([], sym (append-nil v.done)); full = λ f. f }

pub later_twice : (a b c : HandView) → IsLater a b → IsLater b c → IsLater a c
later_twice a b c one two = record {
  who = two.who ∙ one.who;
  lap = two.lap ∙ one.lap;
  given = two.given ∙ one.given;
  mine = (one.mine.0 ++ two.mine.0, two.mine.1 ∙ (ap (λ xs. xs ++ two.mine.0) one.mine.1 ∙ append_assoc a.mine one.mine.0 two.mine.0));
  done = (one.done.0 ++ two.done.0, two.done.1 ∙ (ap (λ xs. xs ++ two.done.0) one.done.1 ∙ append_assoc a.done one.done.0 two.done.0));
  full = λ f. two.full (one.full f);
}

pub only_same : (v : HandView) → v.out ≡ None → v.begun ≡ None → HasOnlyLooked v v
only_same v none_out none_begun = record { later = later_same v; none_out = none_out; none_begun = none_begun; done = refl; full = refl }

pub only_twice : (a b c : HandView) → HasOnlyLooked a b → HasOnlyLooked b c → HasOnlyLooked a c
only_twice a b c one two = record {
  later = later_twice a b c one.later two.later;
  none_out = two.none_out;
  none_begun = two.none_begun;
  done = two.done ∙ one.done;
  full = two.full ∙ one.full;
}

lost_stops : (shown : Shown) → IsShownLost shown → HasStopped shown
lost_stops Nothing is = absurd is
lost_stops (Sees last) is = inr (inr is)
lost_stops Gone is = absurd is

-- whatever a worker hands back, it has stopped
pub cause_stops : (worked : Worked) (v : HandView) (power : Supply) → IsCause worked v power → HasStopped v.last
cause_stops Worked.Ended v power cause = cause
cause_stops (Worked.Job job) v power cause = lost_stops v.last cause.1
cause_stops (Worked.Filled job) v power cause = lost_stops v.last cause.1

-- ---- those that did not start

-- each is as it was, with no job
abbrev pub AreStill : List Own → List Back → Type 0
AreStill owns backs = (k : ℕ) (b : Back) → slice_get backs k ≡ Some b → (slice_get owns k ≡ Some b.own) × (b.worked ≡ Worked.Ended)

pub still_more : (owns : List Own) (backs : List Back) (own : Own) → length backs ≡ length owns → AreStill owns backs
    → AreStill (owns ++ own ∷ []) (backs ++ record { own = own; worked = Worked.Ended } ∷ [])
still_more owns backs own count still k b at = elim (slice_get-push backs (record { own = own; worked = Worked.Ended }) k b at) [
  | inl there ↦ (let is = still k b there in (slice_get-front owns (own ∷ []) k b.own is.0, is.1))
  | inr (last, same) ↦ (
      let place : slice_get (owns ++ own ∷ []) k ≡ Some own = ap (λ (n : ℕ). slice_get (owns ++ own ∷ []) n) (last ∙ count) ∙ slice_get-last owns own in
      subst (λ (x : Back). (slice_get (owns ++ own ∷ []) k ≡ Some x.own) × (x.worked ≡ Worked.Ended)) same (place, refl)
      )
]

-- ---- those that started

-- the last may, and so may those before it
pub last_starts : (turn : TurnView) (log : LogView) (owns rest : List Own) (own : Own) → owns ≡ rest ++ own ∷ [] → AllMayStart turn log owns → MayStart turn log own
last_starts turn log owns rest own is may = may.each (length rest) own (popped_at owns rest own is)

pub rest_starts : (turn : TurnView) (log : LogView) (owns rest : List Own) (own : Own) → owns ≡ rest ++ own ∷ [] → AllMayStart turn log owns → AllMayStart turn log rest
rest_starts turn log owns rest own is may = record { each = λ k o at. may.each k o (popped_front owns rest own is k o at) }

-- nobody did
pub none_come : (turn : TurnView) (log : LogView) (owns : List Own) (backs : List Back) → owns ≡ [] → backs ≡ [] → HaveComeBack turn log owns backs
none_come turn log owns backs no_own no_back = record {
  count = ap length no_back ∙ sym (ap length no_own);
  each = λ k own back at there. absurd (none_there k own (subst (λ (os : List Own). slice_get os k ≡ Some own) no_own at));
} where
  none_there : (k : ℕ) (own : Own) → slice_get [] k ≡ Some own → ⊥
  none_there k own at = cc

-- one more did, the last
module _ (turn : TurnView) (log : LogView) (owns rest : List Own) (own : Own) (backs : List Back) (back : Back) (is : owns ≡ rest ++ own ∷ []) (come : HaveComeBack turn log rest backs) (last : HasCameBack turn log own back) where
  two_come : (k : ℕ) (a : Own) (b : Back) → (slice_get rest k ≡ Some a) ⊎ ((k ≡ length rest) × (own ≡ a)) → (slice_get backs k ≡ Some b) ⊎ ((k ≡ length backs) × (back ≡ b)) → HasCameBack turn log a b
  two_come k a b (inl at) (inl there) = come.each k a b at there
  two_come k a b (inl at) (inr (end, same)) = absurd (omega (arith, slice_get_within rest k a at, end, come.count))
  two_come k a b (inr (end, same)) (inl there) = absurd (omega (arith, slice_get_within backs k b there, end, come.count))
  two_come k a b (inr (end, own_is)) (inr (end_too, back_is)) = subst (λ (x : Back). HasCameBack turn log a x) back_is (subst (λ (x : Own). HasCameBack turn log x back) own_is last)

  pub come_more : HaveComeBack turn log owns (backs ++ back ∷ [])
  come_more = record {
    count = omega (arith, come.count, ap length is, length-append rest (own ∷ []), length-append backs (back ∷ []));
    each = λ k a b at there.
        two_come k a b (slice_get-push rest own k a (subst (λ (os : List Own). slice_get os k ≡ Some a) is at)) (slice_get-push backs back k b there);
  }

-- ---- one worker

module _ (w : WorldView) (power : Supply) (turn : TurnView) (log : LogView) (opened : IsOpenedWith log (lap_of w)) where
  -- A worker that is new, or only looked, is one of the round.
  pub is_worker : (who : Who) (number : ℕ) (own now : Own) (u : HandView) → IsNewWorker w power turn log who number own → now.who ≡ own.who → now.seat ≡ own.seat
      → now.pass ≡ outside_pass turn.id number u → IsLater (newcomer w power who) u → IsWorker turn log now number u
  is_worker who number own now u new who_is seat pass later = record {
    pass = pass;
    who = later.who ∙ sym (who_is ∙ new.who_is);
    seat = ap (λ (s : SeatView). s.log) (seat ∙ new.seat);
    lap = subst (λ (l : Lap). IsOpenedWith log l) (sym later.lap) opened;
  }

  pub may_work : (who : Who) (number : ℕ) (own now : Own) (u : HandView) → IsNewWorker w power turn log who number own → now.who ≡ own.who → now.seat ≡ own.seat → now.power ≡ own.power
      → HasOnlyLooked (newcomer w power who) u → IsShownSetUp u.who u.last → MayWork now u
  may_work who number own now u new who_is seat power_is only shown = record {
    idle = record {
      who_is = same;
      none_out = only.none_out;
      none_begun = only.none_begun;
      set_up = subst (λ (x : Who). IsShownSetUp x u.last) same shown;
    };
    written = λ n d there. absurd (subst (λ (xs : List (ℕ × Draft)). In (n, d) xs) only.done there);
    power = power_is ∙ (new.power_is ∙ ap fresh_power (sym only.later.given));
  } where
    same : u.who ≡ now.who
    same = only.later.who ∙ sym (who_is ∙ new.who_is)

  -- the set-up's worker may start as it is
  pub set_up_starts : (number : ℕ) (own : Own) → IsNewWorker w power turn log Who.Setup number own → MayStart turn log own
  set_up_starts number own new =
      let v = newcomer w power Who.Setup in
      record {
        number = number;
        view = v;
        worker = is_worker Who.Setup number own own v new refl refl new.pass (later_same v);
        may = may_work Who.Setup number own own v new refl refl refl (only_same v refl refl) tt;
      }

  -- that of a thread once it was shown the set-up
  pub thread_starts : (who : Who) (number : ℕ) (own now : Own) → IsNewWorker w power turn log who number own → HasSeen turn Look.SetUp own now → MayStart turn log now
  thread_starts who number own now new seen =
      let u = seen.view number (newcomer w power who) new.pass refl refl in
      record {
        number = number;
        view = u.0;
        worker = is_worker who number own now u.0 new seen.who seen.seat u.1 u.2.later;
        may = may_work who number own now u.0 new seen.who seen.seat seen.power u.2 u.3;
      }

  -- ---- it came back

  -- and has stopped
  pub record IsBackStopped (who : Who) (number : ℕ) (back : Back) : Type 0 where
    pub is : IsBack w power turn log who number back
    pub stopped : HasStopped is.view.last

  pub came_back : WorkedIsReturned → (who : Who) (number : ℕ) (own now : Own) (back : Back) (u : HandView) → IsNewWorker w power turn log who number own → now.who ≡ own.who → now.seat ≡ own.seat
      → now.power ≡ own.power → now.pass ≡ outside_pass turn.id number u → HasOnlyLooked (newcomer w power who) u → IsShownSetUp u.who u.last → HasCameBack turn log now back
      → IsBackStopped who number back
  came_back law who number own now back u new who_is seat power_is pass only shown came =
      let worker = is_worker who number own now u new who_is seat pass only.later in
      let may = may_work who number own now u new who_is seat power_is only shown in
      let did = came.worked number u worker may in
      record {
        is = record {
          view = did.0;
          later = later_twice (newcomer w power who) u did.0 only.later did.2.later;
          pass = did.1.pass;
          seat = did.1.seat;
          returned = law number u did.0 now.seat back.own.seat back.own.power back.worked did.2 only.done only.full (ap (λ (s : SeatView). s.claims) (seat ∙ new.seat));
        };
        stopped = cause_stops back.worked did.0 back.own.power did.2.cause;
      }

  pub thread_came : WorkedIsReturned → (who : Who) (number : ℕ) (own now : Own) (back : Back) → IsNewWorker w power turn log who number own → HasSeen turn Look.SetUp own now
      → HasCameBack turn log now back → IsBackStopped who number back
  thread_came law who number own now back new seen came =
      let u = seen.view number (newcomer w power who) new.pass refl refl in
      came_back law who number own now back u.0 new seen.who seen.seat seen.power u.1 u.2 u.3 came

  pub set_up_came : WorkedIsReturned → (number : ℕ) (own : Own) (back : Back) → IsNewWorker w power turn log Who.Setup number own → HasCameBack turn log own back → IsBackStopped Who.Setup number back
  set_up_came law number own back new came =
      let v = newcomer w power Who.Setup in
      came_back law Who.Setup number own own back v new refl refl refl new.pass (only_same v refl refl) tt came

  -- one that did not start
  pub still_back : StillIsReturned → (who : Who) (number : ℕ) (own : Own) (back : Back) → IsNewWorker w power turn log who number own → HasSeen turn Look.Nothing own back.own
      → back.worked ≡ Worked.Ended → IsBack w power turn log who number back
  still_back law who number own back new seen ended =
      let u = seen.view number (newcomer w power who) new.pass refl refl in
      let seat = seen.seat ∙ new.seat in
      record {
        view = u.0;
        later = u.2.later;
        pass = u.1;
        seat = ap (λ (s : SeatView). s.log) seat;
        returned = subst (λ (x : Worked). IsReturned (record { number = number; view = u.0; seat = back.own.seat; worked = x })) (sym ended)
            (law number u.0 back.own.seat u.2.none_out u.2.none_begun u.2.done u.2.full (ap (λ (s : SeatView). s.claims) seat));
      }

  -- ---- those of threads

  -- each pass may look
  pub may_look : (owns : List Own) → AreNewThreads w power turn log owns → (k : ℕ) (own : Own) → slice_get owns k ≡ Some own
      → (i : ℕ) × (v : HandView) × (own.pass ≡ outside_pass turn.id i v) × (v.out ≡ None) × (v.begun ≡ None)
  may_look owns new k own at =
      let number = number_at (length owns) k in
      (number, newcomer w power (Who.Thread number), (new.each k own at).pass, refl, refl)

  -- and each may start, once it was shown the set-up
  pub all_start : (owns now : List Own) → AreNewThreads w power turn log owns → HaveSeen turn owns now true → AllMayStart turn log now
  all_start owns now new seen = record {
    each = λ k a at.
        (let own = some_at owns k (omega (arith, slice_get_within now k a at, seen.count)) in
        thread_starts (Who.Thread (number_at (length owns) k)) (number_at (length owns) k) own.0 a (new.each k own.0 own.1) (seen.every refl k own.0 a own.1 at));
  }

  -- what a part shows is what its view does
  shown_part : (number : ℕ) (b : Back) (u : HandView) → b.own.pass ≡ outside_pass turn.id number u → (part_of (no_hand w power) b).view ≡ u
  shown_part number b u pass = ap (λ (p : PassView Held HandView). (carried_by (no_hand w power) p).1) pass

  -- ALL WORKED
  pub threads_worked : WorkedIsReturned → (owns now : List Own) (backs : List Back) → AreNewThreads w power turn log owns → HaveSeen turn owns now true → HaveComeBack turn log now backs
      → AreThreadsBack w power turn log backs
  threads_worked law owns now backs new seen came = record {
    each = λ k b at. (one k b at).is;
    stopped = inl (λ r there.
        let b = map-In (part_of (no_hand w power)) backs r there in
        let k = slice_get-In backs b.0 b.1 in
        let is = one k.0 b.0 k.1 in
        subst (λ (x : Returned). HasStopped x.view.last) b.2
        (subst (λ (u : HandView). HasStopped u.last) (sym (shown_part (number_at (length backs) k.0) b.0 is.is.view is.is.pass)) is.stopped));
  } where
    count : length backs ≡ length owns
    count = came.count ∙ seen.count

    one : (k : ℕ) (b : Back) → slice_get backs k ≡ Some b → IsBackStopped (Who.Thread (number_at (length backs) k)) (number_at (length backs) k) b
    one k b at =
        let below = slice_get_within backs k b at in
        let own = some_at owns k (omega (arith, below, count)) in
        let a = some_at now k (omega (arith, below, came.count)) in
        subst (λ (n : ℕ). IsBackStopped (Who.Thread (number_at n k)) (number_at n k) b) (sym count)
        (thread_came law (Who.Thread (number_at (length owns) k)) (number_at (length owns) k) own.0 a.0 b (new.each k own.0 own.1) (seen.every refl k own.0 a.0 own.1 a.1) (came.each k a.0 b a.1 at))

  -- NOBODY STARTED, since one was shown that all stop
  pub none_worked : StillIsReturned → (owns now : List Own) (backs : List Back) → AreNewThreads w power turn log owns → HaveSeen turn owns now false → length backs ≡ length now
      → ((k : ℕ) (b : Back) → slice_get backs k ≡ Some b → (slice_get now k ≡ Some b.own) × (b.worked ≡ Worked.Ended)) → AreThreadsBack w power turn log backs
  none_worked law owns now backs new seen same still = record {
    each = λ k b at.
        let below = slice_get_within backs k b at in
        let own = some_at owns k (omega (arith, below, count)) in
        let is = still k b at in
        subst (λ (n : ℕ). IsBack w power turn log (Who.Thread (number_at n k)) (number_at n k) b) (sym count)
        (still_back law (Who.Thread (number_at (length owns) k)) (number_at (length owns) k) own.0 b (new.each k own.0 own.1) (seen.each k own.0 b.own own.1 is.0) is.1);
    stopped = inr over;
  } where
    count : length backs ≡ length owns
    count = same ∙ seen.count

    over : (r : Returned) × In r (parts_of w power backs) × StopsAll r.view.last
    over =
        let k = seen.some refl in
        let number = number_at (length owns) k.0 in
        let u = k.5.view number (newcomer w power (Who.Thread number)) (new.each k.0 k.1 k.3).pass refl refl in
        let b = some_at backs k.0 (omega (arith, slice_get_within now k.0 k.2 k.4, same)) in
        let own : k.2 ≡ b.0.own = one_at now k.0 k.2 b.0.own k.4 (still k.0 b.0 b.1).0 in
        let pass : b.0.own.pass ≡ outside_pass turn.id number u.0 = ap (λ (o : Own). o.pass) (sym own) ∙ u.1 in (
          part_of (no_hand w power) b.0,
          In-map (part_of (no_hand w power)) backs b.0 (In-slice_get backs k.0 b.0 b.1),
          subst (λ (x : HandView). StopsAll x.last) (sym (shown_part number b.0 u.0 pass)) u.3,
        )

  -- ---- and with the set-up's, the last

  module _ (backs : List Back) (back : Back) (threads : AreThreadsBack w power turn log backs) (last : IsBackStopped Who.Setup (length backs) back) where
    abbrev all : List Back
    all = backs ++ back ∷ []

    abbrev n : ℕ
    n = length all

    count : length all ≡ length backs + 1
    count = length-append backs (back ∷ [])

    numbered : (k m : ℕ) (who : Who) (b : Back) → m ≡ number_of n k → who ≡ caller_at n (number_of n k) → IsBack w power turn log who m b
        → IsBack w power turn log (caller_at n (number_of n k)) (number_of n k) b
    numbered k m who b number caller is =
        subst (λ (x : ℕ). IsBack w power turn log (caller_at n (number_of n k)) x b) number (subst (λ (x : Who). IsBack w power turn log x m b) caller is)

    each_back : (k : ℕ) (b : Back) → slice_get all k ≡ Some b → IsBack w power turn log (caller_at n (number_of n k)) (number_of n k) b
    each_back k b at = elim (slice_get-push backs back k b at) [
      | inl there ↦ (
          let below = slice_get_within backs k b there in
          let m = number_at (length backs) k in
          let number : m ≡ number_of n k = omega (arith, count, number_thread n k (omega (arith, count, below))) in
          let within : m < n - 1 = omega (arith, count, below) in
          let caller : Who.Thread m ≡ caller_at n (number_of n k) = sym (caller_thread n m within) ∙ ap (caller_at n) number in
          numbered k m (Who.Thread m) b number caller (threads.each k b there)
          )
      | inr (end, same) ↦ (
          let m = length backs in
          let k_is : k ≡ n - 1 = omega (arith, count, end) in
          let number : m ≡ number_of n k = omega (arith, end, number_last n k k_is) in
          let caller : Who.Setup ≡ caller_at n (number_of n k) = sym (caller_last n m (omega (arith, count))) ∙ ap (caller_at n) number in
          numbered k m Who.Setup b number caller (subst (λ (x : Back). IsBack w power turn log Who.Setup m x) same last.is)
          )
    ]

    last_stopped : HasStopped (part_of (no_hand w power) back).view.last
    last_stopped = subst (λ (u : HandView). HasStopped u.last) (sym (shown_part (length backs) back last.is.view last.is.pass)) last.stopped

    parts_are : parts_of w power all ≡ parts_of w power backs ++ part_of (no_hand w power) back ∷ []
    parts_are = map_more (part_of (no_hand w power)) backs back

    have_stopped : HaveStopped (parts_of w power backs) → HaveStopped (parts_of w power backs ++ part_of (no_hand w power) back ∷ [])
    have_stopped (inl each) = inl (λ r there. elim (pushed-In (parts_of w power backs) (part_of (no_hand w power) back) r there) [
      | inl before ↦ each r before
      | inr same ↦ subst (λ (x : Returned). HasStopped x.view.last) same last_stopped
    ])
    have_stopped (inr (r, there, stops)) = inr (r, In-front (parts_of w power backs) (part_of (no_hand w power) back ∷ []) r there, stops)

    pub all_back : AreBack w power turn log all
    all_back = record { each = each_back; stopped = subst HaveStopped (sym parts_are) (have_stopped threads.stopped) }

  -- of so many workers of threads
  pub all_back_by : (backs : List Back) (back : Back) (n : ℕ) → length backs ≡ n → AreThreadsBack w power turn log backs → IsBackStopped Who.Setup n back → AreBack w power turn log (backs ++ back ∷ [])
  all_back_by backs back n count threads last = all_back backs back threads (subst (λ (m : ℕ). IsBackStopped Who.Setup m back) (sym count) last)
