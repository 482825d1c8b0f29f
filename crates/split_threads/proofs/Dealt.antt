-- Passes and seats are dealt, from the last to the first.
use Rattle.std.specs.Prelude.{◌≡◌, ◌<◌, ◌+◌, ◌-◌, ℕ, List, [], ◌∷◌, ◌++◌, length, replicate, slice_get, Option, Some}
use Rattle.std.proofs.Common.{arith, ap, ◌∙◌, sym, subst, inl, inr, length-append}
use Rattle.std.proofs.lemmas.Option.{slice_get_within}
use Rattle.ruled_turn.specs.Passes.{outside_pass, passes_with, PassView, TurnView}
use Rattle.oplog_tail.specs.Logs.{at_first, LogView}
use Rattle.oplog_tail.specs.Seats.{SeatView}
use Rattle.thread_laws.specs.world_view_laws.list_laws.Members.{slice_get-push}
use Rattle.thread_laws.specs.world_view_laws.pm_model.Powers.{Supply}
use Rattle.thread_laws.specs.world_view_laws.posix_types.declared.call.Who.{Who}
use Rattle.thread_laws.specs.world_view_laws.Views.{WorldView}
use Rattle.thread_laws.specs.Hands.{first_hands, HandView, lap_of, newcomer}
use Rattle.split_threads.specs.Backs.{caller_at}
use Rattle.split_threads.specs.Dealt.{AreDealt, AreNewWorkers, fresh_power, HasPlace, IsNewWorker, number_at}
use Rattle.split_threads.specs.Workers.{IsOpenedWith}
use Rattle.split_threads.specs.declared.dealing.Dealt.{Dealt}
use Rattle.split_threads.specs.declared.turns.Held.{Held}
use Rattle.split_threads.specs.declared.working.Own.{Own}
use Rattle.split_threads.proofs.Hands.{caller_last, caller_thread, pass_is}
use Rattle.split_threads.proofs.Places.{IsFront, popped_at, popped_front, popped_length, replicated_at}

module _ (passes : List (PassView Held HandView)) (seats : List SeatView) (stop : Option ℕ) where
  -- the number of the worker at place k
  abbrev pub number_from : ℕ → ℕ
  number_from k = length passes - 2 - k

  -- SO FAR: these passes and seats are left, and the others were dealt, the highest first.
  pub record IsDealing (left : List (PassView Held HandView)) (seats_left : List SeatView) (owns : List Own) : Type 0 where
    pub front : IsFront left passes
    pub seats_front : IsFront seats_left seats
    pub same : length seats_left ≡ length left
    pub count : length owns + length left + 1 ≡ length passes
    pub callers : (k : ℕ) (own : Own) → slice_get owns k ≡ Some own → own.who ≡ Who.Thread (number_from k)
    pub threads : (k : ℕ) (own : Own) → slice_get owns k ≡ Some own → HasPlace passes seats stop (number_from k) own

  -- one more is dealt
  pub dealt_more : (left rest : List (PassView Held HandView)) (seats_left seats_rest : List SeatView) (owns : List Own) (own : Own) → IsDealing left seats_left owns
      → left ≡ rest ++ own.pass ∷ [] → seats_left ≡ seats_rest ++ own.seat ∷ [] → own.who ≡ Who.Thread (length rest) → own.power ≡ fresh_power stop
      → IsDealing rest seats_rest (owns ++ own ∷ [])
  dealt_more left rest seats_left seats_rest owns own was passes_are seats_are who power = record {
    front = λ j x at. was.front j x (popped_front left rest own.pass passes_are j x at);
    seats_front = λ j x at. was.seats_front j x (popped_front seats_left seats_rest own.seat seats_are j x at);
    same = omega (arith, was.same, one, two);
    count = omega (arith, was.count, one, length-append owns (own ∷ []));
    callers = λ k o at. elim (slice_get-push owns own k o at) [
      | inl there ↦ was.callers k o there
      | inr (last, same) ↦ subst (λ (x : Own). x.who ≡ Who.Thread (number_from k)) same (who ∙ ap (λ (n : ℕ). Who.Thread n) (number k last))
    ];
    threads = λ k o at. elim (slice_get-push owns own k o at) [
      | inl there ↦ was.threads k o there
      | inr (last, same) ↦ subst (λ (x : Own). HasPlace passes seats stop (number_from k) x) same (subst (λ (n : ℕ). HasPlace passes seats stop n own) (number k last) place)
    ];
  } where
    one : length left ≡ length rest + 1
    one = popped_length left rest own.pass passes_are

    two : length seats_left ≡ length seats_rest + 1
    two = popped_length seats_left seats_rest own.seat seats_are

    number : (k : ℕ) → k ≡ length owns → length rest ≡ number_from k
    number k last = omega (arith, last, was.count, one)

    same_lengths : length seats_rest ≡ length rest
    same_lengths = omega (arith, was.same, one, two)

    place : HasPlace passes seats stop (length rest) own
    place = record {
      pass = was.front (length rest) own.pass (popped_at left rest own.pass passes_are);
      seat = was.seats_front (length rest) own.seat (subst (λ (n : ℕ). slice_get seats_left n ≡ Some own.seat) same_lengths (popped_at seats_left seats_rest own.seat seats_are));
      power = power;
    }

  -- at first
  pub dealing_first : (left : List (PassView Held HandView)) (seats_left : List SeatView) (pass : PassView Held HandView) (seat : SeatView) → length seats ≡ length passes
      → passes ≡ left ++ pass ∷ [] → seats ≡ seats_left ++ seat ∷ [] → IsDealing left seats_left []
  dealing_first left seats_left pass seat same passes_are seats_are = record {
    front = popped_front passes left pass passes_are;
    seats_front = popped_front seats seats_left seat seats_are;
    same = omega (arith, same, popped_length passes left pass passes_are, popped_length seats seats_left seat seats_are);
    count = omega (arith, popped_length passes left pass passes_are);
    callers = λ k own at. cc;
    threads = λ k own at. cc;
  }

  -- ALL ARE DEALT
  pub all_dealt : (owns : List Own) (seats_left : List SeatView) (dealt : Dealt) → IsDealing [] seats_left owns → dealt.owns.items ≡ owns → length seats ≡ length passes
      → (left : List (PassView Held HandView)) (seats_first : List SeatView) → passes ≡ left ++ dealt.setup.pass ∷ [] → seats ≡ seats_first ++ dealt.setup.seat ∷ []
      → dealt.setup.who ≡ Who.Setup → dealt.setup.power ≡ fresh_power stop → AreDealt passes seats stop dealt
  all_dealt owns seats_left dealt is owns_are same left seats_first passes_are seats_are who power = record {
    count = omega (arith, ap length owns_are, is.count);
    callers = λ k own at. is.callers k own (subst (λ (os : List Own). slice_get os k ≡ Some own) owns_are at) ∙ ap (λ (n : ℕ). Who.Thread n) (number k);
    threads = λ k own at. subst (λ (n : ℕ). HasPlace passes seats stop n own) (number k) (is.threads k own (subst (λ (os : List Own). slice_get os k ≡ Some own) owns_are at));
    set_up_who = who;
    set_up = record {
      pass = subst (λ (n : ℕ). slice_get passes n ≡ Some dealt.setup.pass) first_length (popped_at passes left dealt.setup.pass passes_are);
      seat = subst (λ (n : ℕ). slice_get seats n ≡ Some dealt.setup.seat) second_length (popped_at seats seats_first dealt.setup.seat seats_are);
      power = power;
    };
  } where
    number : (k : ℕ) → number_from k ≡ number_at (length dealt.owns.items) k
    number k = omega (arith, ap length owns_are, is.count)

    first_length : length left ≡ length dealt.owns.items
    first_length = omega (arith, ap length owns_are, is.count, popped_length passes left dealt.setup.pass passes_are)

    second_length : length seats_first ≡ length dealt.owns.items
    second_length = omega (arith, ap length owns_are, is.count, same, popped_length seats seats_first dealt.setup.seat seats_are)

-- ---- over a World at the beginning of its round

-- THE WORKERS ARE NEW
pub new_workers : (w : WorldView) (power : Supply) (turn : TurnView) (log : LogView) (stop : Option ℕ) (n : ℕ) (passes : List (PassView Held HandView)) (seats : List SeatView) (dealt : Dealt)
    → passes ≡ passes_with turn.id (first_hands w power n) → length passes ≡ n → seats ≡ replicate n (at_first log) → power.given ≡ stop → IsOpenedWith log (lap_of w)
    → AreDealt passes seats stop dealt → AreNewWorkers w power turn log dealt
new_workers w power turn log stop n passes seats dealt passes_are count seats_are given opened is = record {
  threads = record {
    opened = opened;
    each = λ k own at. one (Who.Thread (number_at (length dealt.owns.items) k)) (number_at (length dealt.owns.items) k) own (sym (caller_thread n (number_at (length dealt.owns.items) k) (within k own at))) (is.callers k own at)
        (is.threads k own at);
  };
  set_up = one Who.Setup (length dealt.owns.items) dealt.setup (sym (caller_last n (length dealt.owns.items) (omega (arith, is.count, count)))) is.set_up_who is.set_up;
} where
  within : (k : ℕ) (own : Own) → slice_get dealt.owns.items k ≡ Some own → number_at (length dealt.owns.items) k < n - 1
  within k own at = omega (arith, slice_get_within dealt.owns.items k own at, is.count, count)

  one : (who : Who) (number : ℕ) (own : Own) → who ≡ caller_at n number → own.who ≡ who → HasPlace passes seats stop number own → IsNewWorker w power turn log who number own
  one who number own caller own_who place = record {
    who_is = own_who;
    pass = pass_is turn.id w power n number own.pass (subst (λ (ps : List (PassView Held HandView)). slice_get ps number ≡ Some own.pass) passes_are place.pass)
        ∙ ap (λ (x : Who). outside_pass turn.id number (newcomer w power x)) (sym caller);
    seat = sym (replicated_at n number (at_first log) own.seat (subst (λ (ss : List SeatView). slice_get ss number ≡ Some own.seat) seats_are place.seat));
    power_is = place.power ∙ ap fresh_power (sym given);
  }
