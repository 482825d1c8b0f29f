-- A round is opened.
use Rattle.std.specs.Prelude.{◌≡◌, ◌≤◌, ◌+◌, ℕ, List, length, replicate, Option, Ok, Err, IfOk, Result}
use Rattle.std.specs.List.{enumerate_from}
use Rattle.std.proofs.Common.{arith, ap, ◌∙◌, sym, subst}
use Rattle.std.proofs.lemmas.List.{length-map, length-replicate}
use Rattle.std.proofs.lemmas.List.FromFn.{length-enumerate_from}
use Rattle.oplog_tail.specs.Logs.{at_first, LogView}
use Rattle.oplog_tail.specs.Seats.{SeatView}
use Rattle.ruled_turn.specs.Passes.{outside_pass, passes_with, PassView}
use Rattle.atomic_table.specs.Seated.{TableId}
use Rattle.thread_laws.specs.world_view_laws.pm_model.Parts.{Part}
use Rattle.thread_laws.specs.world_view_laws.pm_model.Powers.{Supply}
use Rattle.thread_laws.specs.world_view_laws.file_calls.declared.names.outcomes.NoMemory.{NoMemory}
use Rattle.thread_laws.specs.world_view_laws.Lines.{AreFresh}
use Rattle.thread_laws.specs.world_view_laws.Rounds.{IsRoundBegun}
use Rattle.thread_laws.specs.world_view_laws.Views.{WorldView}
use Rattle.thread_laws.specs.Hands.{first_hands, HandView, lap_of}
use Rattle.thread_laws.specs.Kept.{sized_hands}
use Rattle.thread_laws.specs.Moves.{MayOpen}
use Rattle.split_threads.specs.Dealt.{AreDealt}
use Rattle.split_threads.specs.Opens.{IsOpenedRound}
use Rattle.split_threads.specs.Backs.{AreBack}
use Rattle.split_threads.specs.Parted.{CanEndRound}
use Rattle.split_threads.specs.Rounds.{IsBetweenRounds, IsRoundDone, IsTurnedFrom}
use Rattle.split_threads.specs.declared.closes.Turned.{Turned}
use Rattle.split_threads.specs.declared.starting.Back.{Back}
use Rattle.split_threads.specs.Workers.{IsOpenedWith}
use Rattle.split_threads.specs.declared.opening.Opened.{Opened}
use Rattle.split_threads.specs.declared.turns.Held.{Held}
use Rattle.split_threads.proofs.Dealt.{new_workers}
use Rattle.split_threads.proofs.Turned.{may_open, round_done}

-- how many passes there are
pub passes_count : (turn : TableId) (views : List HandView) (n : ℕ) → length views ≡ n → length (passes_with {T = Held} turn views) ≡ n
passes_count turn views n count =
    length-map (enumerate_from 0 views) (λ (c : ℕ × HandView). outside_pass {T = Held} turn c.0 c.1) ∙ (length-enumerate_from 0 views ∙ count)

pub seats_count : (log : LogView) (seats : List SeatView) (n : ℕ) → seats ≡ replicate n (at_first log) → length seats ≡ n
seats_count log seats n is = ap length is ∙ length-replicate n (at_first log)

-- and they are as many as the workers that it was opened for
pub dealt_count : (new : WorldView) (power : Supply) (n : ℕ) → MayOpen new power n → (turn : TableId) (passes : List (PassView Held HandView)) → passes ≡ passes_with turn (first_hands new power n)
    → length passes ≡ n
dealt_count new power n may turn passes is = ap length is ∙ passes_count turn (first_hands new power n) n (sized_hands new power n may)

-- the log was opened with the lap
pub opened_with : (new : WorldView) (log : LogView) (lines : List Part) → AreFresh new lines → log.lines ≡ lines → log.base ≡ new.base → IsOpenedWith log (lap_of new)
opened_with new log lines fresh lines_are base =
    let own = subst (λ (ls : List Part). AreFresh new ls) (sym lines_are) fresh in
    record { base = base; count = own.are.count; words = own.words }

module _ (first old new : WorldView) (stop : Option ℕ) (power : Supply) (between : IsBetweenRounds first stop old power) (lines : List Part) (base : ℕ) (begun : IsRoundBegun old new lines base) where
  -- the number of workers
  abbrev pub workers : ℕ
  workers = length old.scripts.threads + 1

  pub hands_count : length (first_hands new power workers) ≡ workers
  hands_count = sized_hands new power workers (may_open first old new stop power between begun.new_is workers (omega arith))

  pub round_opened : (opened : Opened) (passes : List (PassView Held HandView)) (seats : List SeatView) → opened.log.base ≡ base → opened.log.seats ≡ workers → opened.log.lines ≡ lines
      → seats ≡ replicate workers (at_first opened.log) → opened.turn.passes ≡ workers → passes ≡ passes_with opened.turn.id (first_hands new power workers)
      → AreDealt passes seats stop opened.dealt → IsOpenedRound old power opened
  round_opened opened passes seats log_base log_seats log_lines seats_are turn_passes passes_are dealt = record {
    new = new;
    new_is = begun.new_is;
    workers = new_workers new power opened.turn opened.log stop workers passes seats opened.dealt passes_are count seats_are between.given
        (opened_with new opened.log lines begun.lines_are log_lines base_is) dealt;
    fresh = subst (λ (ls : List Part). AreFresh new ls) (sym log_lines) begun.lines_are;
    base = base_is;
    count = omega (arith, count, dealt.count);
    passes = turn_passes;
    seats = log_seats;
  } where
    count : length passes ≡ workers
    count = ap length passes_are ∙ passes_count opened.turn.id (first_hands new power workers) workers hands_count

    base_is : opened.log.base ≡ new.base
    base_is = log_base ∙ (begun.base_is ∙ sym (ap (λ (w : WorldView). w.base) begun.new_is))

-- ---- and ends

module _ (first old : WorldView) (stop : Option ℕ) (power : Supply) (between : IsBetweenRounds first stop old power) (opened : Opened) (is : IsOpenedRound old power opened) where
  -- there are few workers
  pub few_workers : length opened.dealt.owns.items ≤ 8
  few_workers = omega (arith, is.count, between.threads)

  -- ALL CAME BACK, so it may end
  pub can_end : (backs : List Back) → length backs ≡ length opened.dealt.owns.items + 1 → AreBack is.new power opened.turn opened.log backs
      → CanEndRound is.new power opened.turn opened.log backs
  can_end backs count back = record {
    back = back;
    fresh = is.fresh;
    base = is.base;
    passes = omega (arith, is.passes, count, is.count);
    seats = omega (arith, is.seats, count, is.count);
    count = omega (arith, count, is.count, ap (λ (w : WorldView). length w.scripts.threads) is.new_is);
    lines = subst (λ (w : WorldView). 1 ≤ w.geometry.log) (sym is.new_is) between.lines;
  }

  pub few_backs : (backs : List Back) → length backs ≡ length opened.dealt.owns.items + 1 → length backs ≤ 9
  few_backs backs count = omega (arith, count, few_workers)

  -- AND THE ROUND IS DONE
  ends_round : (turned : Turned) → IsTurnedFrom is.new power turned → IsRoundDone first stop turned
  ends_round turned from = round_done first old is.new stop power between is.new_is turned from

  -- if it does
  pub ends_as : (turned : Result Turned NoMemory) → IfOk turned (IsTurnedFrom is.new power) → IfOk turned (IsRoundDone first stop)
  ends_as (Ok turned) from = ends_round turned from
  ends_as (Err e) from = from
