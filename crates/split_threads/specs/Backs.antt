-- What comes back of the workers of a round.
use Rattle.std.specs.Prelude.{◌≡◌, ◌≤◌, ◌-◌, ◌==◌, ℕ, if◌then◌else◌, List, length, map, slice_get, slice_index_or, Some}
use Rattle.oplog_tail.specs.Logs.{LogView, IsSeatOf}
use Rattle.ruled_turn.specs.Passes.{outside_pass, PassView, TurnView}
use Rattle.thread_laws.specs.world_view_laws.pm_model.Powers.{Supply}
use Rattle.thread_laws.specs.world_view_laws.posix_types.declared.call.Who.{Who}
use Rattle.thread_laws.specs.world_view_laws.Views.{WorldView}
use Rattle.thread_laws.specs.Hands.{HandView, newcomer}
use Rattle.thread_laws.specs.Returned.{HaveStopped, IsReturned, Returned}
use Rattle.thread_laws.specs.Works.{HasWorked, IsLater}
use Rattle.split_threads.specs.Dealt.{number_at}
use Rattle.split_threads.specs.Workers.{IsWorker, MayWork}
use Rattle.split_threads.specs.declared.starting.Back.{Back}
use Rattle.split_threads.specs.declared.turns.Held.{Held}
use Rattle.split_threads.specs.declared.working.Own.{Own}

-- IT MAY START, by the view of its pass.
pub record MayStart (turn : TurnView) (log : LogView) (own : Own) : Type 0 where
  pub number : ℕ
  pub view : HandView
  pub worker : IsWorker turn log own number view
  pub may : MayWork own view

-- EACH OF THESE MAY
pub record AllMayStart (turn : TurnView) (log : LogView) (owns : List Own) : Type 0 where
  pub each : (k : ℕ) (own : Own) → slice_get owns k ≡ Some own → MayStart turn log own

-- IT DID ITS PART, whatever its view was at first.
pub record HasCameBack (turn : TurnView) (log : LogView) (own : Own) (back : Back) : Type 0 where
  pub who : back.own.who ≡ own.who
  pub worked : (i : ℕ) (v : HandView) → IsWorker turn log own i v → MayWork own v
      → (u : HandView) × IsWorker turn log back.own i u × HasWorked v u own.seat back.own.seat back.own.power back.worked

-- each of these workers did
pub record HaveComeBack (turn : TurnView) (log : LogView) (owns : List Own) (backs : List Back) : Type 0 where
  pub count : length backs ≡ length owns
  pub each : (k : ℕ) (own : Own) (back : Back) → slice_get owns k ≡ Some own → slice_get backs k ≡ Some back → HasCameBack turn log own back

-- and those that came back lie in a vector that has as much room as the one that was given
pub record HaveComeInto (turn : TurnView) (log : LogView) (owns : List Own) (given : ℕ) (backs : List Back) (room : ℕ) : Type 0 where
  pub back : HaveComeBack turn log owns backs
  pub as_much : given ≤ room

-- ---- all of a round

-- the number and the view that a pass carries: of one that carries none, these
abbrev pub carried_by : ℕ × HandView → PassView Held HandView → ℕ × HandView
carried_by none pass = slice_index_or pass.carried 0 none

-- what came back, as the laws see it
abbrev pub part_of : ℕ × HandView → Back → Returned
part_of none back = record {
  number = (carried_by none back.own.pass).0;
  view = (carried_by none back.own.pass).1;
  seat = back.own.seat;
  worked = back.worked;
}

-- nobody's pass
abbrev pub no_hand : WorldView → Supply → ℕ × HandView
no_hand w power = (0, newcomer w power Who.Setup)

abbrev pub parts_of : WorldView → Supply → List Back → List Returned
parts_of w power backs = map (part_of (no_hand w power)) backs

-- the number of the worker at place k of so many: those of threads, the highest first, and the set-up's, which is the last
abbrev pub number_of : ℕ → ℕ → ℕ
number_of count k = if k == count - 1 then k else number_at (count - 1) k

-- the caller of a worker, by its number
abbrev pub caller_at : ℕ → ℕ → Who
caller_at count number = if number == count - 1 then Who.Setup else Who.Thread number

-- Of a worker this came back: its pass, outside, with a later view than the first; its seat; and what the laws ask for.
pub record IsBack (w : WorldView) (power : Supply) (turn : TurnView) (log : LogView) (who : Who) (number : ℕ) (back : Back) : Type 0 where
  pub view : HandView
  pub later : IsLater (newcomer w power who) view
  pub pass : back.own.pass ≡ outside_pass turn.id number view
  pub seat : IsSeatOf log back.own.seat
  pub returned : IsReturned (record { number = number; view = view; seat = back.own.seat; worked = back.worked })

-- THE WORKERS OF THREADS CAME BACK of a round that began with this World and power, each at its place: and each has stopped, or one for a
-- cause for which all stop.
pub record AreThreadsBack (w : WorldView) (power : Supply) (turn : TurnView) (log : LogView) (backs : List Back) : Type 0 where
  pub each : (k : ℕ) (back : Back) → slice_get backs k ≡ Some back
      → IsBack w power turn log (Who.Thread (number_at (length backs) k)) (number_at (length backs) k) back
  pub stopped : HaveStopped (parts_of w power backs)

-- AND ALL DID, the set-up's the last.
pub record AreBack (w : WorldView) (power : Supply) (turn : TurnView) (log : LogView) (backs : List Back) : Type 0 where
  pub each : (k : ℕ) (back : Back) → slice_get backs k ≡ Some back
      → IsBack w power turn log (caller_at (length backs) (number_of (length backs) k)) (number_of (length backs) k) back
  pub stopped : HaveStopped (parts_of w power backs)
