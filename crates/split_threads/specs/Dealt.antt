-- The workers of a round before they work: how passes and seats are dealt, and what the looks before the start leave.
use Rattle.std.specs.Prelude.{◌≡◌, ◌⊎◌, ◌-◌, ◌+◌, ℕ, Bool, true, false, List, length, Option, Some, None, slice_get}
use Rattle.oplog_tail.specs.Logs.{at_first, LogView}
use Rattle.oplog_tail.specs.Seats.{SeatView}
use Rattle.ruled_turn.specs.Passes.{outside_pass, PassView, TurnView}
use Rattle.thread_laws.specs.world_view_laws.pm_model.Powers.{Supply}
use Rattle.thread_laws.specs.world_view_laws.posix_types.declared.call.Who.{Who}
use Rattle.thread_laws.specs.Hands.{HandView, lap_of, newcomer}
use Rattle.thread_laws.specs.world_view_laws.posix_spec.Scripted.{IsSetUp}
use Rattle.thread_laws.specs.world_view_laws.Views.{WorldView}
use Rattle.thread_laws.specs.States.{IsShownSetUp, StopsAll}
use Rattle.thread_laws.specs.Works.{IsLater}
use Rattle.split_threads.specs.Workers.{IsOpenedWith}
use Rattle.split_threads.specs.declared.dealing.Dealt.{Dealt}
use Rattle.split_threads.specs.declared.set_up.Look.{Look}
use Rattle.split_threads.specs.declared.turns.Held.{Held}
use Rattle.split_threads.specs.declared.working.Own.{Own}
use Rattle.thread_laws.specs.world_view_laws.declared.views.over.Over.{Over}

-- a power that was made for so many steps, or for all, and gave none
abbrev pub fresh_power : Option ℕ → Supply
fresh_power stop = record { given = stop; taken = 0 }

-- the number of the worker at place k of so many, of which the highest comes first
abbrev pub number_at : ℕ → ℕ → ℕ
number_at count k = count - 1 - k

-- A worker has the pass and the seat of this place.
pub record HasPlace (passes : List (PassView Held HandView)) (seats : List SeatView) (stop : Option ℕ) (number : ℕ) (own : Own) : Type 0 where
  pub pass : slice_get passes number ≡ Some own.pass
  pub seat : slice_get seats number ≡ Some own.seat
  pub power : own.power ≡ fresh_power stop

-- PASSES AND SEATS ARE DEALT: the last ones go to the set-up's worker, and each other to that of the thread of its place, the highest first.
pub record AreDealt (passes : List (PassView Held HandView)) (seats : List SeatView) (stop : Option ℕ) (dealt : Dealt) : Type 0 where
  pub count : length dealt.owns.items + 1 ≡ length passes
  pub callers : (k : ℕ) (own : Own) → slice_get dealt.owns.items k ≡ Some own → own.who ≡ Who.Thread (number_at (length dealt.owns.items) k)
  pub threads : (k : ℕ) (own : Own) → slice_get dealt.owns.items k ≡ Some own → HasPlace passes seats stop (number_at (length dealt.owns.items) k) own
  pub set_up_who : dealt.setup.who ≡ Who.Setup
  pub set_up : HasPlace passes seats stop (length dealt.owns.items) dealt.setup

-- ---- over a World at the beginning of its round

-- A worker is new: its pass has this number and knows nothing yet; its seat claimed nothing; its power gave no step.
pub record IsNewWorker (w : WorldView) (power : Supply) (turn : TurnView) (log : LogView) (who : Who) (number : ℕ) (own : Own) : Type 0 where
  pub who_is : own.who ≡ who
  pub pass : own.pass ≡ outside_pass turn.id number (newcomer w power who)
  pub seat : own.seat ≡ at_first log
  pub power_is : own.power ≡ fresh_power power.given

-- THE WORKERS OF THREADS ARE NEW, the highest first, and the log was opened with the lap of the World.
pub record AreNewThreads (w : WorldView) (power : Supply) (turn : TurnView) (log : LogView) (owns : List Own) : Type 0 where
  pub opened : IsOpenedWith log (lap_of w)
  pub each : (k : ℕ) (own : Own) → slice_get owns k ≡ Some own → IsNewWorker w power turn log (Who.Thread (number_at (length owns) k)) (number_at (length owns) k) own

-- and so is that of the set-up
pub record AreNewWorkers (w : WorldView) (power : Supply) (turn : TurnView) (log : LogView) (dealt : Dealt) : Type 0 where
  pub threads : AreNewThreads w power turn log dealt.owns.items
  pub set_up : IsNewWorker w power turn log Who.Setup (length dealt.owns.items) dealt.setup

-- ---- looks before they start

-- what one look at the World finds
abbrev pub IsLook : WorldView → Look → Type 0
IsLook w Look.SetUp = IsSetUp w.scripts w.history (Who.Thread 0)
IsLook w Look.Stopped = (w.lost ≡ true) ⊎ ((over : Over) × (w.over ≡ Some over))
IsLook w Look.Nothing = Unit {0}

-- IT ONLY LOOKED: nothing is out, and what it did is what it had done.
pub record HasOnlyLooked (v u : HandView) : Type 0 where
  pub later : IsLater v u
  pub none_out : u.out ≡ None
  pub none_begun : u.begun ≡ None
  pub done : u.done ≡ v.done
  pub full : u.full ≡ v.full

-- what a look showed: a set-up that is done; that all stop; or nothing
abbrev pub IsShownBy : HandView → Look → Type 0
IsShownBy u Look.SetUp = IsShownSetUp u.who u.last
IsShownBy u Look.Stopped = StopsAll u.last
IsShownBy u Look.Nothing = Unit {0}

-- what a worker waits for: a set-up that is done, or that all stop
abbrev pub look_for : Bool → Look
look_for true = Look.SetUp
look_for false = Look.Stopped

-- A WORKER LOOKED, and was shown this: it has what it had, with a view that it had not, if it had nothing out.
pub record HasSeen (turn : TurnView) (look : Look) (old new : Own) : Type 0 where
  pub who : new.who ≡ old.who
  pub seat : new.seat ≡ old.seat
  pub power : new.power ≡ old.power
  pub view : (i : ℕ) (v : HandView) → old.pass ≡ outside_pass turn.id i v → v.out ≡ None → v.begun ≡ None
      → (u : HandView) × (new.pass ≡ outside_pass turn.id i u) × HasOnlyLooked v u × IsShownBy u look

-- ALL LOOKED: each was shown a set-up that is done; or some were not asked, and one was shown that all stop.
pub record HaveSeen (turn : TurnView) (old new : List Own) (all : Bool) : Type 0 where
  pub count : length new ≡ length old
  pub each : (k : ℕ) (a b : Own) → slice_get old k ≡ Some a → slice_get new k ≡ Some b → HasSeen turn Look.Nothing a b
  pub every : all ≡ true → (k : ℕ) (a b : Own) → slice_get old k ≡ Some a → slice_get new k ≡ Some b → HasSeen turn Look.SetUp a b
  pub some : all ≡ false → (k : ℕ) × (a b : Own) × (slice_get old k ≡ Some a) × (slice_get new k ≡ Some b) × HasSeen turn Look.Stopped a b
