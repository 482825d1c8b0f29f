-- A write of which some bytes are found, beside writes in flight.
use Rattle.std.specs.Prelude.{◌≡◌, ◌≤◌, ℕ, List, ◌∷◌, length}
use Rattle.commute_laws.specs.Needs.{AreInFlight, Flight, needs}
use Rattle.commute_laws.specs.Orders.{AreTwoEach}
use Rattle.commute_laws.specs.crash_spec.Sync.{with_bytes}
use Rattle.commute_laws.specs.posix_spec.Run.{after_call}
use Rattle.commute_laws.specs.posix_spec.State.{Fits, room, State}
use Rattle.world_model.specs.Jobs.{Job}
use Rattle.world_step_laws.specs.Steps.{flights_of, GoOn}

-- A WRITE FLIES WITH THE JOBS: they are in flight together in this state, of two callers and two files each, and find room.
pub record FliesWith (s : State) (f : Flight) (numbers : List ℕ) (jobs : List Job) : Type 0 where
  pub flying : AreInFlight s (f ∷ flights_of numbers jobs)
  pub two : AreTwoEach (f ∷ flights_of numbers jobs)
  pub fits : needs s (f ∷ flights_of numbers jobs) ≤ room s
  pub held : Fits s

-- the state after it, but that these bytes are found of its file
abbrev pub part_of : State → Flight → List ℕ → State
part_of s f bytes = with_bytes (after_call s f.begun) f.node bytes

-- WHATEVER BYTES ARE FOUND OF IT, as many as in the end, the jobs go on: from one such state to another;
abbrev pub GoOnInPart : Type 0
GoOnInPart =
    (s : State) (f : Flight) (numbers : List ℕ) (jobs : List Job) (now then : List ℕ) → FliesWith s f numbers jobs
    → length now ≡ length f.whole → length then ≡ length f.whole → GoOn (part_of s f now) (part_of s f then) numbers jobs

-- and from the state before it.
abbrev pub GoOnAtFirst : Type 0
GoOnAtFirst =
    (s : State) (f : Flight) (numbers : List ℕ) (jobs : List Job) (now : List ℕ) → FliesWith s f numbers jobs
    → length now ≡ length f.whole → GoOn s (part_of s f now) numbers jobs
