-- The chief laws of writes in flight under the calls of others, each as one statement.
use Rattle.std.specs.Prelude.{◌≡◌, ◌≤◌, ℕ, false, List, ◌∷◌, ◌++◌, map}
use Rattle.crash_spec.specs.posix_laws.posix_types.declared.item.Item.{Item}
use Rattle.crash_spec.specs.posix_laws.posix_spec.Run.{after_call, Unfinished, run}
use Rattle.crash_spec.specs.posix_laws.posix_spec.State.{room, State}
use Rattle.crash_spec.specs.posix_laws.Views.{AreAfforded, need_of}
use Rattle.crash_spec.specs.Busy.{is_busy}
use Rattle.commute_laws.specs.Flights.{InFlight}
use Rattle.commute_laws.specs.Frames.{AreThreads, LeavesAlone}
use Rattle.commute_laws.specs.Needs.{AreInFlight, unfinished_call, Flight, IsApart, LetsAllBe, needs}
use Rattle.commute_laws.specs.Histories.{AreAllThreads, LetsThrough, outs}
use Rattle.commute_laws.specs.Rooms.{FitsBeside}

-- a call of another thread that the busy rule lets through lets the files of all writes that are out alone
abbrev pub LetsFilesBe : Type 0
LetsFilesBe = (s : State) (d : Unfinished) (flights : List Flight) → is_busy s (outs flights) d ≡ false → AreAllThreads d flights → LetsAllBe s d flights

-- a call that lets its file alone keeps a write in flight, if it leaves the room that the write needs
abbrev pub KeepsWrite : Type 0
KeepsWrite =
    (s : State) (c d : Unfinished) (node : ℕ) (whole : List ℕ) → AreThreads c.0 d.0 → InFlight s c node whole
    → LeavesAlone s d node
    → need_of s c.0 c.1 ≤ room (after_call s d)
    → InFlight (after_call s d) c node whole

-- and so do the calls of a history, and all writes in flight together find room at its end
abbrev pub KeepsEffects : Type 0
KeepsEffects =
    (s : State) (flights : List Flight) (items : List Item) → AreInFlight s flights
    → AreAfforded s (map unfinished_call flights) → LetsThrough s flights items
    → AreInFlight (run s items) flights × AreAfforded (run s items) (map unfinished_call flights)

-- a call that fits beside so many blocks leaves them
abbrev pub LeavesRoom : Type 0
LeavesRoom = (s : State) (c : Unfinished) (k : ℕ) → k ≤ room s → FitsBeside s c k → k ≤ room (after_call s c)

-- the needs of all writes in flight stay within the room under a call of others, and when one of them finishes
abbrev pub StaysAfforded : Type 0
StaysAfforded =
    (s : State) (d : Unfinished) (flights : List Flight) → AreInFlight s flights → LetsAllBe s d flights
    → AreAfforded s (map unfinished_call flights)
    → FitsBeside s d (needs s flights)
    → AreInFlight (after_call s d) flights × AreAfforded (after_call s d) (map unfinished_call flights)

abbrev pub StaysAffordedAtEnds : Type 0
StaysAffordedAtEnds =
    (s : State) (before : List Flight) (f : Flight) (behind : List Flight) → AreInFlight s (before ++ f ∷ behind)
    → IsApart f (before ++ behind)
    → AreAfforded s (map unfinished_call (before ++ f ∷ behind))
    → AreInFlight (after_call s f.begun) (before ++ behind) × AreAfforded (after_call s f.begun) (map unfinished_call (before ++ behind))
