-- The chief laws of the orders of writes in flight and of what is counted, each as one statement.
use Rattle.std.specs.Prelude.{◌≡◌, ◌≢◌, ◌<◌, ◌≤◌, ℕ, ◌+◌, List, ◌∷◌, [], ◌++◌, length, map, Some}
use Rattle.crash_spec.specs.posix_laws.posix_types.declared.call.Call.{Call}
use Rattle.crash_spec.specs.posix_laws.posix_types.declared.call.Who.{Who}
use Rattle.crash_spec.specs.posix_laws.posix_types.declared.handle.Handle.{Handle}
use Rattle.crash_spec.specs.posix_laws.posix_types.declared.reply.Reply.{Reply}
use Rattle.crash_spec.specs.posix_laws.posix_types.declared.reply.What.{What}
use Rattle.crash_spec.specs.posix_laws.posix_types.declared.tree.TreeEntry.{TreeEntry}
use Rattle.crash_spec.specs.posix_laws.posix_tables.Open.{may_write}
use Rattle.crash_spec.specs.posix_laws.posix_tables.Outcomes.{answer, first, no_space}
use Rattle.crash_spec.specs.posix_laws.posix_tables.Room.{held, write_need}
use Rattle.crash_spec.specs.posix_laws.posix_spec.FileRows.{content, write_rows}
use Rattle.crash_spec.specs.posix_laws.posix_spec.Run.{after_call, Unfinished}
use Rattle.crash_spec.specs.posix_laws.posix_spec.State.{Fits, room, State}
use Rattle.crash_spec.specs.posix_laws.posix_spec.Step.{step}
use Rattle.crash_spec.specs.Strict.{StrictFrom}
use Rattle.crash_spec.specs.posix_laws.RowLaws.{NoRow}
use Rattle.crash_spec.specs.posix_laws.Puts.{LeavesWhole, PutsWhole}
use Rattle.crash_spec.specs.posix_laws.Views.{AreAfforded, KeepsView, need_of}
use Rattle.commute_laws.specs.Commutes.{takes}
use Rattle.commute_laws.specs.Counted.{counted, room_beside}
use Rattle.commute_laws.specs.Flights.{InFlight}
use Rattle.commute_laws.specs.Frames.{AreThreads}
use Rattle.commute_laws.specs.Leaves.{KeepsOthers}
use Rattle.commute_laws.specs.Needs.{AreInFlight, unfinished_call, Flight, LetsAllBe, needs}
use Rattle.commute_laws.specs.Orders.{AreTwoEach, CommuteAll}
use Rattle.commute_laws.specs.Pairs.{Commute}

-- two writes of two files that find room together commute
abbrev pub WritesCommute : Type 0
WritesCommute =
    (s : State) (c d : Unfinished) (node node2 : ℕ) (whole whole2 : List ℕ) → InFlight s c node whole
    → InFlight s d node2 whole2 → AreThreads c.0 d.0
    → node2 ≢ node → need_of s c.0 c.1 + need_of s d.0 d.1 ≤ room s → Commute s c d

-- a call gives the same outcome before the writes in flight as after them, and the same state in either order
abbrev pub CallsCommute : Type 0
CallsCommute =
    (s : State) (d : Unfinished) (flights : List Flight) → AreInFlight s flights → AreTwoEach flights → LetsAllBe s d flights
    → takes s d + needs s flights ≤ room s → CommuteAll s d flights

-- so, where it acted before them, it may stand as the last of the unfinished calls
abbrev pub StandsLast : Type 0
StandsLast =
    (s : State) (d : Unfinished) (flights : List Flight) (left : List TreeEntry) → AreInFlight s flights
    → AreTwoEach flights → LetsAllBe s d flights
    → takes s d + needs s flights ≤ room s → StrictFrom (after_call s d) (map unfinished_call flights) left
    → StrictFrom s (map unfinished_call flights ++ d ∷ []) left

-- what is counted while writes are in flight is what the files hold and what the writes need
abbrev pub CountsNeeds : Type 0
CountsNeeds = (s : State) (flights : List Flight) → AreInFlight s flights → AreTwoEach flights → AreAfforded s (map unfinished_call flights) → counted s flights ≡ held s.nodes + needs s flights

-- a write in flight answers how many bytes it puts
abbrev pub AnswersCount : Type 0
AnswersCount = (s : State) (who : Who) (call : Call) (node : ℕ) (whole : List ℕ) (puts : PutsWhole s who call node whole) → (step s who call).outcome ≡ answer (Reply.Count (length puts.put.bytes))

-- a need that fits beside the writes in flight finds room together with theirs; one above the room of the state never
-- fits beside them, and is answered with that room
abbrev pub FitsTogether : Type 0
FitsTogether = (s : State) (flights : List Flight) (need : ℕ) → AreAfforded s (map unfinished_call flights) → need ≤ room_beside s flights → need + needs s flights ≤ room s

abbrev pub NeverFits : Type 0
NeverFits = (s : State) (flights : List Flight) (need : ℕ) → room s < need → need ≤ room_beside s flights → ⊥

abbrev pub AnswersRoom : Type 0
AnswersRoom =
    (s : State) (who : Who) (h : Handle) (start : ℕ) (x : List ℕ) (need : ℕ)
    → need ≡ write_need s.mode (length (content s who h)) start (start + length x)
    → NoRow (may_write s.tables who h) (length (content s who h)) s.mode start (length x) need → room s < need
    → first (write_rows s who h start x) ≡ Some (no_space What.Blocks need (room s))

-- where other bytes of a write are found, as many, writes of other files see what they saw, and the room is as after it
abbrev pub KeepsOtherWrites : Type 0
KeepsOtherWrites =
    (s new : State) (node : ℕ) (found : List ℕ) (who2 : Who) (call2 : Call) (node2 : ℕ) (whole2 : List ℕ) → LeavesWhole s new node found → KeepsOthers s.tables new.tables node
    → PutsWhole s who2 call2 node2 whole2 → node2 ≢ node → KeepsView s new who2 call2

abbrev pub LeavesRoomInPart : Type 0
LeavesRoomInPart =
    (s new : State) (c : Unfinished) (node : ℕ) (whole found : List ℕ) (k : ℕ) → InFlight s c node whole → LeavesWhole s new node found → length found ≡ length whole
    → need_of s c.0 c.1 + k ≤ room s → k ≤ room new

abbrev pub FitsInPart : Type 0
FitsInPart =
    (s new : State) (c : Unfinished) (node : ℕ) (whole found : List ℕ) → InFlight s c node whole → LeavesWhole s new node found → length found ≡ length whole
    → need_of s c.0 c.1 ≤ room s → Fits s → Fits new
