-- Schedules: which histories and unfinished calls the machine reaches, if its events come in an order.
use Rattle.std.specs.Prelude.{◌≡◌, ℕ, ◌+◌, Bool, false, ◌||◌, List, length, filter, Option, Some, None, is_some}
use Rattle.std.specs.List.{range_with_len}
use Rattle.posix_laws.specs.posix_types.declared.call.Who.{Who}
use Rattle.posix_laws.specs.posix_types.declared.item.Item.{Item}
use Rattle.posix_laws.specs.posix_spec.Run.{Unfinished}
use Rattle.crash_spec.specs.Machine.{at_rest, Begin, Checkpoint, Claim, Event, Fill, Finish, Goes, have_ended, job_of, LacksSpace, Machine, may_begin, Persist, Setting, Store, unfinished_of}
use Rattle.crash_spec.specs.Orders.{none_picked, Order, Picker, Picks}

-- whose event it is; of a Checkpoint it is nobody's
abbrev pub caller_of : Event → Option Who
caller_of (Begin who) = Some who
caller_of (Fill who) = Some who
caller_of (Claim who) = Some who
caller_of (Store who) = Some who
caller_of (Persist who) = Some who
caller_of (Finish who) = Some who
caller_of Checkpoint = None

-- a caller has a next event: it has a job, or its next call may begin
abbrev pub can_run : Setting → Machine → Who → Bool
can_run g m who = is_some (job_of m who) || may_begin g m who

-- the threads that can run, by rising number; a thread can run only once the set-up is done
abbrev pub runnable : Setting → Machine → List ℕ
runnable g m = filter (λ n. can_run g m (Who.Thread n)) (range_with_len 0 (length g.scripts.threads))

-- the machine, and how far the order is
pub record Course : Type 0 where
  pub machine : Machine
  pub picker : Picker

-- From one course to the next, by so many events, one or none. The events of the set-up come first, and are no picks. A
-- pick whose Begin finds the round over is used up, and is no event. A Checkpoint is no pick; it comes as soon as it may,
-- since nothing else can go then, but not once all calls have returned.
pub data Advances (g : Setting) (order : Order) (c : Course) : ℕ → Course → Type 0 where
  SetUp : (e : Event) (next : Machine) → caller_of e ≡ Some Who.Setup → Goes g c.machine e next → Advances g order c 1 (record c { machine = next })
  SetUpLacksSpace : (next : Machine) → LacksSpace g c.machine Who.Setup next → Advances g order c 0 (record c { machine = next })
  Runs : (n : ℕ) (e : Event) (next : Machine) (picker : Picker) → Picks (runnable g c.machine) c.picker order n picker → caller_of e ≡ Some (Who.Thread n) → Goes g c.machine e next
      → Advances g order c 1 (record { machine = next; picker = picker })
  LacksSpaceInTurn : (n : ℕ) (next : Machine) (picker : Picker) → Picks (runnable g c.machine) c.picker order n picker → LacksSpace g c.machine (Who.Thread n) next
      → Advances g order c 0 (record { machine = next; picker = picker })
  Checks : (next : Machine) → have_ended g c.machine ≡ false → Goes g c.machine Checkpoint next → Advances g order c 1 (record c { machine = next })

-- so many events lead from the start to a course
pub data Reaches (g : Setting) (order : Order) : ℕ → Course → Type 0 where
  Starts : Reaches g order 0 (record { machine = at_rest; picker = none_picked })
  Further : (events more : ℕ) (c next : Course) → Reaches g order events c → Advances g order c more next → Reaches g order (events + more) next

-- SCHEDULED: so many events of the machine, in this order, leave this history and these unfinished calls.
pub record Scheduled (g : Setting) (order : Order) (events : ℕ) (history : List Item) (unfinished : List Unfinished) : Type 0 where
  pub course : Course
  pub reached : Reaches g order events course
  pub history_is : history ≡ course.machine.history
  pub unfinished_is : unfinished ≡ unfinished_of course.machine
