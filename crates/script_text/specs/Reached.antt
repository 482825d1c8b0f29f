-- What was read of a script, up to some line, and what that says of the scripts.
use Rattle.std.specs.Prelude.{◌≡◌, ℕ, ◌+◌, List, [], ◌∷◌, ◌++◌, length, Bool, true, false, not, nat_le}
use Rattle.std.specs.List.{list_any}
use Rattle.posix_types.specs.declared.call.Call.{Call}
use Rattle.posix_types.specs.Scripts.{Scripts}
use Rattle.script_text.specs.declared.kinds.Kind.{Kind}
use Rattle.script_text.specs.declared.kinds.Kind.TheVariants.{Calls, Passed, SetUp, Thread, Unread}
use Rattle.script_text.specs.declared.reading.Section.{Section}
use Rattle.script_text.specs.Scripts.{calls_before, calls_in, is_passed, most_calls, most_threads, scripts_in, threads_in, threads_of}

-- where the next call goes, the set-up, the threads before the last, the calls of the last, and how many calls there are
pub record State : Type 0 where
  pub section : Section
  pub setup : List Call
  pub threads : List (List Call)
  pub calls : List Call
  pub count : ℕ

abbrev pub is_begun : Section → Bool
is_begun Section.Unbegun = false
is_begun Section.SetUp = true
is_begun Section.Thread = true

-- the threads that have begun
abbrev pub threads_so_far : Section → List (List Call) → List Call → List (List Call)
threads_so_far Section.Unbegun threads calls = threads
threads_so_far Section.SetUp threads calls = threads
threads_so_far Section.Thread threads calls = threads ++ calls ∷ []

abbrev pub thread_count : State → ℕ
thread_count s = length (threads_so_far s.section s.threads s.calls)

-- ---- a line more
-- a line of this kind may not stand behind what was read
abbrev pub breaks_in : State → Kind → Bool
breaks_in s Passed = false
breaks_in s SetUp = is_begun s.section
breaks_in s Thread = nat_le most_threads (thread_count s)
breaks_in s (Calls call) = nat_le most_calls s.count
breaks_in s Unread = true

-- the calls of the last thread, where that does not end
abbrev pub calls_kept : Section → List Call → List Call
calls_kept Section.Unbegun calls = calls
calls_kept Section.SetUp calls = calls
calls_kept Section.Thread calls = []

-- the next thread begins
abbrev pub with_thread : State → State
with_thread s = record s { section = Section.Thread; threads = threads_so_far s.section s.threads s.calls; calls = calls_kept s.section s.calls }

-- a call is put where the section says
abbrev pub with_call_in : Section → State → Call → State
with_call_in Section.Unbegun s call = record s { section = Section.Thread; calls = s.calls ++ call ∷ []; count = s.count + 1 }
with_call_in Section.SetUp s call = record s { section = Section.SetUp; setup = s.setup ++ call ∷ []; count = s.count + 1 }
with_call_in Section.Thread s call = record s { section = Section.Thread; calls = s.calls ++ call ∷ []; count = s.count + 1 }

abbrev pub with_call : State → Call → State
with_call s call = with_call_in s.section s call

-- ---- what was read, and what may follow it
abbrev pub is_set_up : Kind → Bool
is_set_up Passed = false
is_set_up SetUp = true
is_set_up Thread = false
is_set_up (Calls call) = false
is_set_up Unread = false

-- the heading `setup` comes too late
abbrev pub is_late : Section → List Kind → Bool
is_late Section.Unbegun rest = false
is_late Section.SetUp rest = list_any is_set_up rest
is_late Section.Thread rest = list_any is_set_up rest

-- the scripts, where these lines follow
abbrev pub resumed_in : Section → State → List Kind → Scripts
resumed_in Section.Unbegun s rest = scripts_in rest
resumed_in Section.SetUp s rest = record { setup = s.setup ++ calls_before rest; threads = threads_of rest }
resumed_in Section.Thread s rest = record { setup = s.setup; threads = s.threads ++ (s.calls ++ calls_before rest) ∷ threads_of rest }

abbrev pub resumed : State → List Kind → Scripts
resumed s rest = resumed_in s.section s rest

-- what has not begun has no calls
abbrev pub IsEmptyIn : Section → State → Type 0
IsEmptyIn Section.Unbegun s = (s.setup ≡ []) × (s.threads ≡ []) × (s.calls ≡ [])
IsEmptyIn Section.SetUp s = (s.threads ≡ []) × (s.calls ≡ [])
IsEmptyIn Section.Thread s = Unit {0}

-- Lines of these kinds were read: the counts, and the scripts whatever follows.
pub record IsReached (s : State) (before : List Kind) : Type 0 where
  pub begun : list_any (λ kind. not (is_passed kind)) before ≡ is_begun s.section
  pub threads : threads_in before ≡ thread_count s
  pub calls : calls_in before ≡ s.count
  pub empty : IsEmptyIn s.section s
  pub scripts : (rest : List Kind) → is_late s.section rest ≡ false → scripts_in (before ++ rest) ≡ resumed s rest
