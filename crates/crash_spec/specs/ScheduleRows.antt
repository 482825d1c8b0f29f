-- Worked schedules, each with all that it leaves: by a list with numbers that are passed over and behind its end, by a seed,
-- and round; with calls that wait, calls that are cut off, and a log that is found full.
use Rattle.std.specs.Prelude.{ℕ, List, [], ◌∷◌, None, true, false}
use Rattle.posix_laws.specs.posix_types.declared.call.Call.{Call}
use Rattle.posix_laws.specs.posix_types.declared.call.Mode.{Mode}
use Rattle.posix_laws.specs.posix_types.declared.call.Who.{Who}
use Rattle.posix_laws.specs.posix_types.declared.handle.Flags.{Flags}
use Rattle.posix_laws.specs.posix_types.declared.handle.Handle.{Handle}
use Rattle.posix_laws.specs.posix_types.declared.item.Item.{Item}
use Rattle.posix_laws.specs.posix_types.declared.reply.Reply.{Reply}
use Rattle.posix_laws.specs.posix_types.declared.reply.Stat.{Stat}
use Rattle.posix_laws.specs.posix_types.Scripts.{Scripts}
use Rattle.posix_laws.specs.posix_spec.Tree.{default_shape, root_alone, start}
use Rattle.crash_spec.specs.Machine.{Setting}
use Rattle.crash_spec.specs.Orders.{Listed, Round, Seeded}
use Rattle.crash_spec.specs.ScheduleLaws.{IsTheOnlySchedule, IsTheSchedule}

-- the default image with 64 lines in its log, and a small one with four; both in strict mode
abbrev pub on_default : Scripts → Setting
on_default scripts = record { start = start root_alone default_shape Mode.Strict; scripts = scripts; lines = 64 }

abbrev pub on_small : Scripts → Setting
on_small scripts = record { start = start root_alone (record { data_blocks = 56; nodes = 12; names = 16 }) Mode.Strict; scripts = scripts; lines = 4 }

-- handles and names of one letter
abbrev pub handle : ℕ → Handle
handle letter = record { len = 1; bytes = letter ∷ 0 ∷ 0 ∷ 0 ∷ 0 ∷ 0 ∷ 0 ∷ 0 ∷ [] }

abbrev pub path : ℕ → List (List ℕ)
path letter = (letter ∷ []) ∷ []

-- `open x /x wc`, by the letter of both, and `write x HH`
abbrev pub writing : Flags
writing = record { read = false; write = true; append = false; create = true; exclusive = false; truncate = false }

abbrev pub opens : ℕ → Call
opens letter = Call.Open (handle letter) (path letter) writing

abbrev pub writes : ℕ → ℕ → Call
writes letter byte = Call.Write (handle letter) (byte ∷ [])

abbrev pub item : Who → ℕ → Call → Reply → Item
item who index call reply = record { who = who; index = index; call = call; reply = reply; room = None }

-- ---- one file

-- `open a /f wc`, `write a 6869` of thread 0
abbrev pub opens_f : Call
opens_f = Call.Open (handle 97) (path 102) writing

abbrev pub write_of_two : Scripts
write_of_two = record { setup = []; threads = (opens_f ∷ Call.Write (handle 97) (104 ∷ 105 ∷ []) ∷ []) ∷ [] }

-- `open a /f wc`, five times `write a 61` of thread 0
abbrev pub six_calls : List Call
six_calls = opens_f ∷ writes 97 97 ∷ writes 97 97 ∷ writes 97 97 ∷ writes 97 97 ∷ writes 97 97 ∷ []

abbrev pub five_writes : Scripts
five_writes = record { setup = []; threads = six_calls ∷ [] }

abbrev pub write_item : ℕ → Item
write_item index = item (Who.Thread 0) index (writes 97 97) (Reply.Count 1)

-- ---- two callers

-- set-up: `open x /x wc`, `open y /y wc`; thread 0: `write x 61`; thread 1: `write y 62`
abbrev pub a_file_each : Scripts
a_file_each = record { setup = opens 120 ∷ opens 121 ∷ []; threads = (writes 120 97 ∷ []) ∷ (writes 121 98 ∷ []) ∷ [] }

-- set-up: `open x /x wc`; thread 0: `write x 61`; thread 1: `stat /x`
abbrev pub one_looks : Scripts
one_looks = record { setup = opens 120 ∷ []; threads = (writes 120 97 ∷ []) ∷ (Call.Stat (path 120) ∷ []) ∷ [] }

-- set-up: `open f /f wc`, `write f 61`, `open g /g wc`, `write g 62`; thread 0: `write f 63`; thread 1: `rename /g /f`
abbrev pub one_renames : Scripts
one_renames = record {
  setup = opens 102 ∷ writes 102 97 ∷ opens 103 ∷ writes 103 98 ∷ [];
  threads = (writes 102 99 ∷ []) ∷ (Call.Rename (path 103) (path 102) ∷ []) ∷ [];
}

-- ---- three threads that list the root twice each

abbrev pub three_list : Scripts
three_list = record { setup = []; threads = (Call.List [] ∷ Call.List [] ∷ []) ∷ (Call.List [] ∷ Call.List [] ∷ []) ∷ (Call.List [] ∷ Call.List [] ∷ []) ∷ [] }

abbrev pub listed : ℕ → ℕ → Item
listed n index = item (Who.Thread n) index (Call.List []) (Reply.Names [])

-- ---- the schedules

pub record WorkedSchedules : Type 0 where
  -- a write that is cut off after its Store has begun and has not returned
  pub write_is_cut : IsTheSchedule (on_default write_of_two) Round 5 (item (Who.Thread 0) 0 opens_f (Reply.Fd 0) ∷ []) ((Who.Thread 0, Call.Write (handle 97) (104 ∷ 105 ∷ [])) ∷ [])
  -- 0,0,0,1,1,1,1,1,1: thread 0 has claimed a line and no more, and the write of thread 1 behind it returns
  pub hole_in_the_log : IsTheSchedule (on_default a_file_each) (Listed (0 ∷ 0 ∷ 0 ∷ 1 ∷ 1 ∷ 1 ∷ 1 ∷ 1 ∷ 1 ∷ [])) 11
      (item Who.Setup 0 (opens 120) (Reply.Fd 0) ∷ item Who.Setup 1 (opens 121) (Reply.Fd 1) ∷ item (Who.Thread 1) 0 (writes 121 98) (Reply.Count 1) ∷ [])
      ((Who.Thread 0, writes 120 97) ∷ [])
  -- the fifth write finds the log of four lines full: it begins again behind a Checkpoint
  pub log_is_full : IsTheSchedule (on_small five_writes) Round 35
      (item (Who.Thread 0) 0 opens_f (Reply.Fd 0) ∷ write_item 1 ∷ write_item 2 ∷ write_item 3 ∷ write_item 4 ∷ write_item 5 ∷ []) []
  -- and one event before, it has not returned
  pub log_was_full : IsTheSchedule (on_small five_writes) Round 34
      (item (Who.Thread 0) 0 opens_f (Reply.Fd 0) ∷ write_item 1 ∷ write_item 2 ∷ write_item 3 ∷ write_item 4 ∷ []) ((Who.Thread 0, writes 97 97) ∷ [])
  -- 0,0,1: a rename goes over a busy file
  pub rename_over_a_busy_file : IsTheSchedule (on_default one_renames) (Listed (0 ∷ 0 ∷ 1 ∷ [])) 17
      (item Who.Setup 0 (opens 102) (Reply.Fd 0) ∷ item Who.Setup 1 (writes 102 97) (Reply.Count 1)
      ∷ item Who.Setup 2 (opens 103) (Reply.Fd 1) ∷ item Who.Setup 3 (writes 103 98) (Reply.Count 1)
      ∷ item (Who.Thread 1) 0 (Call.Rename (path 103) (path 102)) Reply.Ok ∷ [])
      ((Who.Thread 0, writes 102 99) ∷ [])
  -- 0,1,0,0,0,0,0,1: the first 1 is passed over, since the file is busy
  pub busy_file_is_passed_over : IsTheSchedule (on_default one_looks) (Listed (0 ∷ 1 ∷ 0 ∷ 0 ∷ 0 ∷ 0 ∷ 0 ∷ 1 ∷ [])) 8
      (item Who.Setup 0 (opens 120) (Reply.Fd 0) ∷ item (Who.Thread 0) 0 (writes 120 97) (Reply.Count 1) ∷ item (Who.Thread 1) 0 (Call.Stat (path 120)) (Reply.Stat (Stat.File 1)) ∷ [])
      []
  -- one thread after the other
  pub in_turn : IsTheOnlySchedule (on_default three_list) Round 6 (listed 0 0 ∷ listed 1 0 ∷ listed 2 0 ∷ listed 0 1 ∷ listed 1 1 ∷ listed 2 1 ∷ []) []
  -- the words of the seed 1 leave 2, 1, 0, 2, 1 and 0 by the number of threads that can run
  pub by_a_seed : IsTheOnlySchedule (on_default three_list) (Seeded 1) 6 (listed 2 0 ∷ listed 1 0 ∷ listed 0 0 ∷ listed 2 1 ∷ listed 1 1 ∷ listed 0 1 ∷ []) []
  -- 1,7: nobody is 7, and behind the list it goes round
  pub behind_the_list : IsTheOnlySchedule (on_default three_list) (Listed (1 ∷ 7 ∷ [])) 6 (listed 1 0 ∷ listed 2 0 ∷ listed 0 0 ∷ listed 1 1 ∷ listed 2 1 ∷ listed 0 1 ∷ []) []
