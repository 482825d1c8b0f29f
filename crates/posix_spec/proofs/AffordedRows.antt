-- Worked rows on the steps that a history may take before the power goes, by computation: at which calls the second bound is
-- asked, and what both bounds are.
use Rattle.std.proofs.Common.{◌≡◌, ◌^◌, ◌+◌, ℕ, List, [], ◌∷◌, map, refl, true, false, Bool, replicate, pos, codes, arith, lit≤}
use Rattle.posix_types.specs.declared.call.Mode.{Mode}
use Rattle.posix_types.specs.declared.call.Who.{Who}
use Rattle.posix_types.specs.declared.call.Call.{Call}
use Rattle.posix_types.specs.declared.handle.Handle.{Handle}
use Rattle.posix_types.specs.declared.handle.Flags.{Flags}
use Rattle.posix_types.specs.declared.handle.Whence.{Whence}
use Rattle.posix_types.specs.declared.item.Item.{Item}
use Rattle.posix_types.specs.declared.reply.Reply.{Reply}
use Rattle.posix_types.specs.Scripts.{Scripts}
use Rattle.std.specs.Prelude.{None}
use Rattle.posix_spec.specs.Afforded.{Afforded, AffordedByNames, is_quiet}

abbrev handle_a : Handle
handle_a = record { len = 1; bytes = 97 ∷ 0 ∷ 0 ∷ 0 ∷ 0 ∷ 0 ∷ 0 ∷ 0 ∷ [] }

abbrev flags : Bool → Flags
flags cuts = record { read = true; write = true; append = false; create = true; exclusive = false; truncate = cuts }

abbrev path_a : List (List ℕ)
path_a = codes "a" ∷ []

abbrev mkdir_a : Call
mkdir_a = Call.Mkdir path_a

-- an item of thread 0, whatever it answered
abbrev item : Call → Item
item call = record { who = Who.Thread 0; index = 0; call = call; reply = Reply.Ok; room = None }

-- a script of thread 0 alone
abbrev alone : List Call → Scripts
alone calls = record { setup = []; threads = calls ∷ [] }

-- whether the second bound is asked where a call comes next, and where it came and another comes next
abbrev next : Call → Bool
next call = is_quiet Mode.Strict (alone (call ∷ [])) []

abbrev came : Call → Bool
came call = is_quiet Mode.Strict (alone (call ∷ mkdir_a ∷ [])) (item call ∷ [])

-- the calls that may move data, and all others
abbrev moving : List Call
moving =
    Call.Write handle_a (codes "x")
    ∷ Call.Pwrite handle_a 0 (codes "x")
    ∷ Call.Truncate handle_a 0
    ∷ Call.Fsync handle_a
    ∷ Call.Open handle_a path_a (flags true)
    ∷ []

abbrev quiet : List Call
quiet =
    mkdir_a
    ∷ Call.Rmdir path_a
    ∷ Call.Unlink path_a
    ∷ Call.Rename path_a path_a
    ∷ Call.Open handle_a path_a (flags false)
    ∷ Call.Close handle_a
    ∷ Call.Dup handle_a handle_a
    ∷ Call.Read handle_a 1
    ∷ Call.Pread handle_a 0 1
    ∷ Call.Seek handle_a Whence.Set (pos 0)
    ∷ Call.Stat path_a
    ∷ Call.List path_a
    ∷ []

record WorkedBounds : Type 0 where
  each_that_moves_comes_next : map next moving ≡ replicate 5 false
  each_that_moves_came : map came moving ≡ replicate 5 false
  each_other_comes_next : map next quiet ≡ replicate 12 true
  each_other_came : map came quiet ≡ replicate 12 true
  one_of_the_set_up_comes_next : is_quiet Mode.Strict (record { setup = Call.Fsync handle_a ∷ []; threads = (mkdir_a ∷ []) ∷ [] }) [] ≡ false
  one_of_thread_1_comes_next : is_quiet Mode.Strict (record { setup = []; threads = (mkdir_a ∷ []) ∷ (Call.Fsync handle_a ∷ []) ∷ [] }) [] ≡ false
  one_comes_after_the_next : is_quiet Mode.Strict (alone (mkdir_a ∷ Call.Fsync handle_a ∷ [])) [] ≡ true
  sync_mode : is_quiet Mode.Sync (alone (mkdir_a ∷ [])) [] ≡ true
  posix_mode : is_quiet Mode.Posix (alone (mkdir_a ∷ [])) [] ≡ false
  complete_history : is_quiet Mode.Strict (alone (mkdir_a ∷ [])) (item mkdir_a ∷ []) ≡ false
  names_afford_no_more : AffordedByNames 1024 (item mkdir_a ∷ []) × (AffordedByNames 1025 (item mkdir_a ∷ []) → ⊥)
  nothing_affords_more : Afforded (2 ^ 32) [] (alone []) Mode.Strict × (Afforded (2 ^ 32 + 1) [] (alone []) Mode.Strict → ⊥)
  quiet_calls_afford_no_more : Afforded 512 [] (alone quiet) Mode.Strict × (Afforded 513 [] (alone quiet) Mode.Strict → ⊥)

worked_bounds : WorkedBounds
worked_bounds = record {
  each_that_moves_comes_next = refl;
  each_that_moves_came = refl;
  each_other_comes_next = refl;
  each_other_came = refl;
  one_of_the_set_up_comes_next = refl;
  one_of_thread_1_comes_next = refl;
  one_comes_after_the_next = refl;
  sync_mode = refl;
  posix_mode = refl;
  complete_history = refl;
  names_afford_no_more = (lit≤ tt, λ afforded. omega (arith, afforded));
  nothing_affords_more = (record { by_any = lit≤ tt; by_names = λ asked. cc }, λ afforded. omega (arith, afforded.by_any));
  quiet_calls_afford_no_more = (record { by_any = lit≤ tt; by_names = λ asked. lit≤ tt }, λ afforded. omega (arith, afforded.by_names refl));
}
