-- Worked rows on a step of one of several instances, and on unfinished calls.
use Rattle.std.proofs.Common.{◌≡◌, ◌<◌, ◌==◌, ℕ, zero, suc, List, [], ◌∷◌, refl, true, false, codes, arith, lit<}
use Rattle.posix_types.specs.declared.call.Mode.{Mode}
use Rattle.posix_types.specs.declared.call.Who.{Who}
use Rattle.posix_types.specs.declared.call.Call.{Call}
use Rattle.posix_types.specs.declared.handle.Handle.{Handle}
use Rattle.posix_types.specs.declared.handle.Flags.{Flags}
use Rattle.posix_types.specs.declared.reply.Errno.{Errno}
use Rattle.posix_types.specs.declared.reply.Reply.{Reply}
use Rattle.posix_types.specs.Scripts.{Scripts}
use Rattle.posix_tables.specs.declared.nodes.Node.{Node}
use Rattle.posix_tables.specs.Names.{node_at_path, walk, with_entry, without_entry}
use Rattle.posix_tables.specs.NameRows.{open_rows, unlink_rows}
use Rattle.posix_tables.specs.Nodes.{node_at, published_of}
use Rattle.posix_tables.specs.Open.{binding_of, closed, key_of, nothing_open, opened, with_binding, with_descriptor, with_offset, with_opened, without_binding}
use Rattle.posix_tables.specs.Outcomes.{answer}
use Rattle.posix_spec.specs.FileRows.{write_rows}
use Rattle.posix_spec.specs.State.{alone, Instance, made, State, swept, unnamed, with_file, with_published}
use Rattle.posix_spec.specs.Step.{close_done, open_done, opening, pwrite_done, step, step_of, unlink_done, write_done, written}
use Rattle.posix_spec.specs.Tree.{default_shape, root_alone, start}
use Rattle.std.specs.Prelude.{slice_index_or}
use Rattle.posix_spec.specs.Run.{Unfinished}
use Rattle.posix_spec.specs.Unfinished.{AreUnfinished, HaveTwoCallers, IsNextCall}

abbrev handle_a : Handle
handle_a = record { len = 1; bytes = 97 ∷ 0 ∷ 0 ∷ 0 ∷ 0 ∷ 0 ∷ 0 ∷ 0 ∷ [] }

abbrev flags : Flags
flags = record { read = true; write = true; append = false; create = true; exclusive = false; truncate = false }

abbrev path_f : List (List ℕ)
path_f = codes "f" ∷ []

abbrev open_f : Call
open_f = Call.Open handle_a path_f flags

abbrev write_hi : Call
write_hi = Call.Write handle_a (codes "hi")

-- the state of an instance that made and opened /f, node 1, and that of another one, which has nothing open
abbrev first : State
first = (step (start root_alone default_shape Mode.Strict) (Who.Thread 0) open_f).state

abbrev second : State
second = record first { tables = nothing_open }

-- the second instance, and the first one with writes that publish
abbrev beside_first : Instance
beside_first = record { open_elsewhere = λ n. n == 1; write_publishes = false }

abbrev publishing : Instance
publishing = record { open_elsewhere = λ n. false; write_publishes = true }

-- what becomes of node 1, by a call of an instance
abbrev node_after : Instance → State → Call → Node
node_after i s call = node_at (step_of i s (Who.Thread 1) call).state.nodes 1

abbrev empty : Node
empty = Node.File (record { bytes = []; published = 0 })

record WorkedSteps : Type 0 where
  busy_in_another_instance : (step_of beside_first second (Who.Thread 1) open_f).outcome ≡ answer (Reply.Error Errno.EBUSY)
  open_in_no_other_instance : (step_of alone second (Who.Thread 1) open_f).outcome ≡ answer (Reply.Fd 0)
  stays_for_another_instance : node_after beside_first second (Call.Unlink path_f) ≡ empty
  goes_with_its_last_name : node_after alone second (Call.Unlink path_f) ≡ Node.Gone
  write_publishes : published_of (node_at (step_of publishing first (Who.Thread 0) write_hi).state.nodes 1) ≡ 2
  pwrite_publishes : published_of (node_at (step_of publishing first (Who.Thread 0) (Call.Pwrite handle_a 3 (codes "hi"))).state.nodes 1) ≡ 5
  write_does_not_publish : published_of (node_at (step_of alone first (Who.Thread 0) write_hi).state.nodes 1) ≡ 0

worked_steps : WorkedSteps
unfolding with_entry without_entry walk node_at_path unlink_rows open_rows binding_of key_of opened with_binding with_descriptor with_opened with_offset without_binding closed with_file with_published made unnamed swept write_rows unlink_done opening open_done close_done written write_done pwrite_done
worked_steps = record {
  busy_in_another_instance = refl;
  open_in_no_other_instance = refl;
  stays_for_another_instance = refl;
  goes_with_its_last_name = refl;
  write_publishes = refl;
  pwrite_publishes = refl;
  write_does_not_publish = refl;
}

-- two threads of one call each, without and with a set-up
abbrev threads : Scripts
threads = record { setup = []; threads = (open_f ∷ []) ∷ (write_hi ∷ []) ∷ [] }

abbrev with_setup : Scripts
with_setup = record threads { setup = open_f ∷ [] }

record WorkedUnfinished : Type 0 where
  one_of_each_thread : AreUnfinished threads [] ((Who.Thread 1, write_hi) ∷ (Who.Thread 0, open_f) ∷ [])
  two_of_one_thread : AreUnfinished threads [] ((Who.Thread 0, open_f) ∷ (Who.Thread 0, open_f) ∷ []) → ⊥
  another_call : AreUnfinished threads [] ((Who.Thread 0, write_hi) ∷ []) → ⊥
  before_the_set_up_is_done : AreUnfinished with_setup [] ((Who.Thread 0, open_f) ∷ []) → ⊥
  of_the_set_up : AreUnfinished with_setup [] ((Who.Setup, open_f) ∷ [])

worked_unfinished : WorkedUnfinished
worked_unfinished = record {
  one_of_each_thread = record { next = next; one_each = one_each };
  two_of_one_thread = λ are. let never : true ≡ false = are.one_each 0 1 (Who.Setup, open_f) (lit< tt) (lit< tt) in cc;
  another_call = λ are. let never = (are.next 0 (Who.Setup, open_f) (lit< tt)).call in cc;
  before_the_set_up_is_done = λ are. let never : 0 ≡ 1 = (are.next 0 (Who.Setup, open_f) (lit< tt)).set_up in omega (arith, never);
  of_the_set_up = record { next = first_alone; one_each = λ i j d before within. absurd (omega (arith, before, within)) };
} where
  next : (k : ℕ) (d : Unfinished) → k < 2 → IsNextCall threads [] (slice_index_or ((Who.Thread 1, write_hi) ∷ (Who.Thread 0, open_f) ∷ []) k d)
  next zero d within = record { call = refl; set_up = refl }
  next (suc zero) d within = record { call = refl; set_up = refl }
  next (suc (suc k)) d within = absurd (omega (arith, within))

  one_each : (i j : ℕ) (d : Unfinished) → i < j → j < 2
      → HaveTwoCallers (slice_index_or ((Who.Thread 1, write_hi) ∷ (Who.Thread 0, open_f) ∷ []) i d) (slice_index_or ((Who.Thread 1, write_hi) ∷ (Who.Thread 0, open_f) ∷ []) j d)
  one_each zero (suc zero) d before within = refl
  one_each i zero d before within = absurd (omega (arith, before))
  one_each (suc i) (suc zero) d before within = absurd (omega (arith, before))
  one_each i (suc (suc j)) d before within = absurd (omega (arith, within))

  first_alone : (k : ℕ) (d : Unfinished) → k < 1 → IsNextCall with_setup [] (slice_index_or ((Who.Setup, open_f) ∷ []) k d)
  first_alone zero d within = record { call = refl; set_up = tt }
  first_alone (suc k) d within = absurd (omega (arith, within))
