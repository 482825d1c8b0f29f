-- The worked schedules, by computation.
use Rattle.std.specs.Prelude.{◌≡◌, ℕ, zero, suc, List, [], ◌∷◌, ◌++◌, replicate, All, false, refl}
use Rattle.std.proofs.lemmas.List.Elements.{All-cons, All-nil}
use Rattle.posix_laws.specs.posix_types.declared.call.Call.{Call}
use Rattle.posix_laws.specs.posix_types.declared.call.Who.{Who}
use Rattle.posix_laws.specs.posix_tables.Names.{height, node_at_path, walk, with_entry, without_entry}
use Rattle.posix_laws.specs.posix_tables.NameRows.{list_rows, open_rows, rename_kind_rows, rename_rows, stat_rows}
use Rattle.posix_laws.specs.posix_tables.Open.{binding_of, key_of, opened, with_binding, with_descriptor, with_offset, with_opened}
use Rattle.posix_laws.specs.posix_spec.FileRows.{write_rows}
use Rattle.posix_laws.specs.posix_spec.Put.{put_by}
use Rattle.posix_laws.specs.posix_spec.State.{made, swept, unnamed, with_file}
use Rattle.posix_laws.specs.posix_spec.Step.{list_done, open_done, opening, rename_done, renamed, stat_done, write_done, written}
use Rattle.crash_spec.specs.Busy.{is_busy, waits_for}
use Rattle.crash_spec.specs.Machine.{may_begin}
use Rattle.crash_spec.specs.Orders.{draw}
use Rattle.crash_spec.specs.ScheduleLaws.{may_write, NobodyWrites}
use Rattle.crash_spec.specs.ScheduleRows.{on_default, three_list, WorkedSchedules}
use Rattle.crash_spec.proofs.Walks.{Behind, Check, Drawn, InRound, OfSetUp, Skipping, the_only_schedule, the_schedule, Turn}

-- several turns of one kind
abbrev times : ℕ → Turn → List Turn
times n turn = replicate n turn

-- nobody writes where three list
abbrev IsQuiet : Call → Type 0
IsQuiet call = may_write call ≡ false

lists_twice : All IsQuiet (Call.List [] ∷ Call.List [] ∷ [])
lists_twice = All-cons IsQuiet (Call.List []) (Call.List [] ∷ []) refl (All-cons IsQuiet (Call.List []) [] refl (All-nil IsQuiet))

three_write_nothing : NobodyWrites (on_default three_list)
three_write_nothing Who.Setup = All-nil IsQuiet
three_write_nothing (Who.Thread zero) = lists_twice
three_write_nothing (Who.Thread (suc zero)) = lists_twice
three_write_nothing (Who.Thread (suc (suc zero))) = lists_twice
three_write_nothing (Who.Thread (suc (suc (suc n)))) = All-nil IsQuiet

pub worked_schedules : WorkedSchedules
unfolding with_entry without_entry walk node_at_path height open_rows stat_rows list_rows rename_rows rename_kind_rows binding_of key_of opened with_binding with_descriptor with_offset with_opened with_file made swept unnamed write_rows put_by open_done opening write_done written stat_done list_done rename_done renamed is_busy waits_for may_begin draw
worked_schedules = record {
  write_is_cut = the_schedule _ _ (times 5 (InRound 0)) _ _ refl;
  hole_in_the_log = the_schedule _ _ (times 2 OfSetUp ++ times 3 (Skipping 0 0) ++ times 6 (Skipping 0 1)) _ _ refl;
  log_is_full = the_schedule _ _ (times 28 (InRound 0) ++ Check ∷ times 6 (InRound 0)) _ _ refl;
  log_was_full = the_schedule _ _ (times 28 (InRound 0) ++ Check ∷ times 5 (InRound 0)) _ _ refl;
  rename_over_a_busy_file = the_schedule _ _ (times 14 OfSetUp ++ times 2 (Skipping 0 0) ++ times 1 (Skipping 0 1)) _ _ refl;
  busy_file_is_passed_over = the_schedule _ _ (OfSetUp ∷ Skipping 0 0 ∷ Skipping 1 0 ∷ times 4 (Skipping 0 0) ++ times 1 (Skipping 0 1)) _ _ refl;
  in_turn = the_only_schedule _ _ (InRound 0 ∷ InRound 1 ∷ InRound 2 ∷ InRound 0 ∷ InRound 1 ∷ InRound 2 ∷ []) _ _ three_write_nothing refl;
  by_a_seed = the_only_schedule _ _ (Drawn 2 ∷ Drawn 1 ∷ Drawn 0 ∷ Drawn 2 ∷ Drawn 1 ∷ Drawn 0 ∷ []) _ _ three_write_nothing refl;
  behind_the_list = the_only_schedule _ _ (Skipping 0 1 ∷ Behind 1 2 ∷ Behind 0 0 ∷ Behind 0 1 ∷ Behind 0 2 ∷ Behind 0 0 ∷ []) _ _ three_write_nothing refl;
}
