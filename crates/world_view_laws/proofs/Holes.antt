-- Strict mode fills no hole, and only writes fill any; and what strict mode stages.
use Rattle.std.specs.Prelude.{◌≡◌, ◌≢◌, ◌≤◌, ◌+◌, ◌-◌, ◌*◌, ◌/◌, ℕ, Bool, true, false, length, max, nat_lt, Option, Some, None, if◌then◌else◌, refl}
use Rattle.std.specs.Option.{option_map_or}
use Rattle.std.proofs.Common.{arith, ap, ◌∙◌, sym, inl}
use Rattle.std.proofs.lemmas.Bool.{le-ltb}
use Rattle.std.proofs.lemmas.Bool.Decides.{nat_tests}
use Rattle.in_flight.specs.block_counts.Counts.{blocks_for}
use Rattle.file_calls.specs.data_route.declared.writes.WritePlan.{WritePlan}
use Rattle.file_calls.specs.data_route.Writes.{cleans, first_staged, in_place_by, plan_of, staged_by}
use Rattle.in_flight.specs.posix_types.declared.call.Call.{Call}
use Rattle.in_flight.specs.posix_types.declared.call.Mode.{Mode}
use Rattle.in_flight.specs.posix_types.declared.call.Who.{Who}
use Rattle.in_flight.specs.crash_spec.Busy.{is_logged_put}
use Rattle.in_flight.specs.posix_spec.Afforded.{moves_data}
use Rattle.in_flight.specs.posix_spec.Put.{Put, put_by}
use Rattle.in_flight.specs.posix_spec.State.{State}
use Rattle.in_flight.specs.world_image_laws.Settings.{setting_run}
use Rattle.world_view_laws.specs.Begins.{HasFilled, IsInPlace, LacksHoles}
use Rattle.write_end.specs.in_place.write_plan.Plans.{placed_at, size_at, staged_run}
use Rattle.world_view_laws.specs.Holes.{absent_in, file_of, holes_at, holes_of}
use Rattle.world_view_laws.specs.Views.{Disk, state_of, WorldView}

-- ---- the plan of strict mode

none_in_place : (size offset end : ℕ) → in_place_by Mode.Strict size offset end ≡ None
none_in_place size offset end = ap (λ (b : Bool). if b then Some (offset, 4096 * (offset / 4096)) else None) (le-ltb offset (4096 * (offset / 4096)) (omega arith))

abbrev whole_plan : ℕ → ℕ → ℕ → WritePlan
whole_plan size place len = record {
  clean_tail = cleans size place;
  in_place = in_place_by Mode.Strict size place (place + len);
  staged = staged_by Mode.Strict size place (place + len);
  new_size = max size (place + len);
}

abbrev no_plan : ℕ → WritePlan
no_plan size = record { clean_tail = false; in_place = None; staged = None; new_size = size }

plan_none : (size place len : ℕ) → (plan_of Mode.Strict size place len).in_place ≡ None
plan_none size place len = by (nat_lt 0 len) where
  by : (b : Bool) → (if b then whole_plan size place len else no_plan size).in_place ≡ None
  by true = none_in_place size place (place + len)
  by false = refl

placed_none : (s : State) → s.mode ≡ Mode.Strict → (o : Option Put) → placed_at s o ≡ None
placed_none s strict None = refl
placed_none s strict (Some put) = ap (λ (m : Mode). (plan_of m (size_at s put) put.place (length put.bytes)).in_place) strict ∙ plan_none (size_at s put) put.place (length put.bytes)

-- IT STAGES WHOLE BLOCKS, from that of the first byte to that of the last one.
pub stages_whole : (s : State) (put : Put) → s.mode ≡ Mode.Strict → 1 ≤ length put.bytes
    → staged_run s (Some put) ≡ Some (put.place / 4096, blocks_for (put.place + length put.bytes) - put.place / 4096)
stages_whole s put strict some =
    ap (λ (m : Mode). (plan_of m (size_at s put) put.place (length put.bytes)).staged) strict ∙ (let test : nat_lt 0 (length put.bytes) ≡ true = grind (arith, nat_tests, some) in rw test refl)

-- ---- outside POSIX mode

-- the blocks from the first one that is staged to that of the last byte
abbrev pub run_of_put : Mode → State → Put → ℕ × ℕ
run_of_put mode s put = (first_staged mode (size_at s put) put.place, blocks_for (put.place + length put.bytes) - first_staged mode (size_at s put) put.place)

run_in : (mode : Mode) (s : State) (put : Put) → mode ≢ Mode.Posix → nat_lt 0 (length put.bytes) ≡ true
    → (plan_of mode (size_at s put) put.place (length put.bytes)).staged ≡ (if is_logged_put mode s put then Some (run_of_put mode s put) else None)
run_in Mode.Strict s put other some = rw some refl
run_in Mode.Sync s put other some = rw some refl
run_in Mode.Posix s put other some = absurd (other refl)

none_in : (mode : Mode) (s : State) (put : Put) → nat_lt 0 (length put.bytes) ≡ false → (plan_of mode (size_at s put) put.place (length put.bytes)).staged ≡ None
none_in mode s put none = rw none refl

-- A WRITE OF SOME BYTES STAGES BLOCKS just where it is logged.
pub logged_run : (s : State) (put : Put) → s.mode ≢ Mode.Posix → 1 ≤ length put.bytes
    → staged_run s (Some put) ≡ (if is_logged_put s.mode s put then Some (run_of_put s.mode s put) else None)
logged_run s put other some = run_in s.mode s put other (grind (arith, nat_tests, some))

-- ONE THAT STAGES BLOCKS is logged.
pub stages_logged : (s : State) (put : Put) (run : ℕ × ℕ) → s.mode ≢ Mode.Posix → staged_run s (Some put) ≡ Some run → is_logged_put s.mode s put ≡ true
stages_logged s put run other is = by (nat_lt 0 (length put.bytes)) refl where
  logged : (b : Bool) → (if b then Some (run_of_put s.mode s put) else None) ≡ Some run → b ≡ true
  logged true same = refl
  logged false same = cc

  by : (b : Bool) → nat_lt 0 (length put.bytes) ≡ b → is_logged_put s.mode s put ≡ true
  by true some = logged (is_logged_put s.mode s put) (sym (run_in s.mode s put other some) ∙ is)
  by false some =
      let bare : staged_run s (Some put) ≡ None = none_in s.mode s put some in
      let never : None ≡ Some run = sym bare ∙ is in
      cc

-- ---- holes

none_at : (w : WorldView) (ino : Option ℕ) (range : Option (ℕ × ℕ)) → range ≡ None → holes_at w ino range ≡ 0
none_at w None range is = refl
none_at w (Some ino) range is = ap (λ (r : Option (ℕ × ℕ)). option_map_or (absent_in w.start.mode w.disk ino) r 0) is

-- STRICT MODE HAS NO HOLE TO FILL.
pub none_to_fill : (w : WorldView) → w.start.mode ≡ Mode.Strict → (who : Who) (call : Call) → holes_of w who call ≡ 0
none_to_fill w strict who call =
    none_at w (file_of w who call) (placed_at (state_of w) (put_by (state_of w) who call)) (placed_none (state_of w) ((setting_run w.start w.history).mode ∙ strict) (put_by (state_of w) who call))

-- NOR HAS ONE, in whatever mode, that writes nothing in place,
pub unplaced_holes : (w : WorldView) (who : Who) (call : Call) → placed_at (state_of w) (put_by (state_of w) who call) ≡ None → holes_of w who call ≡ 0
unplaced_holes w who call none = none_at w (file_of w who call) (placed_at (state_of w) (put_by (state_of w) who call)) none

-- or puts nothing.
pub unput_holes : (w : WorldView) (who : Who) (call : Call) → put_by (state_of w) who call ≡ None → holes_of w who call ≡ 0
unput_holes w who call none = unplaced_holes w who call (ap (placed_at (state_of w)) none)

-- ONE THAT PUTS NOTHING writes nothing in place.
pub unput_in_place : (w : WorldView) (who : Who) (call : Call) (disk : Disk) → put_by (state_of w) who call ≡ None
    → (range : ℕ × ℕ) → placed_at (state_of w) (put_by (state_of w) who call) ≡ Some range → IsInPlace w who call disk
unput_in_place w who call disk none range placed =
    let never : None ≡ Some range = sym (ap (placed_at (state_of w)) none) ∙ placed in
    cc

-- A CALL WITHOUT HOLES lacks no blocks for them,
pub no_holes : (w : WorldView) (who : Who) (call : Call) → holes_of w who call ≡ 0 → (need left : ℕ) → LacksHoles w who call need left → ⊥
no_holes w who call none need left lacks = (let some : 1 ≤ holes_of w who call = lacks.some in omega (arith, none, some))

-- and with nothing filled all is filled.
pub none_filled : (w : WorldView) (who : Who) (call : Call) → holes_of w who call ≡ 0 → HasFilled w who call w.disk
none_filled w who call none = record {
  rest = refl;
  none = λ is. refl;
  filled = none;
  lines = λ ino. record { kind = refl; generation = refl; size = refl; applied = refl };
  others = λ ino apart. (refl, refl);
  kept = λ ino block b at. at;
  new = λ ino block b at. inl at;
  free = λ other ino own. omega (arith, none);
}

-- A CALL WITH HOLES MOVES DATA.
pub holes_move : (w : WorldView) (who : Who) (call : Call) → 1 ≤ holes_of w who call → moves_data call ≡ true
holes_move w who (Call.Write h x) some = refl
holes_move w who (Call.Pwrite h place x) some = refl
holes_move w who call some = absurd (omega (arith, some))
