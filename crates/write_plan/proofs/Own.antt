-- The bytes that a write puts in the file's own blocks, outside POSIX mode.
use Rattle.std.specs.Prelude.{◌≡◌, ◌≢◌, ◌+◌, ◌<◌, ℕ, Bool, true, false, length, max, min, nat_lt, Option, Some, None, if◌then◌else◌, refl}
use Rattle.std.specs.Option.{option_map_or}
use Rattle.std.proofs.Common.{arith, ap, ◌∙◌}
use Rattle.std.proofs.lemmas.Bool.Decides.{nat_tests}
use Rattle.live_model.specs.data_route.Writes.{cleans, in_place_by, in_place_end, plan_of, staged_by}
use Rattle.live_model.specs.data_route.declared.writes.WritePlan.{WritePlan}
use Rattle.posix_types.specs.declared.call.Mode.{Mode}
use Rattle.open_files.specs.posix_spec.Afforded.{is_posix}
use Rattle.posix_tables.specs.Nodes.{node_at, published_of}
use Rattle.write_plan.specs.Plans.{OwnIsPlaced, plan_at, size_at}

not_posix : (m : Mode) → m ≢ Mode.Posix → is_posix m ≡ false
not_posix Mode.Strict other = refl
not_posix Mode.Sync other = refl
not_posix Mode.Posix other = absurd (other refl)

-- the range from a place to the end of another one from there, or to the place itself
abbrev range_to : ℕ → Option (ℕ × ℕ) → Option (ℕ × ℕ)
range_to place o =
    if nat_lt place (max (option_map_or (λ (r : ℕ × ℕ). r.1) o place) place) then Some (place, max (option_map_or (λ (r : ℕ × ℕ). r.1) o place) place) else None

-- is that other one
to_none : (place : ℕ) → range_to place None ≡ None
to_none place =
    let least : nat_lt place (max place place) ≡ false = grind (arith, nat_tests) in
    ap (λ (c : Bool). if c then Some (place, max place place) else None) least

to_end : (place end : ℕ) (b : Bool) → nat_lt place end ≡ b → range_to place (if b then Some (place, end) else None) ≡ (if b then Some (place, end) else None)
to_end place end true some =
    let below : place < end = grind (arith, nat_tests, some) in
    let most : max end place ≡ end = omega (arith, below) in
    let still : nat_lt place (max end place) ≡ true = ap (nat_lt place) most ∙ some in
    ap (λ (c : Bool). if c then Some (place, max end place) else None) still ∙ ap (λ (n : ℕ). Some (place, n)) most
to_end place end false none = to_none place

-- the plan of a write, which has a byte or none
abbrev plan_if : Mode → ℕ → ℕ → ℕ → Bool → WritePlan
plan_if mode size place len some = if some
    then record {
      clean_tail = cleans size place;
      in_place = in_place_by mode size place (place + len);
      staged = staged_by mode size place (place + len);
      new_size = max size (place + len);
    }
    else record { clean_tail = false; in_place = None; staged = None; new_size = size }

planned_if : (mode : Mode) (size place len : ℕ) (some : Bool) → range_to place (plan_if mode size place len some).in_place ≡ (plan_if mode size place len some).in_place
planned_if mode size place len true = to_end place (in_place_end mode size place (place + len)) (nat_lt place (in_place_end mode size place (place + len))) refl
planned_if mode size place len false = to_none place

planned : (mode : Mode) (size place len : ℕ) → range_to place (plan_of mode size place len).in_place ≡ (plan_of mode size place len).in_place
planned mode size place len = planned_if mode size place len (nat_lt 0 len)

pub own_placed : OwnIsPlaced
own_placed s None other = refl
own_placed s (Some put) other =
    ap (λ (b : Bool).
    if nat_lt put.place (max (option_map_or (λ (r : ℕ × ℕ). r.1) (plan_at s put).in_place put.place) (if b then min (put.place + length put.bytes) (published_of (node_at s.nodes put.node)) else put.place))
    then Some (put.place, max (option_map_or (λ (r : ℕ × ℕ). r.1) (plan_at s put).in_place put.place) (if b then min (put.place + length put.bytes) (published_of (node_at s.nodes put.node)) else put.place))
    else None)
    (not_posix s.mode other)
    ∙ planned s.mode (size_at s put) put.place (length put.bytes)
