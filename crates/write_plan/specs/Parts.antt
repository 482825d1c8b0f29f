-- The staged part of a write.
use Rattle.std.specs.Prelude.{◌≡◌, ◌-◌, ◌*◌, ◌/◌, ℕ, List, drop, max, Some}
use Rattle.eof_laws.specs.block_io.Overwrites.{blocks_reached}
use Rattle.posix_types.specs.declared.call.Mode.{Mode}
use Rattle.live_model.specs.data_route.Writes.{first_staged, plan_of}
use Rattle.write_plan.specs.declared.asks.asking.Target.{Target}

-- THE STAGED PART of a write: where it begins, and its bytes from there on; in strict mode the whole write.
abbrev pub part_start : Mode → Target → ℕ
part_start mode target = max target.start (4096 * first_staged mode target.size target.start)

abbrev pub part_target : Mode → Target → Target
part_target mode target = record target { start = part_start mode target }

abbrev pub part_bytes : Mode → Target → List ℕ → List ℕ
part_bytes mode target x = drop (part_start mode target - target.start) x

-- The staged blocks are those of the part, from that of its first byte to that of its last one.
abbrev pub StagesThePart : Type 0
StagesThePart =
    (mode : Mode) (target : Target) (len : ℕ) (run : ℕ × ℕ) → (plan_of mode target.size target.start len).staged ≡ Some run
    → (run.0 ≡ part_start mode target / 4096) × (run.1 ≡ blocks_reached (part_start mode target) (len - (part_start mode target - target.start)))
