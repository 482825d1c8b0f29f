use Rattle.std.proofs.Common.{◌≡◌, ◌-◌}
use Rattle.k_reading.specs.layout_model.Names.{Rows, ends_at_root}
use Rattle.check_image.specs.Above.{IsAbove}
use Rattle.check_image.proofs.names.reaches_root.Given as goal

-- the rest of the way decides
abbrev pub invariant-loop-step : goal.invariant-loop-step
invariant-loop-step l = (rows : Rows) → IsAbove rows l.above → ends_at_root rows 15 l.from ≡ ends_at_root rows (15 - l._step) l.ino
