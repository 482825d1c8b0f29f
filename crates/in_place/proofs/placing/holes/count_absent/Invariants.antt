use Rattle.std.proofs.Common.{◌≡◌, ◌-◌}
use Rattle.in_place.specs.Holes.{absent_count}
use Rattle.in_place.proofs.placing.holes.count_absent.Given as goal

abbrev pub invariant-loop-block : goal.invariant-loop-block
invariant-loop-block l = l.absent ≡ absent_count l.fn.k.volume l.fn.files l.ino l.first (l.block - l.first)
