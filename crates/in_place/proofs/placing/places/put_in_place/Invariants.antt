use Rattle.std.proofs.Common.{◌-◌, length}
use Rattle.in_place.proofs.Onward.{IsPutTo}
use Rattle.in_place.proofs.placing.places.put_in_place.Given as goal

abbrev pub invariant-loop-done : goal.invariant-loop-done
invariant-loop-done l = IsPutTo l.initial.k l.k l.files l.ino l.at l.bytes l.done l.initial.power l.power

abbrev pub decreases-loop-done : goal.decreases-loop-done
decreases-loop-done l = length l.bytes - l.done
