use Rattle.std.proofs.Common.{◌≡◌, ◌+◌, ◌-◌, true}
use Rattle.live_step_laws.specs.pm_model.Powers.{is_on, Steps}
use Rattle.in_place.proofs.Filling.{IsFilledTo, steps_to}
use Rattle.in_place.proofs.placing.holes.fill_gaps.Given as goal

abbrev pub invariant-loop-block : goal.invariant-loop-block
invariant-loop-block l = record {
  to : IsFilledTo l.initial.k l.k l.staging l.files l.ino l.first l.count l.block;
  on : is_on l.power ≡ true;
  steps : Steps (steps_to l.initial.k l.files l.ino l.first l.count l.block) l.initial.power l.power;
}

abbrev pub decreases-loop-block : goal.decreases-loop-block
decreases-loop-block l = l.first + l.count - l.block
