use Rattle.run_laws.specs.Between.{left_to_do}
use Rattle.split_machine.specs.Events.{seen}
use Rattle.split_machine.specs.Runs.{IsReached}
use Rattle.split_machine.proofs.Loop.{AreLed}
use Rattle.split_machine.proofs.runs.run_events.Given as goal

-- a moment of the run is reached, and so many events led to it, whatever the order is
abbrev pub invariant-events : goal.invariant-events
invariant-events l = record {
  reached : IsReached l.fn.world l.world (seen l.out) l.fn.power l.power;
  led : AreLed l.fn.world l.fn.picker l.fn.cut l.left l.world (seen l.out) l.picker;
}

abbrev pub decreases-events : goal.decreases-events
decreases-events l = left_to_do l.world (seen l.out)
