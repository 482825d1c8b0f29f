use Rattle.split_machine.specs.Events.{seen}
use Rattle.schedule_tests.specs.Losses.{IsAtMoment}
use Rattle.schedule_tests.proofs.worlds.telling.fault_on_the_way.Given as goal

-- a moment of the row
abbrev pub invariant-loop-line : goal.invariant-loop-line
invariant-loop-line l = IsAtMoment l.world (seen l.out) l.power
