use Rattle.split_threads.specs.Rounds.{IsBetweenRounds}
use Rattle.split_threads.proofs.runs.run.Given as goal

-- between two rounds
abbrev pub invariant-loop : goal.invariant-loop
invariant-loop g l = IsBetweenRounds l.fn.world l.fn.stop l.world l.power
