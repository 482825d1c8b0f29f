use Rattle.split_machine.proofs.Looks.{AreSoFar}
use Rattle.split_machine.proofs.picks.look_round.Given as goal

-- the threads so far
abbrev pub invariant-loop-n : goal.invariant-loop-n
invariant-loop-n l = AreSoFar l.world l.n l.numbers.items l.all
