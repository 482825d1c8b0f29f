use Rattle.split_threads.proofs.Ending.{AtEnds}
use Rattle.split_threads.proofs.closes.has_calls_left.Given as goal

-- the threads so far are at their ends
abbrev pub invariant-loop-number : goal.invariant-loop-number
invariant-loop-number l = AtEnds l.world l.number
