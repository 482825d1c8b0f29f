use Rattle.split_threads.proofs.Showing.{AreSeenTo}
use Rattle.split_threads.proofs.set_up.show_all.Given as goal

-- the workers so far were shown the set-up
abbrev pub invariant-loop-k : goal.invariant-loop-k
invariant-loop-k g l = AreSeenTo l.turn l.initial.owns l.k l.owns
