use Rattle.split_cases.proofs.Draws.{AreListed}
use Rattle.split_cases.proofs.load.drawn_threads.Given as goal

-- the lists so far, and how far the draws came
abbrev pub invariant-loop-t : goal.invariant-loop-t
invariant-loop-t l = AreListed l.n l.threads l.t l.draws l.lists.items
