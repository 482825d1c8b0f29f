use Rattle.split_cases.specs.Drawn.{AreDrawn}
use Rattle.split_cases.proofs.load.drawn_calls.Given as goal

-- the calls so far, and how far the draws came
abbrev pub invariant-loop-i : goal.invariant-loop-i
invariant-loop-i l = AreDrawn l.fn.draws l.draws l.i l.t l.calls.items
