use Rattle.std.proofs.Common.{length}
use Rattle.script_text.proofs.NumbersFit.{AreSoFar}
use Rattle.script_text.proofs.numbers.spells_numbers.Given as goal

-- the numbers so far fit, and the rest follows them
abbrev pub invariant-loop-number : goal.invariant-loop-number
invariant-loop-number l = AreSoFar l.most l.highest l.word l.rest l.count

abbrev pub decreases-loop-number : goal.decreases-loop-number
decreases-loop-number l = length l.rest
