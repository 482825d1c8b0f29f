use Rattle.std.proofs.Common.{length}
use Rattle.script_text.proofs.NumberLists.{AreRead}
use Rattle.script_text.proofs.numbers.read_numbers.Given as goal

-- the numbers so far were read, and the rest follows them
abbrev pub invariant-loop-number : goal.invariant-loop-number
invariant-loop-number l = AreRead l.word l.rest l.numbers.items

abbrev pub decreases-loop-number : goal.decreases-loop-number
decreases-loop-number l = length l.rest
