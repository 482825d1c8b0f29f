use Rattle.check_image.specs.Marks.{AreFew}
use Rattle.check_image.proofs.blocks.first_twice.Given as goal

-- no place so far has two uses
abbrev pub invariant-loop-place : goal.invariant-loop-place
invariant-loop-place l = AreFew l.marks l.place
