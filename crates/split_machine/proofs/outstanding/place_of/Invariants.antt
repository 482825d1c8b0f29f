use Rattle.split_machine.proofs.Found.{NoneBefore}
use Rattle.split_machine.proofs.outstanding.place_of.Given as goal

-- none of those before is the caller's
abbrev pub invariant-loop-place : goal.invariant-loop-place
invariant-loop-place l = NoneBefore l.jobs l.who l.place
