use Rattle.split_machine.proofs.Parted.{AreParted}
use Rattle.split_machine.proofs.outstanding.parted.Given as goal

-- those so far
abbrev pub invariant-loop-held : goal.invariant-loop-held
invariant-loop-held l = AreParted l.yielded l.began.items l.filled.items
