use Rattle.std.proofs.Common.{◌≡◌, replicate, None}
use Rattle.posix_tables.proofs.open.free_descriptors.Given as goal

abbrev pub invariant-loop-slot : goal.invariant-loop-slot
invariant-loop-slot l = l.slots.items ≡ replicate l._slot None
