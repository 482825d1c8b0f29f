use Rattle.std.proofs.Common.{arith}
use Rattle.k_journal.proofs.batches.Batch.has_room_with.Goals as goal
use Rattle.k_journal.proofs.batches.Batch.has_room_with.Goals.{then-set, else-set}

pub overflow_add-result : goal.overflow_add-result
overflow_add-result c = elim c.if-set.branch [
  | then-set w ↦ omega (arith, w.more-is, c.new_count.ensures.few)
  | else-set w ↦ omega (arith, w.more-is, c.new_count.ensures.few)
]
