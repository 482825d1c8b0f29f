use Rattle.std.proofs.Common.{arith}
use Rattle.file_table.proofs.Sums.{sum_small}
use Rattle.file_table.proofs.table.FileTable.resize.Goals as goal

pub overflow_add-self : goal.overflow_add-self
overflow_add-self c =
    let inv = c.self.invariant in
    let most = sum_small c.self.inside.sizes.items inv.small in
    omega (arith, most, inv.held_is, inv.few, c.held_by-2.ensures.bounded)
