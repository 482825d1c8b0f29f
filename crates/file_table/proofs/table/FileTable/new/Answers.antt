use Rattle.std.proofs.Common.{arith, sym, ◌∙◌}
use Rattle.file_table.proofs.Sums.{small_zero, sum_zero}
use Rattle.file_table.proofs.table.FileTable.new.Goals as goal

pub invariant_of-result : goal.invariant_of-result
invariant_of-result c =
    let inv = c.loop-line.invariant in
    record {
      same = inv.overlays ∙ sym inv.count;
      few = omega (arith, inv.count, c.ranges.count.fits);
      small = small_zero c.loop-line.sizes.items inv.sizes;
      held_is = sym (sum_zero c.loop-line.sizes.items inv.sizes);
    }
