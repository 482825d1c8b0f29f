use Rattle.std.proofs.Common.{arith}
use Rattle.extent_map.proofs.Whole.{canonical_more}
use Rattle.extent_map.proofs.pieces.is_canonical.Goals as goal
use Rattle.extent_map.proofs.pieces.is_canonical.Goals.{else-i-gt0-via-then-i-gt0+else-not-comes_after, else-i-gt0-via-else-i-gt0}

-- the next extent is one, and comes after the one before it, if there is one
pub loop-i-preserved : goal.loop-i-preserved
loop-i-preserved c =
    canonical_more c.args.extents.now c.loop-i.i _ c.loop-i-test.true c.loop-i.invariant (c.is_extent.ensures.0 c.if-not-is_extent.false) (λ positive. elim c.else-i-gt0.branch [
      | else-i-gt0-via-then-i-gt0+else-not-comes_after w ↦ w.comes_after.ensures.0 w.if-not-comes_after.false
      | else-i-gt0-via-else-i-gt0 w ↦ absurd (omega arith)
    ])
