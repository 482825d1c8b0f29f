use Rattle.std.proofs.Common.{refl, arith}
use Rattle.block_pool.proofs.Cleared.{cleared_bits, cleared_count}
use Rattle.block_pool.proofs.blocks.clear_blocks.Goals as goal

pub loop-block-preserved : goal.loop-block-preserved
loop-block-preserved c =
    let set = c.requires.set c.loop-block.block-index 0 c.loop-block-test.true in
    let so_far = c.loop-block.invariant in
    record {
      bits = cleared_bits _ _ _ _ c.args.count _ _ _ c.requires.rising c.loop-block-test.true set refl so_far.bits c.clear.ensures.here c.clear.ensures.others;
      count = omega (arith, so_far.count, cleared_count _ _ _ _ c.args.count _ _ _ c.requires.rising c.loop-block-test.true set refl so_far.bits c.clear.ensures.here c.clear.ensures.others);
    }
