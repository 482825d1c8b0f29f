use Rattle.std.proofs.Common.{◌≡◌, ◌++◌, drop, map}
use Rattle.k_reading.specs.Pools.{one_block}
use Rattle.k_reading.proofs.pools.push_blocks.Given as goal

abbrev pub invariant-loop-block : goal.invariant-loop-block
invariant-loop-block l =
    l.used.items ++ map one_block (drop l.block-index l.blocks) ≡ l.fn.used.items ++ map one_block l.blocks
