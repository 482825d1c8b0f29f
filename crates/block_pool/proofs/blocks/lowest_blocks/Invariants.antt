use Rattle.std.proofs.Common.{◌≡◌, length}
use Rattle.block_pool.proofs.Lowest.{AreAllBefore}
use Rattle.block_pool.proofs.blocks.lowest_blocks.Given as goal

-- the blocks are those of all set bits before `from`, as many as were asked for so far
abbrev pub invariant-loop-taken : goal.invariant-loop-taken
invariant-loop-taken l = record { size : length l.blocks.items ≡ l._taken; all : AreAllBefore l.words l.first l.count l.from l.blocks.items }
