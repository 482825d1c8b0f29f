use Rattle.std.proofs.Common.{arith}
use Rattle.block_io.proofs.block_bytes.blocks.clear_block.Goals as goal

pub returns-clause-others : goal.returns-clause-others
returns-clause-others c i off = c.clear_lines.ensures.others i (λ here. off (omega (arith, here.from, here.below)))

pub returns-clause-done : goal.returns-clause-done
returns-clause-done c on i at = c.clear_lines.ensures.done on i (record { from = omega (arith, at); below = omega (arith, at) })
