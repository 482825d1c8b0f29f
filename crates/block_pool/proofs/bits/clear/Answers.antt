use Rattle.block_pool.proofs.Places.{clear_here, clear_others}
use Rattle.block_pool.proofs.bits.clear.Goals as goal

pub returns-clause-here : goal.returns-clause-here
returns-clause-here c = clear_here _ _ c.requires

pub returns-clause-others : goal.returns-clause-others
returns-clause-others c = clear_others _ _ c.requires
