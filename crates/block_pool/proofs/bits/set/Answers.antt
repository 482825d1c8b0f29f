use Rattle.block_pool.proofs.Places.{set_here, set_others}
use Rattle.block_pool.proofs.bits.set.Goals as goal

pub returns-clause-here : goal.returns-clause-here
returns-clause-here c = set_here _ _ c.requires

pub returns-clause-others : goal.returns-clause-others
returns-clause-others c = set_others _ _ c.requires
