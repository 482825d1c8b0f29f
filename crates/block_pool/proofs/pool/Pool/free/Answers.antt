use Rattle.std.proofs.Common.{sym, ◌∙◌, ap}
use Rattle.block_pool.specs.FreeSets.{free_count}
use Rattle.block_pool.proofs.Marks.{free_count-seen}
use Rattle.block_pool.proofs.pool.Pool.free.Goals as goal

pub returns : goal.returns
returns c = c.self.invariant.counted ∙ sym (free_count-seen c.self.inside.first c.self.inside.count c.self.inside.words.items) ∙ ap free_count c.self.view_is
