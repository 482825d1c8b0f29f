use Rattle.std.proofs.Common.{ap, ◌∙◌}
use Rattle.k_plans.proofs.FreeCounts.{pool-counted}
use Rattle.k_plans.specs.Free.{free_blocks}
use Rattle.k_plans.proofs.plans.tables.Tables.free_blocks.Goals as goal

pub returns : goal.returns
returns c =
    c.free.ensures ∙ pool-counted _ c.self.inside.pool c.self.invariant.pool_is ∙ ap free_blocks c.self.view_is
