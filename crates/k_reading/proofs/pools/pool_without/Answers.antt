use Rattle.std.proofs.Common.{arith, ◌∙◌}
use Rattle.k_reading.proofs.UsedBlocks.{used-lie-along, pool-unused}
use Rattle.k_reading.proofs.pools.pool_without.Goals as goal

pub new-requires-clause-within : goal.new-requires-clause-within
new-requires-clause-within c =
    used-lie-along c.args.geometry.now c.args.chains.now c.args.maps.now c.deref.result.now c.first_data.result c.data_blocks.result
    c.requires.in_data (c.deref.ensures.value ∙ c.in_ok-used.ensures) c.first_data.ensures.number c.data_blocks.ensures.number

pub returns : goal.returns
returns c =
    pool-unused c.args.geometry.now c.args.chains.now c.args.maps.now c.deref.result.now c.first_data.result c.data_blocks.result c.in_ok-pool.pool
    (omega (arith, c.first_data.ensures.in_range.least_data)) (c.deref.ensures.value ∙ c.in_ok-used.ensures)
    c.first_data.ensures.number c.data_blocks.ensures.number c.in_ok-pool.ensures
