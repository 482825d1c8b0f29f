use Rattle.k_reading.proofs.UsedOwners.{pool-volume}
use Rattle.k_reading.proofs.pools.free_blocks.Goals as goal

pub returns-clause-volume : goal.returns-clause-volume
returns-clause-volume c = λ v of b.
    pool-volume c.args.geometry.now c.args.chains.now c.args.maps.now c.in_ok-pool.pool v c.in_ok-pool.ensures of b
