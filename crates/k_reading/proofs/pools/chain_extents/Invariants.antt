use Rattle.std.proofs.Common.{◌≡◌, ◌++◌, drop, map, flat_map}
use Rattle.k_reading.specs.Pools.{one_block}
use Rattle.k_reading.proofs.pools.chain_extents.Given as goal

abbrev pub invariant-loop-chain : goal.invariant-loop-chain
invariant-loop-chain l =
    l.used.items ++ flat_map (λ blocks. map one_block blocks) (drop l.chain-index l.chains)
    ≡ flat_map (λ blocks. map one_block blocks) l.chains
