use Rattle.std.proofs.Common.{◌≡◌, ◌++◌, drop, flat_map}
use Rattle.k_reading.specs.Pools.{used_extents}
use Rattle.k_reading.proofs.pools.used_extents.Given as goal

abbrev pub invariant-loop-map : goal.invariant-loop-map
invariant-loop-map l = l.used.items ++ flat_map (λ es. es) (drop l.map-index l.maps) ≡ used_extents l.chains l.maps
