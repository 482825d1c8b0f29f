use Rattle.std.proofs.Common.{◌≡◌, ◌≤◌, ◌*◌, take}
use Rattle.std.specs.Prelude.{sum_by}
use Rattle.k_map_plans.specs.LandingSteps.{chain_size}
use Rattle.k_map_plans.proofs.map_plans.landing.chain_blocks.Given as goal

abbrev pub invariant-loop-map : goal.invariant-loop-map
invariant-loop-map l = record { sum : l.count ≡ sum_by chain_size (take l.map-index l.maps); bound : l.count ≤ 17 * l.map-index }
