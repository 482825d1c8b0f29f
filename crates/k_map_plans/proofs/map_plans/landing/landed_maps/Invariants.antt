use Rattle.std.proofs.Common.{◌≡◌, ◌∷◌, map, take}
use Rattle.k_map_plans.specs.Linking.{left_at}
use Rattle.k_map_plans.proofs.map_plans.landing.landed_maps.Given as goal

abbrev pub invariant-loop-staging : goal.invariant-loop-staging
invariant-loop-staging l = l.maps.items ≡ l.linked ∷ map (λ x. (left_at l.lefts x).map) (take l.staging-index l.touched)
