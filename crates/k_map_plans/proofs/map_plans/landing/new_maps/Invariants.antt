use Rattle.std.proofs.Common.{◌≡◌, ◌+◌, ◌++◌, drop, length}
use Rattle.std.specs.Prelude.{sum_by}
use Rattle.k_map_plans.specs.LandingSteps.{chain_size, cut_up}
use Rattle.k_map_plans.proofs.map_plans.landing.new_maps.Given as goal

abbrev pub invariant-loop-map : goal.invariant-loop-map
invariant-loop-map l =
    record {
      used : l.used + sum_by chain_size (drop l.map-index l.maps) ≡ length l.taken;
      cut : l.news.items ++ cut_up (drop l.map-index l.maps) (drop l.used l.taken) ≡ cut_up l.maps l.taken;
    }
