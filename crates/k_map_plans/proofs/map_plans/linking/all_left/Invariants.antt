use Rattle.std.proofs.Common.{◌≡◌, ◌+◌, ◌<◌, ℕ, map}
use Rattle.std.specs.List.{range_with_len}
use Rattle.k_plans.specs.image_model.Volume.{extents}
use Rattle.k_relink.specs.extent_model.Extents.{IsCanonical}
use Rattle.k_map_plans.specs.Linking.{whole_left}
use Rattle.k_map_plans.proofs.map_plans.linking.all_left.Given as goal

abbrev pub invariant-loop-place : goal.invariant-loop-place
invariant-loop-place l =
    record {
      lefts : l.lefts.items ≡ map (whole_left l.tables.volume) (range_with_len 0 l.place);
      canonical : (k : ℕ) → k < l.place → IsCanonical (extents l.tables.volume (k + 1));
    }
