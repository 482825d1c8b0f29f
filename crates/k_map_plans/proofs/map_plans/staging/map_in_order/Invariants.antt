use Rattle.std.proofs.Common.{◌≡◌, ℕ, take}
use Rattle.k_relink.specs.extent_model.Extents.{disk_at, IsCanonical}
use Rattle.k_plans.specs.k_split_model.MapChangesChanges.{in_order}
use Rattle.k_map_plans.proofs.map_plans.staging.map_in_order.Given as goal

abbrev pub invariant-loop-place : goal.invariant-loop-place
invariant-loop-place l =
    record { canonical : IsCanonical l.map; blocks : (b : ℕ) → disk_at l.map b ≡ in_order (take l.place l.blocks) b }
