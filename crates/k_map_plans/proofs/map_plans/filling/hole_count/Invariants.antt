use Rattle.std.proofs.Common.{◌≡◌, ◌≤◌, length}
use Rattle.k_plans.specs.k_split_model.MapChangesChanges.{holes}
use Rattle.k_map_plans.proofs.map_plans.filling.hole_count.Given as goal

abbrev pub invariant-loop-place : goal.invariant-loop-place
invariant-loop-place l = record { most : l.found ≤ l.place; count : l.found ≡ length (holes l.map l.first l.place) }
