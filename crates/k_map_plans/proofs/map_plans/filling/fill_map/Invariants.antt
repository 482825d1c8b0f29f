use Rattle.k_plans.specs.volume_change_laws.Holes.{HasFilled}
use Rattle.k_map_plans.proofs.map_plans.filling.fill_map.Given as goal

abbrev pub invariant-loop-place : goal.invariant-loop-place
invariant-loop-place l = HasFilled l.first l.place l.fresh l.taken l.initial.map l.map
