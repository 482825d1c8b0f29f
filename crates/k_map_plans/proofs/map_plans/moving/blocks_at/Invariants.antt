use Rattle.std.proofs.Common.{◌≡◌, ◌+◌, length}
use Rattle.k_plans.specs.volume_change_laws.Hits.{AreAt}
use Rattle.k_map_plans.proofs.map_plans.moving.blocks_at.Given as goal

abbrev pub invariant-loop-place : goal.invariant-loop-place
invariant-loop-place l = record { size : l.from + length l.blocks.items ≡ l.place; at : AreAt l.map l.from l.blocks.items }
