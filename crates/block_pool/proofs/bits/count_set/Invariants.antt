use Rattle.std.proofs.Common.{◌≡◌, ◌≤◌}
use Rattle.extent_map.specs.extent_model.Counts.{count_below}
use Rattle.block_pool.specs.Bits.{is_set}
use Rattle.block_pool.proofs.bits.count_set.Given as goal

-- the bits so far are counted
abbrev pub invariant-loop-place : goal.invariant-loop-place
invariant-loop-place l = record { counted : l.count ≡ count_below (is_set l.words) l.place; few : l.count ≤ l.place }
