use Rattle.std.proofs.Common.{ℕ, ◌<◌, ◌≤◌, IsSome}
use Rattle.extent_map.specs.extent_model.Extents.{disk_at}
use Rattle.k_relink.proofs.linking.first_hole.Given as goal

-- the blocks so far have a disk block
abbrev pub invariant-loop-block : goal.invariant-loop-block
invariant-loop-block l = (b : ℕ) → l.first ≤ b → b < l.block → IsSome (disk_at l.map b)
