use Rattle.std.proofs.Common.{◌<◌, ◌≤◌, ℕ, IsSome}
use Rattle.k_check.specs.extent_model.Extents.{disk_at}
use Rattle.k_map_tests.proofs.asking.are_mapped.Given as goal

abbrev pub invariant-loop-block : goal.invariant-loop-block
invariant-loop-block l = (b : ℕ) → l.first ≤ b → b < l.block → IsSome (disk_at l.map b)
