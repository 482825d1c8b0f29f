use Rattle.std.proofs.Common.{ℕ, ◌<◌, ◌+◌, []}
use Rattle.std.specs.Prelude.{IsSome, slice_index_or}
use Rattle.check_image.specs.extent_model.Extents.{disk_at}
use Rattle.k_check.proofs.rules.has_staging_blocks.Given as goal

-- the blocks so far are there
abbrev pub invariant-loop-k : goal.invariant-loop-k
invariant-loop-k l = (i : ℕ) → i < l.k → IsSome (disk_at (slice_index_or l.maps l.draft.staging []) (l.draft.staging_block + i))
