use Rattle.std.proofs.Common.{◌≡◌, ◌<◌, ◌-◌, ℕ, false}
use Rattle.std.specs.Prelude.{◌||◌, slice_index_or}
use Rattle.k_split.specs.extent_model.Extents.{is_within}
use Rattle.staging_files.proofs.looks.mark.Given as goal

-- those so far are marked
abbrev pub invariant-loop-b : goal.invariant-loop-b
invariant-loop-b l = (i : ℕ) → i < 64 → slice_index_or l.taken i false ≡ (slice_index_or l.fn.taken i false || is_within l.first (l.b - l.first) i)
