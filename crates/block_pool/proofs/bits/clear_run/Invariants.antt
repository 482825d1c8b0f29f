use Rattle.std.proofs.Common.{◌≡◌, ℕ, ◌&&◌, not}
use Rattle.extent_map.specs.extent_model.Extents.{is_between}
use Rattle.block_pool.specs.Bits.{is_set}
use Rattle.block_pool.proofs.bits.clear_run.Given as goal

-- the bits passed so far are cleared
abbrev pub invariant-loop-place : goal.invariant-loop-place
invariant-loop-place l = (p : ℕ) → is_set l.words p ≡ (is_set l.fn.words p && not (is_between l.fn.first l.place p))
