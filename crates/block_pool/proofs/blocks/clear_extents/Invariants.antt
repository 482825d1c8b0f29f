use Rattle.std.proofs.Common.{◌≡◌, ℕ, ◌+◌, ◌&&◌, not, take}
use Rattle.extent_map.specs.extent_model.Extents.{covers}
use Rattle.block_pool.specs.Bits.{is_set}
use Rattle.block_pool.proofs.blocks.clear_extents.Given as goal

-- the bits of the extents so far are cleared
abbrev pub invariant-loop-extent : goal.invariant-loop-extent
invariant-loop-extent l = (p : ℕ) → is_set l.words p ≡ (is_set l.initial.words p && not (covers (take l.extent-index l.extents) (l.first + p)))
