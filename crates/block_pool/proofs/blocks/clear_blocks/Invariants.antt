use Rattle.std.proofs.Common.{◌≡◌, ℕ, ◌+◌, ◌&&◌, not, take}
use Rattle.extent_map.specs.extent_model.Counts.{count_below}
use Rattle.block_pool.specs.FreeSets.{is_among}
use Rattle.block_pool.specs.Bits.{is_set}
use Rattle.block_pool.proofs.blocks.clear_blocks.Given as goal

-- the bits of the blocks so far are cleared, and each counts one less
abbrev pub invariant-loop-block : goal.invariant-loop-block
invariant-loop-block l = record {
  bits : (p : ℕ) → is_set l.words p ≡ (is_set l.initial.words p && not (is_among (take l.block-index l.blocks) (l.first + p)));
  count : count_below (is_set l.words) l.count + l.block-index ≡ count_below (is_set l.initial.words) l.count;
}
