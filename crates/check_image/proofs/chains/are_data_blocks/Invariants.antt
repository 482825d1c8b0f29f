use Rattle.std.proofs.Common.{◌≡◌, ℕ, ◌<◌, true, get_or}
use Rattle.k_journal.specs.layout_model.Places.{is_data_block}
use Rattle.check_image.proofs.chains.are_data_blocks.Given as goal

-- the blocks so far are data blocks
abbrev pub invariant-loop-block : goal.invariant-loop-block
invariant-loop-block l = (k d : ℕ) → k < l.block-index → is_data_block l.geometry (get_or l.blocks k d) ≡ true
