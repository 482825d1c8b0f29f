use Rattle.std.proofs.Common.{◌≡◌, ◌+◌, ◌*◌, ◌<◌, ℕ}
use Rattle.volume_laws.specs.image_model.Chains.{chain_word}
use Rattle.volume_laws.specs.image_model.Placed.{block_at, part_at}
use Rattle.pm_lines.specs.pm_model.Images.{words_of}
use Rattle.map_chain.proofs.reading.is_spelled.Given as goal

-- the blocks before block k are right
abbrev pub invariant-loop-k : goal.invariant-loop-k
invariant-loop-k l =
    (m j : ℕ) → m < l.k → j < 512 → words_of l.pm (512 * block_at l.blocks m + j) ≡ chain_word (block_at l.blocks (m + 1)) (part_at l.extents m) j
