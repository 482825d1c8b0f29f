use Rattle.std.proofs.Common.{◌≡◌, ◌+◌, ◌*◌, ◌<◌, ℕ}
use Rattle.volume_laws.specs.image_model.Chains.{chain_word}
use Rattle.pm_lines.specs.pm_model.Images.{words_of}
use Rattle.map_chain.proofs.reading.is_block.Given as goal

-- the words before word j are right
abbrev pub invariant-loop-j : goal.invariant-loop-j
invariant-loop-j l = (m : ℕ) → m < l.j → words_of l.pm (512 * l.block + m) ≡ chain_word l.next l.extents m
