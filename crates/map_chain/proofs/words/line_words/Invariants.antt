use Rattle.std.proofs.Common.{◌≡◌, ◌+◌, ◌*◌, ◌<◌, ℕ, get_or, length}
use Rattle.volume_laws.specs.image_model.Chains.{chain_word}
use Rattle.map_chain.proofs.words.line_words.Given as goal

-- the words before k are there
abbrev pub invariant-loop-k : goal.invariant-loop-k
invariant-loop-k l = record {
  size : length l.words ≡ 8;
  front : (j : ℕ) → j < l.k → get_or l.words j 0 ≡ chain_word l.next l.extents (8 * l.line + j);
}
