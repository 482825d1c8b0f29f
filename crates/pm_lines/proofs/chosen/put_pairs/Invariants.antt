use Rattle.std.proofs.Common.{◌≡◌, ◌*◌, ◌<◌, ℕ, true, length}
use Rattle.pm_model.specs.declared.Cell.TheVariants.{Single}
use Rattle.pm_model.specs.Cells.{cell, is_single}
use Rattle.pm_model.specs.Words.{word_at}
use Rattle.pm_lines.specs.Choices.{by_parity}
use Rattle.pm_lines.specs.Pairs.{pair_at, ArePairsOf}
use Rattle.pm_lines.proofs.chosen.put_pairs.Given as goal

-- the words of the pairs before are chosen, those with one candidate have it
abbrev pub invariant-loop-pair : goal.invariant-loop-pair
invariant-loop-pair l = record {
  pairs : ArePairsOf l.words l.pair-items;
  size : length l.bytes ≡ 8 * length l.words;
  chosen : (k : ℕ) → k < l.pair-index → word_at l.bytes (pair_at l.pair-items k).word ≡ by_parity l.even l.odd l.words (pair_at l.pair-items k).word;
  single : (i : ℕ) → is_single (cell l.words i) ≡ true → cell l.words i ≡ Single (word_at l.bytes i);
}
