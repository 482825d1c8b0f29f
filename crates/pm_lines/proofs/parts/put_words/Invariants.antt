use Rattle.std.proofs.Common.{◌≡◌, ◌+◌, ◌<◌, ◌≤◌, ℕ, true, length}
use Rattle.pm_model.specs.declared.Cell.TheVariants.{Two}
use Rattle.pm_model.specs.Cells.{cell, is_single}
use Rattle.pm_lines.specs.Pairs.{pair_at, ArePairsOf}
use Rattle.pm_lines.proofs.parts.put_words.Given as goal

-- the words with one candidate have it, and those of the pairs before have their two
abbrev pub invariant-loop-pair : goal.invariant-loop-pair
invariant-loop-pair l = record {
  pairs : ArePairsOf l.part l.pair-items;
  size : length l.words ≡ length l.fn.words;
  single : (i : ℕ) → i < length l.part → is_single (cell l.part i) ≡ true → cell l.words (l.first + i) ≡ cell l.part i;
  done : (k : ℕ) → k < l.pair-index → cell l.words (l.first + (pair_at l.pair-items k).word) ≡ Two (pair_at l.pair-items k).old (pair_at l.pair-items k).new;
  left : (k : ℕ) → l.pair-index ≤ k → k < length l.pair-items → is_single (cell l.words (l.first + (pair_at l.pair-items k).word)) ≡ true;
  below : (i : ℕ) → i < l.first → cell l.words i ≡ cell l.fn.words i;
  above : (i : ℕ) → l.first + length l.part ≤ i → cell l.words i ≡ cell l.fn.words i;
}
