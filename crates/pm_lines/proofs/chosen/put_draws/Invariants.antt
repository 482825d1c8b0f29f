use Rattle.std.proofs.Common.{◌≡◌, ◌-◌, ◌*◌, ◌<◌, ◌≤◌, ℕ, true, length}
use Rattle.pm_model.specs.declared.Cell.TheVariants.{Single}
use Rattle.pm_model.specs.Cells.{cell, is_single}
use Rattle.pm_model.specs.Words.{word_at}
use Rattle.pm_lines.specs.Choices.{by_draws, state_after, twos_before}
use Rattle.pm_lines.proofs.chosen.put_draws.Given as goal

-- the words before are chosen, and of the others those with one candidate have it
abbrev pub invariant-loop-word : goal.invariant-loop-word
invariant-loop-word l = record {
  size : length l.bytes ≡ 8 * length l.words;
  within : l.from ≤ length l.words;
  chosen : (i : ℕ) → i < l.from → word_at l.bytes i ≡ by_draws l.seed l.words i;
  single : (i : ℕ) → l.from ≤ i → is_single (cell l.words i) ≡ true → cell l.words i ≡ Single (word_at l.bytes i);
  draws : l.draws ≡ state_after l.seed (twos_before l.words l.from);
}

abbrev pub decreases-loop-word : goal.decreases-loop-word
decreases-loop-word l = length l.words - l.from
