use Rattle.std.proofs.Common.{◌<◌, ◌≤◌, ℕ}
use Rattle.pm_lines.specs.Pairs.{HasNoPair}
use Rattle.pm_lines.proofs.pairs.next_pair.Given as goal

abbrev pub invariant-loop-word : goal.invariant-loop-word
invariant-loop-word l = (i : ℕ) → l.from ≤ i → i < l.word → HasNoPair l.pairs i
