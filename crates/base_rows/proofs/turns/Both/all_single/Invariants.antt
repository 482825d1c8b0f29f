use Rattle.std.proofs.Common.{◌≡◌, ◌<◌, ◌≤◌, ℕ, true}
use Rattle.pm_lines.specs.pm_model.Cells.{cell, is_single}
use Rattle.base_rows.proofs.turns.Both.all_single.Given as goal

abbrev pub invariant-loop-word : goal.invariant-loop-word
invariant-loop-word l = (i : ℕ) → l.first ≤ i → i < l.word → is_single (cell l.self.pm i) ≡ true
