use Rattle.std.proofs.Common.{◌≡◌, ◌/◌, ◌%◌, ◌<◌, ℕ, get_or}
use Rattle.pm_lines.specs.pm_model.declared.Cell.TheVariants.{Single}
use Rattle.pm_lines.specs.pm_model.Cells.{cell}
use Rattle.map_chain.proofs.writing.is_held.Given as goal

-- the device holds the words before k
abbrev pub invariant-loop-k : goal.invariant-loop-k
invariant-loop-k l = (i : ℕ) → i / 8 ≡ l.line → i % 8 < l.k → cell l.pm i ≡ Single (get_or l.words (i % 8) 0)
