use Rattle.pm_lines.proofs.HeldCells.{cell-no_pairs}
use Rattle.pm_lines.proofs.WordCells.{length-cells_of}
use Rattle.pm_lines.proofs.words.Words.of.Goals as goal

pub returns-clause-size : goal.returns-clause-size
returns-clause-size c = length-cells_of c.args.values.items _ 0

pub returns-clause-cells : goal.returns-clause-cells
returns-clause-cells c i = rw c.in_ok-pairs.ensures.items (cell-no_pairs c.args.values.items i)
