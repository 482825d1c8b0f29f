use Rattle.pm_model.specs.Cells.{flushed}
use Rattle.pm_lines.proofs.cells.flush.Given as goal
use Rattle.pm_lines.proofs.CellsLoops.{ChangedUpTo}

abbrev pub invariant-loop-word : goal.invariant-loop-word
invariant-loop-word l = ChangedUpTo flushed l.first l.word l.fn.cells l.cells
