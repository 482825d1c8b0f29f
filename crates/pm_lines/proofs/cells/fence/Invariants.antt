use Rattle.pm_model.specs.Cells.{fenced}
use Rattle.pm_lines.proofs.cells.fence.Given as goal
use Rattle.pm_lines.proofs.CellsLoops.{ChangedUpTo}

abbrev pub invariant-loop-cell : goal.invariant-loop-cell
invariant-loop-cell l = ChangedUpTo fenced 0 l.cell-index l.fn.cells l.cells
