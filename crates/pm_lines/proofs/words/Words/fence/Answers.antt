use Rattle.std.proofs.Common.{sym, ◌∙◌, ap}
use Rattle.pm_model.specs.Cells.{fenced}
use Rattle.pm_lines.proofs.HeldCells.{length_is, cell_is}
use Rattle.pm_lines.proofs.WordCells.{length-cells_of, cell-cells_of}
use Rattle.pm_lines.proofs.words.Words.fence.Goals as goal

pub returns-clause-size : goal.returns-clause-size
returns-clause-size c = length-cells_of _ _ 0 ∙ c.fence_pairs.ensures.size ∙ sym (length_is _ _ _ _ _ c.self.invariant c.self.view_is)

pub returns-clause-cells : goal.returns-clause-cells
returns-clause-cells c i =
    cell-cells_of _ _ 0 i c.fence_pairs.ensures.linked ∙ c.fence_pairs.ensures.cells i ∙ ap fenced (sym (cell_is _ _ _ _ _ c.self.invariant c.self.view_is i))
