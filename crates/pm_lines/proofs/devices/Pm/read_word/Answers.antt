use Rattle.std.proofs.Common.{◌∙◌, sym, ap, arith}
use Rattle.pm_model.specs.Cells.{newest}
use Rattle.pm_lines.proofs.LentCells.{length_is, cell_home}
use Rattle.pm_lines.proofs.devices.Pm.read_word.Goals as goal

pub cell_of-requires : goal.cell_of-requires
cell_of-requires c = omega (arith, length_is _ _ _ c.self.invariant c.self.view_is, c.requires.in_device)

pub returns : goal.returns
returns c = c.newest.ensures ∙ ap newest (c.cell_of.ensures.cell ∙ sym (cell_home _ _ _ c.self.invariant c.self.view_is _ c.requires.home))
