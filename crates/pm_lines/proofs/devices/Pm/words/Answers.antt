use Rattle.std.proofs.Common.{◌∙◌, sym}
use Rattle.pm_lines.proofs.LentCells.{length_is}
use Rattle.pm_lines.proofs.devices.Pm.words.Goals as goal

pub returns : goal.returns
returns c = c.len.ensures ∙ sym (length_is _ _ _ c.self.invariant c.self.view_is)
