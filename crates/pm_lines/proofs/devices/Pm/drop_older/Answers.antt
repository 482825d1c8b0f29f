use Rattle.pm_lines.proofs.LentCells.{fence_lines, fence_is}
use Rattle.pm_lines.proofs.devices.Pm.drop_older.Goals as goal

pub invariant_of-self : goal.invariant_of-self
invariant_of-self c = fence_lines _ _ _ c.self.invariant c.self.view_is _ c.fence.ensures.size c.fence.ensures.cells

pub returns : goal.returns
returns c = fence_is _ _ _ c.self.invariant c.self.view_is _ c.fence.ensures.size c.fence.ensures.cells
