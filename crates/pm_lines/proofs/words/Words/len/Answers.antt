use Rattle.std.proofs.Common.{arith}
use Rattle.pm_lines.proofs.HeldCells.{length_is}
use Rattle.pm_lines.proofs.words.Words.len.Goals as goal

pub returns : goal.returns
returns c = omega (arith, c.len.ensures, length_is _ _ _ _ _ c.self.invariant c.self.view_is)
