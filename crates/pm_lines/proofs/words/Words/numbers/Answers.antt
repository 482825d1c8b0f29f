use Rattle.std.proofs.Common.{sym}
use Rattle.pm_lines.proofs.HeldCells.{length_is, cell_none, none_from_single}
use Rattle.pm_lines.proofs.words.Words.numbers.Goals as goal

pub returns-clause-size : goal.returns-clause-size
returns-clause-size c = rw c.deref.ensures.value (sym (length_is _ _ _ _ _ c.self.invariant c.self.view_is))

pub returns-clause-single : goal.returns-clause-single
returns-clause-single c i single =
    rw c.deref.ensures.value (cell_none _ _ _ _ _ c.self.invariant c.self.view_is i (none_from_single _ _ _ _ _ c.self.invariant c.self.view_is i single))
