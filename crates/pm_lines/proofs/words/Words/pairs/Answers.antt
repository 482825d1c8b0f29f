use Rattle.pm_lines.proofs.HeldCells.{are_pairs}
use Rattle.pm_lines.proofs.words.Words.pairs.Goals as goal

pub returns : goal.returns
returns c = rw c.deref.ensures.value (are_pairs _ _ _ _ _ c.self.invariant c.self.view_is)
