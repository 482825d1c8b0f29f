use Rattle.std.proofs.Common.{arith}
use Rattle.pm_lines.proofs.LentCells.{length_is, flush_lines, flush_is}
use Rattle.pm_lines.proofs.devices.Pm.mark.Goals as goal

pub flush-requires : goal.flush-requires
flush-requires c = omega (arith, length_is _ _ _ c.self.invariant c.self.view_is, c.requires.in_device)

pub invariant_of-self : goal.invariant_of-self
invariant_of-self c =
    flush_lines _ _ _ c.self.invariant c.self.view_is c.args.line _ c.requires.home c.flush.ensures.size c.flush.ensures.words c.flush.ensures.others

pub returns : goal.returns
returns c = flush_is _ _ _ c.self.invariant c.self.view_is c.args.line _ c.requires.home c.flush.ensures.size c.flush.ensures.words c.flush.ensures.others
