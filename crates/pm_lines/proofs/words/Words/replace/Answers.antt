use Rattle.std.proofs.Common.{arith}
use Rattle.pm_lines.proofs.HeldCells.{within, replace-held, replace-size, replace-at, replace-others}
use Rattle.pm_lines.proofs.words.Words.replace.Goals as goal

pub index_mut-requires : goal.index_mut-requires
index_mut-requires c = omega (arith, within _ _ _ _ _ c.self.invariant c.self.view_is _ c.requires.in_range c.requires.single)

pub invariant_of-self : goal.invariant_of-self
invariant_of-self c = replace-held _ _ _ _ _ c.self.invariant c.self.view_is _ c.requires.in_range c.requires.single _

pub returns-clause-size : goal.returns-clause-size
returns-clause-size c = replace-size _ _ _ _ _ c.self.invariant c.self.view_is _ c.requires.in_range c.requires.single _

pub returns-clause-word : goal.returns-clause-word
returns-clause-word c = replace-at _ _ _ _ _ c.self.invariant c.self.view_is _ c.requires.in_range c.requires.single _

pub returns-clause-others : goal.returns-clause-others
returns-clause-others c = replace-others _ _ _ _ _ c.self.invariant c.self.view_is _ c.requires.in_range c.requires.single _
