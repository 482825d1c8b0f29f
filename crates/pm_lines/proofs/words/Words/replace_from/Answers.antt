use Rattle.std.proofs.Common.{arith}
use Rattle.pm_lines.proofs.HeldCells.{length_is, copy-held, copy-size, copy-inside, copy-below, copy-above}
use Rattle.pm_lines.proofs.words.Words.replace_from.Goals as goal

pub copy_numbers-requires : goal.copy_numbers-requires
copy_numbers-requires c = omega (arith, c.requires.in_range, length_is _ _ _ _ _ c.self.invariant c.self.view_is)

pub invariant_of-self : goal.invariant_of-self
invariant_of-self c = copy-held _ _ _ _ _ c.self.invariant c.self.view_is c.args.first _ _ c.requires.single c.requires.in_range c.copy_numbers.ensures

pub returns-clause-size : goal.returns-clause-size
returns-clause-size c = copy-size _ _ _ _ _ c.self.invariant c.self.view_is c.args.first _ _ c.requires.single c.requires.in_range c.copy_numbers.ensures

pub returns-clause-inside : goal.returns-clause-inside
returns-clause-inside c = copy-inside _ _ _ _ _ c.self.invariant c.self.view_is c.args.first _ _ c.requires.single c.requires.in_range c.copy_numbers.ensures

pub returns-clause-below : goal.returns-clause-below
returns-clause-below c = copy-below _ _ _ _ _ c.self.invariant c.self.view_is c.args.first _ _ c.requires.single c.requires.in_range c.copy_numbers.ensures

pub returns-clause-above : goal.returns-clause-above
returns-clause-above c = copy-above _ _ _ _ _ c.self.invariant c.self.view_is c.args.first _ _ c.requires.single c.requires.in_range c.copy_numbers.ensures
