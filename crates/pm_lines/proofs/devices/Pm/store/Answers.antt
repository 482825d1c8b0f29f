use Rattle.std.proofs.Common.{arith}
use Rattle.pm_lines.proofs.LentCells.{length_is, cell_single, store_lines, store_is}
use Rattle.pm_lines.proofs.devices.Pm.store.Goals as goal

pub store-requires-clause-in_range : goal.store-requires-clause-in_range
store-requires-clause-in_range c = omega (arith, length_is _ _ _ c.self.invariant c.self.view_is, c.requires.in_device)

pub store-requires-clause-single : goal.store-requires-clause-single
store-requires-clause-single c = rw (cell_single _ _ _ c.self.invariant c.self.view_is _ c.requires.single) at c.requires.single

pub invariant_of-self : goal.invariant_of-self
invariant_of-self c =
    store_lines _ _ _ c.self.invariant c.self.view_is _ c.args.value _ c.requires.single c.store.ensures.size c.store.ensures.stored c.store.ensures.others

pub returns : goal.returns
returns c = store_is _ _ _ c.self.invariant c.self.view_is _ c.args.value _ c.requires.single c.store.ensures.size c.store.ensures.stored c.store.ensures.others
