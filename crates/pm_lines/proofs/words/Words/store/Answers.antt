use Rattle.pm_lines.proofs.HeldCells.{within, has_room, store-held, store-size, store-at, store-others}
use Rattle.pm_lines.proofs.words.Words.store.Goals as goal

pub add_pair-requires-clause-in_range : goal.add_pair-requires-clause-in_range
add_pair-requires-clause-in_range c = within _ _ _ _ _ c.self.invariant c.self.view_is _ c.requires.in_range c.requires.single

pub add_pair-requires-clause-room : goal.add_pair-requires-clause-room
add_pair-requires-clause-room c = has_room _ _ _ _ _ c.self.invariant c.self.view_is _ c.requires.in_range c.requires.single

pub invariant_of-self : goal.invariant_of-self
invariant_of-self c = store-held _ _ _ _ _ c.self.invariant c.self.view_is _ c.requires.in_range c.requires.single _ _ _ _ c.add_pair.ensures.adds c.add_pair.ensures.capacity

pub returns-clause-size : goal.returns-clause-size
returns-clause-size c = store-size _ _ _ _ _ c.self.invariant c.self.view_is _ c.requires.in_range c.requires.single _ _ _ _ c.add_pair.ensures.adds c.add_pair.ensures.capacity

pub returns-clause-stored : goal.returns-clause-stored
returns-clause-stored c = store-at _ _ _ _ _ c.self.invariant c.self.view_is _ c.requires.in_range c.requires.single _ _ _ _ c.add_pair.ensures.adds c.add_pair.ensures.capacity

pub returns-clause-others : goal.returns-clause-others
returns-clause-others c = store-others _ _ _ _ _ c.self.invariant c.self.view_is _ c.requires.in_range c.requires.single _ _ _ _ c.add_pair.ensures.adds c.add_pair.ensures.capacity
