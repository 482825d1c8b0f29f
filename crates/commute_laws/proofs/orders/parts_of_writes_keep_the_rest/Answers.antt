use Rattle.commute_laws.specs.Leaves.{Fits-leaves, KeepsView-leaves, room-leaves}
use Rattle.commute_laws.proofs.orders.parts_of_writes_keep_the_rest.Goals as goal

pub returns-clause-others : goal.returns-clause-others
returns-clause-others c = KeepsView-leaves

pub returns-clause-room : goal.returns-clause-room
returns-clause-room c = room-leaves

pub returns-clause-fits : goal.returns-clause-fits
returns-clause-fits c = Fits-leaves
