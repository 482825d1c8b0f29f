use Rattle.commute_laws.specs.Needs.{AreAfforded-finished, AreAfforded-step}
use Rattle.commute_laws.specs.Rooms.{room-step}
use Rattle.commute_laws.proofs.frames.writes_find_their_room.Goals as goal

pub returns-clause-left : goal.returns-clause-left
returns-clause-left c = room-step

pub returns-clause-afforded : goal.returns-clause-afforded
returns-clause-afforded c = AreAfforded-step

pub returns-clause-ended : goal.returns-clause-ended
returns-clause-ended c = AreAfforded-finished
