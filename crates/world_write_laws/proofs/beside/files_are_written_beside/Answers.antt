use Rattle.world_write_laws.specs.FinishSteps.{finished_beside}
use Rattle.world_write_laws.specs.PlaceSteps.{in_place_beside, place_is_beside}
use Rattle.world_write_laws.proofs.beside.files_are_written_beside.Goals as goal

pub returns-clause-in_place : goal.returns-clause-in_place
returns-clause-in_place c = in_place_beside

pub returns-clause-finished : goal.returns-clause-finished
returns-clause-finished c = finished_beside

pub returns-clause-weaker : goal.returns-clause-weaker
returns-clause-weaker c = place_is_beside
