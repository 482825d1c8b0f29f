use Rattle.world_write_laws.specs.FinishSteps.{finished_in_place}
use Rattle.world_write_laws.specs.PlaceSteps.{in_place}
use Rattle.world_write_laws.specs.ResizeSteps.{cut, truncated}
use Rattle.world_write_laws.proofs.jobs.files_are_changed.Goals as goal

pub returns-clause-truncated : goal.returns-clause-truncated
returns-clause-truncated c = truncated

pub returns-clause-cut : goal.returns-clause-cut
returns-clause-cut c = cut

pub returns-clause-in_place : goal.returns-clause-in_place
returns-clause-in_place c = in_place

pub returns-clause-finished : goal.returns-clause-finished
returns-clause-finished c = finished_in_place
