use Rattle.world_write_laws.specs.JobSteps.{begun, filled, finished, given_up, landed, lap}
use Rattle.world_write_laws.proofs.jobs.jobs_come_and_go.Goals as goal

pub returns-clause-begun : goal.returns-clause-begun
returns-clause-begun c = begun

pub returns-clause-filled : goal.returns-clause-filled
returns-clause-filled c = filled

pub returns-clause-landed : goal.returns-clause-landed
returns-clause-landed c = landed

pub returns-clause-finished : goal.returns-clause-finished
returns-clause-finished c = finished

pub returns-clause-given_up : goal.returns-clause-given_up
returns-clause-given_up c = given_up

pub returns-clause-lap : goal.returns-clause-lap
returns-clause-lap c = lap
