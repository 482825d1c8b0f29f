use Rattle.live_step_laws.proofs.Begun.{stands_begun}
use Rattle.live_step_laws.proofs.begins.a_job_begins_in_flight.Goals as goal

pub returns : goal.returns
returns c = stands_begun
