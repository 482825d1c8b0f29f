use Rattle.write_jobs.proofs.Begins.{begins_job}
use Rattle.write_jobs.proofs.Ends.{finishes_job, gives_up_job, lands_job}
use Rattle.write_jobs.proofs.Staged.{spells_whole, stages_whole}
use Rattle.write_jobs.proofs.job_laws.jobs_come_and_go_on_the_device.Goals as goal

pub returns : goal.returns
returns c = record {
  begins = begins_job;
  finishes = finishes_job;
  lands = lands_job;
  given_up = gives_up_job;
  bytes = stages_whole;
  words = spells_whole;
}
