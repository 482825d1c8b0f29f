use Rattle.thread_laws.proofs.Moving.{begun_may_leave, cut_keeps_job, filled_is_here, filled_keeps_job, finished_may_leave, found_may_leave, given_up_may_leave, gone_may_be_found, idle_may_begin, job_is_here, lost_may_leave}
use Rattle.thread_laws.proofs.works.each_answer_may_be_left.Goals as goal

pub returns-clause-idle : goal.returns-clause-idle
returns-clause-idle c = idle_may_begin

pub returns-clause-job : goal.returns-clause-job
returns-clause-job c = job_is_here

pub returns-clause-filled : goal.returns-clause-filled
returns-clause-filled c = filled_is_here

pub returns-clause-fills : goal.returns-clause-fills
returns-clause-fills c = filled_keeps_job

pub returns-clause-cut : goal.returns-clause-cut
returns-clause-cut c = cut_keeps_job

pub returns-clause-begun : goal.returns-clause-begun
returns-clause-begun c = begun_may_leave

pub returns-clause-finished : goal.returns-clause-finished
returns-clause-finished c = finished_may_leave

pub returns-clause-given_up : goal.returns-clause-given_up
returns-clause-given_up c = given_up_may_leave

pub returns-clause-lost : goal.returns-clause-lost
returns-clause-lost c = lost_may_leave

pub returns-clause-found : goal.returns-clause-found
returns-clause-found c = found_may_leave

pub returns-clause-gone : goal.returns-clause-gone
returns-clause-gone c = gone_may_be_found
