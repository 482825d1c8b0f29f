use Rattle.run_laws.proofs.Left.{all_return, nobody_runs, set_up_goes_on}
use Rattle.run_laws.proofs.Rounds.{idle_begins, idle_can_run, is_nobodys, job_can_run, others_cannot}
use Rattle.run_laws.proofs.Some.{over_is_no_end, somebody_runs}
use Rattle.run_laws.proofs.courses.some_callers_can_run.Goals as goal

pub returns-clause-job : goal.returns-clause-job
returns-clause-job c = job_can_run

pub returns-clause-idle : goal.returns-clause-idle
returns-clause-idle c = idle_can_run

pub returns-clause-others : goal.returns-clause-others
returns-clause-others c = others_cannot

pub returns-clause-set_up : goal.returns-clause-set_up
returns-clause-set_up c = set_up_goes_on

pub returns-clause-all : goal.returns-clause-all
returns-clause-all c = all_return

pub returns-clause-nobody : goal.returns-clause-nobody
returns-clause-nobody c = nobody_runs

pub returns-clause-begins : goal.returns-clause-begins
returns-clause-begins c = idle_begins

pub returns-clause-somebody : goal.returns-clause-somebody
returns-clause-somebody c = somebody_runs

pub returns-clause-over : goal.returns-clause-over
returns-clause-over c = over_is_no_end

pub returns-clause-checks : goal.returns-clause-checks
returns-clause-checks c = is_nobodys
