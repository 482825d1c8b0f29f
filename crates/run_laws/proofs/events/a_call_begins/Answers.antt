use Rattle.run_laws.proofs.Begins.{begin_loses, call_returns, job_begins, round_ends}
use Rattle.run_laws.proofs.events.a_call_begins.Goals as goal

pub returns-clause-returned : goal.returns-clause-returned
returns-clause-returned c = call_returns

pub returns-clause-job : goal.returns-clause-job
returns-clause-job c = job_begins

pub returns-clause-over : goal.returns-clause-over
returns-clause-over c = round_ends

pub returns-clause-lost : goal.returns-clause-lost
returns-clause-lost c = begin_loses
