use Rattle.thread_laws.proofs.Working.{comes_by_job, comes_by_look, comes_first, ends_by_finish, ends_by_full, ends_by_look, ends_unappended, ends_unfilled, own_is_bounded}
use Rattle.thread_laws.proofs.works.a_worker_goes_on.Goals as goal

pub returns-clause-first : goal.returns-clause-first
returns-clause-first c = comes_first

pub returns-clause-look : goal.returns-clause-look
returns-clause-look c = comes_by_look

pub returns-clause-job : goal.returns-clause-job
returns-clause-job c = comes_by_job

pub returns-clause-ends : goal.returns-clause-ends
returns-clause-ends c = ends_by_look

pub returns-clause-unfilled : goal.returns-clause-unfilled
returns-clause-unfilled c = ends_unfilled

pub returns-clause-unappended : goal.returns-clause-unappended
returns-clause-unappended c = ends_unappended

pub returns-clause-full : goal.returns-clause-full
returns-clause-full c = ends_by_full

pub returns-clause-finish : goal.returns-clause-finish
returns-clause-finish c = ends_by_finish

pub returns-clause-bound : goal.returns-clause-bound
returns-clause-bound c = own_is_bounded
