use Rattle.thread_laws.proofs.ClosedLines.{closed_crash, closed_holds, full_is_claimed}
use Rattle.thread_laws.proofs.closes.a_closed_log_is_the_worlds.Goals as goal

pub returns-clause-crash : goal.returns-clause-crash
returns-clause-crash c = closed_crash

pub returns-clause-holds : goal.returns-clause-holds
returns-clause-holds c = closed_holds

pub returns-clause-full : goal.returns-clause-full
returns-clause-full c = full_is_claimed
