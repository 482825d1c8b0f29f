use Rattle.round_laws.proofs.EndsLines.{may_end}
use Rattle.round_laws.proofs.Ready.{ends_ready}
use Rattle.round_laws.proofs.ends.the_lines_of_a_round_come_home.Goals as goal

pub returns-clause-may : goal.returns-clause-may
returns-clause-may c = may_end

pub returns-clause-ready : goal.returns-clause-ready
returns-clause-ready c = ends_ready c.log_lines_come_home.ensures c.a_crash_keeps_the_promise.ensures.lines c.what_stands_may_be_gathered.ensures
