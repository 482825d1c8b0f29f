use Rattle.write_end.proofs.Crashed.{keeps_crashed, keeps_home}
use Rattle.write_end.proofs.LogLines.{lines_hold_out}
use Rattle.write_end.proofs.crashes.a_crash_keeps_the_promise.Goals as goal

pub returns-clause-crashed : goal.returns-clause-crashed
returns-clause-crashed c = keeps_crashed

pub returns-clause-home : goal.returns-clause-home
returns-clause-home c = keeps_home

pub returns-clause-lines : goal.returns-clause-lines
returns-clause-lines c = lines_hold_out
