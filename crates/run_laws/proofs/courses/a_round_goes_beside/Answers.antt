use Rattle.run_laws.proofs.Rounds.{are_scheduled, calls_are_out, checks_beside, lacks_space_beside, leads_reaches, loses_beside, opens_beside, run_starts}
use Rattle.run_laws.proofs.courses.a_round_goes_beside.Goals as goal

pub returns-clause-starts : goal.returns-clause-starts
returns-clause-starts c = run_starts

pub returns-clause-opens : goal.returns-clause-opens
returns-clause-opens c = opens_beside

pub returns-clause-checks : goal.returns-clause-checks
returns-clause-checks c = checks_beside

pub returns-clause-lacks : goal.returns-clause-lacks
returns-clause-lacks c = lacks_space_beside

pub returns-clause-reaches : goal.returns-clause-reaches
returns-clause-reaches c = leads_reaches

pub returns-clause-calls : goal.returns-clause-calls
returns-clause-calls c = calls_are_out

pub returns-clause-scheduled : goal.returns-clause-scheduled
returns-clause-scheduled c = are_scheduled

pub returns-clause-loses : goal.returns-clause-loses
returns-clause-loses c = loses_beside
