use Rattle.run_laws.proofs.Checks.{acted_between, affords_lost, affords_whole, may_end, paid_is_paid_off}
use Rattle.run_laws.proofs.events.a_run_ends.Goals as goal

pub returns-clause-may : goal.returns-clause-may
returns-clause-may c = may_end

pub returns-clause-lost : goal.returns-clause-lost
returns-clause-lost c = affords_lost

pub returns-clause-cut : goal.returns-clause-cut
returns-clause-cut c = paid_is_paid_off

pub returns-clause-whole : goal.returns-clause-whole
returns-clause-whole c = affords_whole

pub returns-clause-acted : goal.returns-clause-acted
returns-clause-acted c = acted_between
