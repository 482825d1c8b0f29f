use Rattle.std.proofs.Common.{rules}
use Rattle.k_journal.proofs.phases.set_count.Goals as goal

pub returns-clause-size : goal.returns-clause-size
returns-clause-size c = search rules

pub returns-clause-lent : goal.returns-clause-lent
returns-clause-lent c = search rules

pub returns-clause-steps : goal.returns-clause-steps
returns-clause-steps c = search rules

pub returns-clause-others : goal.returns-clause-others
returns-clause-others c = search rules

pub returns-clause-torn : goal.returns-clause-torn
returns-clause-torn c = search rules

pub returns-clause-took : goal.returns-clause-took
returns-clause-took c = search rules

pub returns-clause-set : goal.returns-clause-set
returns-clause-set c = search rules

pub returns-clause-keeps : goal.returns-clause-keeps
returns-clause-keeps c = search rules
