use Rattle.std.proofs.Common.{rules}
use Rattle.k_journal.proofs.records.put_records.Goals as goal

pub returns-clause-size : goal.returns-clause-size
returns-clause-size c = search rules

pub returns-clause-lent : goal.returns-clause-lent
returns-clause-lent c = search rules

pub returns-clause-steps : goal.returns-clause-steps
returns-clause-steps c = search rules

pub returns-clause-below : goal.returns-clause-below
returns-clause-below c = search rules

pub returns-clause-above : goal.returns-clause-above
returns-clause-above c = search rules

pub returns-clause-recorded : goal.returns-clause-recorded
returns-clause-recorded c = search rules

pub returns-clause-keeps : goal.returns-clause-keeps
returns-clause-keeps c = search rules

pub loop-index-preserved : goal.loop-index-preserved
loop-index-preserved c = search rules
