use Rattle.write_end.proofs.Stopped.{keeps_gathered, keeps_published, leaves_stopped}
use Rattle.write_end.proofs.losing.publishing_leaves_what_is_out.Goals as goal

pub returns-clause-stopped : goal.returns-clause-stopped
returns-clause-stopped c = leaves_stopped

pub returns-clause-published : goal.returns-clause-published
returns-clause-published c = keeps_published

pub returns-clause-gathered : goal.returns-clause-gathered
returns-clause-gathered c = keeps_gathered
