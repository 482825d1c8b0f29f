use Rattle.log_laws.proofs.Kept.{held-same, log-carried, log-same}
use Rattle.log_laws.proofs.replays.the_log_keeps_its_rules.Goals as goal

pub returns-clause-same : goal.returns-clause-same
returns-clause-same c = log-same

pub returns-clause-held : goal.returns-clause-held
returns-clause-held c = held-same

pub returns-clause-carried : goal.returns-clause-carried
returns-clause-carried c = log-carried
