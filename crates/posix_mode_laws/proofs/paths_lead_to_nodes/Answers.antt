use Rattle.posix_mode_laws.specs.Leading.{paths_lead}
use Rattle.posix_mode_laws.proofs.paths_lead_to_nodes.Goals as goal

pub returns : goal.returns
returns c = paths_lead
