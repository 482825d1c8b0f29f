use Rattle.posix_laws.specs.CutLaws.{names_cut, swept_cut}
use Rattle.posix_laws.proofs.publishing.names_commute_with_the_cut.Goals as goal

pub returns-clause-call : goal.returns-clause-call
returns-clause-call c = names_cut

pub returns-clause-sweep : goal.returns-clause-sweep
returns-clause-sweep c = swept_cut
