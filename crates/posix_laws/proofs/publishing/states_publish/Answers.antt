use Rattle.posix_laws.specs.NodeSteps.{gone_kept, published_kept}
use Rattle.posix_laws.specs.PublishLaws.{publishing_begins, publishing_kept}
use Rattle.posix_laws.proofs.publishing.states_publish.Goals as goal

pub returns-clause-begins : goal.returns-clause-begins
returns-clause-begins c = publishing_begins

pub returns-clause-keeps : goal.returns-clause-keeps
returns-clause-keeps c = publishing_kept

pub returns-clause-gone : goal.returns-clause-gone
returns-clause-gone c = gone_kept

pub returns-clause-published : goal.returns-clause-published
returns-clause-published c = published_kept
