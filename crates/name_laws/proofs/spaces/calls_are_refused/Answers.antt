-- the laws of the definitions
use Rattle.name_laws.specs.RefusalLaws.{mkdir-nodes, mkdir-lines}
use Rattle.name_laws.specs.RenameRefusals.{kinds-below, kinds-deep, rename-same}
use Rattle.name_laws.proofs.spaces.calls_are_refused.Goals as goal

pub returns-clause-nodes : goal.returns-clause-nodes
returns-clause-nodes c = mkdir-nodes

pub returns-clause-lines : goal.returns-clause-lines
returns-clause-lines c = mkdir-lines

pub returns-clause-below : goal.returns-clause-below
returns-clause-below c = kinds-below

pub returns-clause-same : goal.returns-clause-same
returns-clause-same c = rename-same

pub returns-clause-deep : goal.returns-clause-deep
returns-clause-deep c = kinds-deep
