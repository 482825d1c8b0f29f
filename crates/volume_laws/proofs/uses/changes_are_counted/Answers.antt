-- the laws of the definitions
use Rattle.volume_laws.specs.OwnerLaws.{owners-set, once-set}
use Rattle.volume_laws.specs.PoolLaws.{freed-set}
use Rattle.volume_laws.proofs.uses.changes_are_counted.Goals as goal

pub returns-clause-uses : goal.returns-clause-uses
returns-clause-uses c = owners-set

pub returns-clause-once : goal.returns-clause-once
returns-clause-once c = once-set

pub returns-clause-freed : goal.returns-clause-freed
returns-clause-freed c = freed-set
