-- the laws of the definitions
use Rattle.volume_laws.specs.PoolLaws.{unused-held, unused-unchained}
use Rattle.volume_laws.proofs.uses.free_blocks_are_counted.Goals as goal

pub returns-clause-count : goal.returns-clause-count
returns-clause-count c = unused-held

pub returns-clause-unchained : goal.returns-clause-unchained
returns-clause-unchained c = unused-unchained
