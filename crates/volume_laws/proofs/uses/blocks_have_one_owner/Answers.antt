-- the laws of the definitions
use Rattle.volume_laws.specs.OwnerLaws.{one_owner, no_chain_has}
use Rattle.volume_laws.proofs.uses.blocks_have_one_owner.Goals as goal

pub returns-clause-file : goal.returns-clause-file
returns-clause-file c = one_owner

pub returns-clause-no_chain : goal.returns-clause-no_chain
returns-clause-no_chain c = no_chain_has
