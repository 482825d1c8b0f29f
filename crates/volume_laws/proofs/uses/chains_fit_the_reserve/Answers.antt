-- the laws of the definitions
use Rattle.volume_laws.specs.BoundLaws.{reads-chain_bound}
use Rattle.volume_laws.proofs.uses.chains_fit_the_reserve.Goals as goal

pub returns : goal.returns
returns c = reads-chain_bound
