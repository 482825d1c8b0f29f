use Rattle.volume_laws.specs.ChainLaws.{reads_back, has_one_chain}
use Rattle.map_chain.proofs.chain_reads_back.Goals as goal

pub returns-clause-back : goal.returns-clause-back
returns-clause-back c = reads_back

pub returns-clause-one : goal.returns-clause-one
returns-clause-one c = has_one_chain
