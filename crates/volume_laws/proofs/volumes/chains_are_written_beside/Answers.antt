-- the laws of the definitions
use Rattle.volume_laws.specs.SetLaws.{reads-written, reads-switched}
use Rattle.volume_laws.proofs.volumes.chains_are_written_beside.Goals as goal

pub returns-clause-free : goal.returns-clause-free
returns-clause-free c = reads-written

pub returns-clause-switched : goal.returns-clause-switched
returns-clause-switched c = reads-switched
