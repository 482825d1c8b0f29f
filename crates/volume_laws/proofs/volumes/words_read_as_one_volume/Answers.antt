-- the laws of the definitions
use Rattle.volume_laws.specs.ReadingLaws.{reads-volume, reads-same}
use Rattle.volume_laws.proofs.volumes.words_read_as_one_volume.Goals as goal

pub returns-clause-one : goal.returns-clause-one
returns-clause-one c = reads-volume

pub returns-clause-alike : goal.returns-clause-alike
returns-clause-alike c = reads-same
