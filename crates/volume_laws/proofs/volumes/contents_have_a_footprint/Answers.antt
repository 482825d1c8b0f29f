-- the laws of the definitions
use Rattle.volume_laws.specs.FootprintLaws.{content-read, content-image}
use Rattle.volume_laws.proofs.volumes.contents_have_a_footprint.Goals as goal

pub returns-clause-footprint : goal.returns-clause-footprint
returns-clause-footprint c = content-read

pub returns-clause-beside : goal.returns-clause-beside
returns-clause-beside c = content-image
