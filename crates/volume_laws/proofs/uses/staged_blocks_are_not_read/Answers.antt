-- the law of the definitions
use Rattle.volume_laws.specs.StagedLaws.{content-staged}
use Rattle.volume_laws.proofs.uses.staged_blocks_are_not_read.Goals as goal

pub returns : goal.returns
returns c = content-staged
