use Rattle.world_image_laws.specs.Beginnings.{mounts}
use Rattle.world_image_laws.proofs.beginning.words_are_mounted.Goals as goal

pub returns : goal.returns
returns c = mounts
