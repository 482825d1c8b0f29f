use Rattle.world_image_laws.specs.Beginnings.{begins}
use Rattle.world_image_laws.proofs.beginning.a_mounted_volume_begins.Goals as goal

pub returns : goal.returns
returns c = begins
