use Rattle.world_write_laws.specs.HolesSteps.{filled_holes}
use Rattle.world_write_laws.proofs.holes.holes_get_blocks.Goals as goal

pub returns : goal.returns
returns c = filled_holes
