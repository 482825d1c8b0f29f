use Rattle.world_begins.proofs.world_parts_proofs.Losing.{lost_kept}
use Rattle.split_world.proofs.world.World.lose.Goals as goal

pub invariant_of-self : goal.invariant_of-self
invariant_of-self c usable = lost_kept c.self.inside.parts (c.self.invariant usable)
