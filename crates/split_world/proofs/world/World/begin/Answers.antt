use Rattle.std.proofs.Common.{subst, sym}
use Rattle.world_begins.specs.world_parts.world_view_laws.Views.{HasNone, WorldView}
use Rattle.split_world.proofs.world.World.begin.Goals as goal

pub begin_next-requires-clause-none : goal.begin_next-requires-clause-none
begin_next-requires-clause-none c = subst (λ (w : WorldView). HasNone w c.args.who) (sym c.self.view_is) c.requires.none
