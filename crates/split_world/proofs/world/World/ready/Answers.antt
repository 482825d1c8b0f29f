use Rattle.std.proofs.Common.{subst}
use Rattle.world_begins.specs.world_parts.world_view_laws.Views.{WorldView}
use Rattle.world_begins.specs.world_parts.Answers.{IsReady}
use Rattle.split_world.proofs.world.World.ready.Goals as goal

pub returns : goal.returns
returns c = subst (λ (w : WorldView). IsReady w c.args.who c.ready_of.result) c.self.view_is c.ready_of.ensures
