use Rattle.std.proofs.Common.{subst}
use Rattle.world_begins.specs.world_parts.in_flight.live_model.Standing.{JobOut}
use Rattle.world_begins.specs.world_parts.world_view_laws.Begins.{IsFilledOut}
use Rattle.world_begins.specs.world_parts.world_view_laws.Jobs.{GivesUp}
use Rattle.world_begins.specs.world_parts.world_view_laws.Views.{WorldView}
use Rattle.world_begins.specs.world_parts.Seen.{seen}
use Rattle.split_world.proofs.world.World.give_up.Goals as goal

pub returns-then-self : goal.returns-then-self
returns-then-self c = record { given = subst (λ (w : WorldView). (q : JobOut) → IsFilledOut w q c.args.job → GivesUp c.args.full q w (seen c.give_up_off.new.p)) c.self.view_is c.give_up_off.ensures.given }

pub returns : goal.returns
returns c = record { given = subst (λ (w : WorldView). (q : JobOut) → IsFilledOut w q c.args.job → GivesUp c.args.full q w (seen c.give_up_on.new.p)) c.self.view_is c.give_up_on.ensures.given }
