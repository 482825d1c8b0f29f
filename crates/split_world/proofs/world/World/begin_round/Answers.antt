use Rattle.std.proofs.Common.{◌∙◌, ap}
use Rattle.world_begins.specs.world_parts.world_view_laws.Views.{WorldView}
use Rattle.world_begins.proofs.world_parts_proofs.world_view_laws_proofs.Ending.{no_both}
use Rattle.split_world.proofs.world.World.begin_round.Goals as goal

pub returns-then-self-clause-begun : goal.returns-then-self-clause-begun
returns-then-self-clause-begun c awake = no_both c.self.inside.parts.lost c.if-self.true (ap (λ (w : WorldView). w.lost) c.self.view_is ∙ awake) _

pub returns-clause-gone : goal.returns-clause-gone
returns-clause-gone c gone = no_both c.self.inside.parts.lost (ap (λ (w : WorldView). w.lost) c.self.view_is ∙ gone) c.if-self.false _
