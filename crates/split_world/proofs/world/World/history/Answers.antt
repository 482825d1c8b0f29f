use Rattle.std.proofs.Common.{◌≤◌, ◌∙◌, ap, length, subst}
use Rattle.world_rounds.specs.round_laws.posix_spec.Run.{IsLegal}
use Rattle.world_rounds.specs.round_laws.posix_spec.Scripted.{Scripted}
use Rattle.world_begins.specs.world_parts.world_view_laws.Views.{WorldView}
use Rattle.split_world.proofs.world.World.history.Goals as goal

pub returns-clause-legal : goal.returns-clause-legal
returns-clause-legal c usable =
    subst (λ (w : WorldView). IsLegal w.start w.history) c.self.view_is (c.self.invariant (ap (λ (w : WorldView). w.usable) c.self.view_is ∙ usable)).world.legal

pub returns-clause-scripted : goal.returns-clause-scripted
returns-clause-scripted c usable =
    subst (λ (w : WorldView). Scripted w.scripts w.history) c.self.view_is (c.self.invariant (ap (λ (w : WorldView). w.usable) c.self.view_is ∙ usable)).world.scripted

pub returns-clause-settled : goal.returns-clause-settled
returns-clause-settled c usable =
    subst (λ (w : WorldView). w.settled ≤ length w.history) c.self.view_is (c.self.invariant (ap (λ (w : WorldView). w.usable) c.self.view_is ∙ usable)).world.counted.settled
