use Rattle.std.specs.Prelude.{◌^◌, ℕ, refl}
use Rattle.std.proofs.Common.{◌∙◌, ap, sym, subst, arith}
use Rattle.world_rounds.specs.round_laws.pm_model.Powers.{Steps, Supply}
use Rattle.world_begins.specs.world_parts.in_flight.live_model.Standing.{JobOut}
use Rattle.world_begins.specs.world_parts.world_view_laws.Begins.{IsFilledOut}
use Rattle.world_begins.specs.world_parts.in_flight.world_image_laws.Starts.{has_setting}
use Rattle.world_begins.proofs.world_parts_proofs.world_view_laws_proofs.Ending.{no_both}
use Rattle.world_begins.specs.world_parts.Answers.{IsFinished}
use Rattle.world_begins.specs.world_parts.world_view_laws.Jobs.{IsOfWorld, LosesFinish}
use Rattle.world_begins.specs.world_parts.world_view_laws.Views.{WorldView}
use Rattle.world_begins.specs.world_parts.Seen.{seen}
use Rattle.world_rounds.proofs.Lost.{loses_first, out_lost}
use Rattle.split_world.proofs.world.World.finish.Goals as goal

none : (n : ℕ) (power : Supply) → Steps n power power
none n power = record { given = refl; on_before = λ on. on; later = omega arith; bound = omega arith }

pub returns-then-self-clause-steps : goal.returns-then-self-clause-steps
returns-then-self-clause-steps c = none (2 ^ 26) c.args.power.now

pub returns-then-not-on-clause-steps : goal.returns-then-not-on-clause-steps
returns-then-not-on-clause-steps c = none (2 ^ 26) c.args.power.now

pub returns-clause-steps : goal.returns-clause-steps
returns-clause-steps c = let few = c.finish_on.ensures.steps in record { given = few.given; on_before = few.on_before; later = few.later; bound = omega (arith, few.bound) }

pub returns-clause-spared : goal.returns-clause-spared
returns-clause-spared c strict =
    let parts = c.self.inside.parts in
    c.finish_on.ensures.spared (sym (has_setting parts.tree parts.shape parts.mode).1 ∙ ap (λ (w : WorldView). w.start.mode) c.self.view_is ∙ strict)

pub returns-clause-off : goal.returns-clause-off
returns-clause-off c lost = no_both c.self.inside.parts.lost (ap (λ (w : WorldView). w.lost) c.self.view_is ∙ lost) c.if-self.false _

pub returns-then-self-clause-finished : goal.returns-then-self-clause-finished
returns-then-self-clause-finished c =
    subst (λ (w : WorldView). (q : JobOut) → IsFilledOut w q c.args.job → LosesFinish c.args.slot q w (seen c.finish_off.new.p) c.args.power.now) c.self.view_is
    (λ q is. c.finish_off.ensures.finished q is c.args.power.now)

pub finish_off-requires-then-not-on-clause-job : goal.finish_off-requires-then-not-on-clause-job
finish_off-requires-then-not-on-clause-job c =
    let own = subst (λ (w : WorldView). IsOfWorld w c.args.job) (sym c.self.view_is) c.requires.job in
    subst (λ (w : WorldView). IsOfWorld w c.args.job) (sym (ap seen c.lose_one.ensures.lost)) (own.0, out_lost c.self.inside.parts c.if-self.false c.args.slot own.0 c.args.job own.1)

pub returns-then-not-on-clause-finished : goal.returns-then-not-on-clause-finished
returns-then-not-on-clause-finished c =
    subst (λ (w : WorldView). (q : JobOut) → IsFilledOut w q c.args.job → LosesFinish c.args.slot q w (seen c.finish_off-then-not-on.new.p) c.args.power.now) c.self.view_is
    (λ q is. loses_first c.self.inside.parts c.if-self.false c.args.slot q c.args.job c.finish_off-then-not-on.new.p c.args.power.now (sym c.on.ensures ∙ c.if-not-on.true)
    (c.finish_off-then-not-on.ensures.acts ∙ ap (λ p. p.acts) c.lose_one.ensures.lost)
    (subst (λ (w : WorldView). LosesFinish c.args.slot q w (seen c.finish_off-then-not-on.new.p) c.args.power.now) (ap seen c.lose_one.ensures.lost)
    (c.finish_off-then-not-on.ensures.finished q (subst (λ (w : WorldView). IsFilledOut w q c.args.job) (sym (ap seen c.lose_one.ensures.lost)) (out_lost c.self.inside.parts c.if-self.false c.args.slot q c.args.job is)) c.args.power.now)))

pub returns-clause-finished : goal.returns-clause-finished
returns-clause-finished c =
    subst (λ (w : WorldView). IsFinished c.args.job c.args.slot w (seen c.finish_on.new.p) c.finish_on.new.power c.finish_on.result) c.self.view_is c.finish_on.ensures.finished

pub finish_on-requires-clause-on : goal.finish_on-requires-clause-on
finish_on-requires-clause-on c = sym c.on.ensures ∙ c.if-not-on.false
