use Rattle.std.proofs.Common.{◌+◌, ◌*◌, length, refl, sym, ◌∙◌, subst, inl}
use Rattle.log_laws.specs.pm_model.Images.{Follows, Follows-same}
use Rattle.log_laws.specs.pm_model.Powers.{Steps}
use Rattle.fsync_relink.specs.Logged.{HasSameContent}
use Rattle.fsync_relink.specs.Publishes.{MayPublish}
use Rattle.fsync_relink.proofs.PublishedLaws.{done-answer, failed-answer, lost-answer}
use Rattle.fsync_relink.proofs.WayLaws.{steps-here}
use Rattle.fsync_relink.proofs.publishing.publishing.publish.Goals as goal

pub returns-then-is_lost-clause-steps : goal.returns-then-is_lost-clause-steps
returns-then-is_lost-clause-steps c = steps-here (32768 * (length c.args.overlay.now.runs + 1)) c.args.power.now

pub returns-then-is_lost-clause-answer : goal.returns-then-is_lost-clause-answer
returns-then-is_lost-clause-answer c = (refl, inl refl)

pub returns-then-is_lost-clause-content : goal.returns-then-is_lost-clause-content
returns-then-is_lost-clause-content c =
    Follows-same (HasSameContent c.args.ino c.args.size c.args.overlay.now.runs c.args.k.now.volume) c.args.k.now.cells (λ f logged. refl)

pub publish_runs-requires-clause-on : goal.publish_runs-requires-clause-on
publish_runs-requires-clause-on c = sym c.is_lost.ensures.lost ∙ c.if-is_lost.false

pub publish_runs-requires-clause-unbatched : goal.publish_runs-requires-clause-unbatched
publish_runs-requires-clause-unbatched c = c.requires.unbatched (sym c.is_lost.ensures.lost ∙ c.if-is_lost.false)

pub publish_runs-requires-clause-order : goal.publish_runs-requires-clause-order
publish_runs-requires-clause-order c = c.is_lost.ensures.order (sym c.is_lost.ensures.lost ∙ c.if-is_lost.false)

pub publish_runs-requires-clause-may : goal.publish_runs-requires-clause-may
publish_runs-requires-clause-may c =
    subst (λ rs. MayPublish c.args.ino c.args.size rs c.args.k.now) (sym c.runs.ensures.all) (c.requires.may (sym c.is_lost.ensures.lost ∙ c.if-is_lost.false))

pub returns-in-Err-clause-steps : goal.returns-in-Err-clause-steps
returns-in-Err-clause-steps c =
    subst (λ rs. Steps (32768 * (length rs + 1)) c.args.power.now c.publish_runs.new.power) c.runs.ensures.all c.in-Err.ensures.steps

pub returns-in-Err-clause-answer : goal.returns-in-Err-clause-answer
returns-in-Err-clause-answer c =
    failed-answer c.args.ino c.args.size c.args.overlay.now c.runs.result.now c.args.k.now c.publish_runs.new.k c.in-Err.error c.runs.ensures.all c.in-Err.ensures.answer

pub returns-in-Err-clause-content : goal.returns-in-Err-clause-content
returns-in-Err-clause-content c =
    subst (λ rs. Follows (HasSameContent c.args.ino c.args.size rs c.args.k.now.volume) c.args.k.now.cells c.publish_runs.new.k.cells) c.runs.ensures.all c.in-Err.ensures.content

pub returns-in-PowerLost-clause-steps : goal.returns-in-PowerLost-clause-steps
returns-in-PowerLost-clause-steps c =
    subst (λ rs. Steps (32768 * (length rs + 1)) c.args.power.now c.publish_runs.new.power) c.runs.ensures.all c.in-Ok.ensures.steps

pub returns-in-PowerLost-clause-answer : goal.returns-in-PowerLost-clause-answer
returns-in-PowerLost-clause-answer c =
    lost-answer c.args.ino c.args.size c.args.overlay.now c.runs.result.now c.args.k.now c.publish_runs.new.k c.in-Ok.commit c.in-PowerLost.is c.runs.ensures.all c.in-Ok.ensures.answer

pub returns-in-PowerLost-clause-content : goal.returns-in-PowerLost-clause-content
returns-in-PowerLost-clause-content c =
    subst (λ rs. Follows (HasSameContent c.args.ino c.args.size rs c.args.k.now.volume) c.args.k.now.cells c.publish_runs.new.k.cells) c.runs.ensures.all c.in-Ok.ensures.content

pub returns-in-Done-clause-steps : goal.returns-in-Done-clause-steps
returns-in-Done-clause-steps c =
    subst (λ rs. Steps (32768 * (length rs + 1)) c.args.power.now c.publish_runs.new.power) c.runs.ensures.all c.in-Ok.ensures.steps

pub returns-in-Done-clause-answer : goal.returns-in-Done-clause-answer
returns-in-Done-clause-answer c =
    done-answer c.args.ino c.args.size c.args.overlay.now c.clear.new.self c.runs.result.now c.args.k.now c.publish_runs.new.k c.in-Ok.commit c.in-Done.is c.clear.ensures.runs c.runs.ensures.all c.in-Ok.ensures.answer

pub returns-in-Done-clause-content : goal.returns-in-Done-clause-content
returns-in-Done-clause-content c =
    subst (λ rs. Follows (HasSameContent c.args.ino c.args.size rs c.args.k.now.volume) c.args.k.now.cells c.publish_runs.new.k.cells) c.runs.ensures.all c.in-Ok.ensures.content
