use Rattle.std.proofs.Common.{refl, sym, ◌∙◌, subst, inl, inr}
use Rattle.std.proofs.lemmas.Bool.{both_ways}
use Rattle.fsync_relink.specs.Publishes.{IsPublishPaid, IsResizedOnce}
use Rattle.fsync_relink.proofs.WayLaws.{resize-stops, resize-stops-paid, steps-here}
use Rattle.fsync_relink.proofs.publishing.publishing.resize.Goals as goal

pub returns-then-length_of-size-clause-steps : goal.returns-then-length_of-size-clause-steps
returns-then-length_of-size-clause-steps c = steps-here 32768 c.args.power.now

pub returns-then-length_of-size-clause-paid : goal.returns-then-length_of-size-clause-paid
returns-then-length_of-size-clause-paid c = c.requires.power

pub returns-then-length_of-size-clause-answer : goal.returns-then-length_of-size-clause-answer
returns-then-length_of-size-clause-answer c = inl (sym c.length_of.ensures ∙ c.if-length_of-size.true, refl)

pub set_size-requires-clause-awake : goal.set_size-requires-clause-awake
set_size-requires-clause-awake c lost = absurd (both_ways c.args.k.now.lost c.requires.on lost)

pub returns-in-Ok-clause-answer : goal.returns-in-Ok-clause-answer
returns-in-Ok-clause-answer c = inr (λ same. c.if-length_of-size.false (c.length_of.ensures ∙ same), (c.in-Ok.ensures.answer c.requires.unbatched))

pub returns-in-Ok-clause-paid : goal.returns-in-Ok-clause-paid
returns-in-Ok-clause-paid c = (c.in-Ok.ensures.paid c.requires.unbatched).0

pub returns-in-Err-clause-paid : goal.returns-in-Err-clause-paid
returns-in-Err-clause-paid c =
    subst (IsPublishPaid c.set_size.new.power) (sym c.stopped_by.ensures)
    (resize-stops-paid c.args.ino c.args.size c.args.k.now c.set_size.new.self c.args.power.now c.set_size.new.power c.in-Err.fault (c.in-Err.ensures.answer c.requires.unbatched) (c.in-Err.ensures.paid c.requires.unbatched))

pub returns-in-Err-clause-answer : goal.returns-in-Err-clause-answer
returns-in-Err-clause-answer c =
    subst (IsResizedOnce c.args.ino c.args.size c.args.k.now c.set_size.new.self) (sym c.stopped_by.ensures)
    (resize-stops c.args.ino c.args.size c.args.k.now c.set_size.new.self c.in-Err.fault (λ same. c.if-length_of-size.false (c.length_of.ensures ∙ same)) (c.in-Err.ensures.answer c.requires.unbatched))
