use Rattle.std.proofs.Common.{◌∙◌, ap, arith, sym}
use Rattle.write_plan.specs.live_model.data_route.Writes.{cleans}
use Rattle.in_place.proofs.Past.{cleaned, cleared_on, clears_none, steps_none}
use Rattle.in_place.proofs.tails.gaps.gaps.clear_gap.Goals as goal

pub zero_tail-requires-clause-short : goal.zero_tail-requires-clause-short
zero_tail-requires-clause-short c =
    let inside = cleaned c.size-size.result c.args.start (ap (λ n. cleans n c.args.start) c.size-size.ensures.size ∙ (sym c.requires.plan ∙ c.if-clean_tail.true)) in
    omega (arith, inside, c.size-size.ensures.small)

pub returns-then-clean_tail-clause-answer : goal.returns-then-clean_tail-clause-answer
returns-then-clean_tail-clause-answer c =
    cleared_on c.args.k.now c.zero_tail.new.k c.args.files.now c.args.ino c.size-size.result c.args.start c.requires.ends c.requires.has.file c.size-size.ensures.size c.zero_tail.result c.zero_tail.ensures.answer

pub returns-else-clean_tail-clause-steps : goal.returns-else-clean_tail-clause-steps
returns-else-clean_tail-clause-steps c = steps_none 577 c.args.power.now

pub returns-else-clean_tail-clause-answer : goal.returns-else-clean_tail-clause-answer
returns-else-clean_tail-clause-answer c =
    clears_none c.args.k.now c.args.files.now c.args.ino c.requires.ends c.requires.has.file c.args.start
    (sym c.requires.plan ∙ c.if-clean_tail.false)
