use Rattle.std.proofs.Common.{◌∙◌, ◌/◌, List, ap, arith, sym}
use Rattle.write_plan.specs.file_overlay.declared.runs.Run.{Run}
use Rattle.write_plan.specs.file_overlay.Runs.{staged_at}
use Rattle.in_place.proofs.Answered.{mapped_answer, staged_answer}
use Rattle.in_place.proofs.Blocks.{can_zero}
use Rattle.in_place.proofs.tails.gaps.gaps.zero_tail.Goals as goal

pub zero_staged-requires-clause-may : goal.zero_staged-requires-clause-may
zero_staged-requires-clause-may c =
    can_zero c.args.k.now c.args.k.now c.args.files.now c.args.ino c.args.end c.requires.has (omega (arith, c.requires.end)) c.in-Some.staging c.in-Some.block c.blocks_are_zeroed_in_flight.ensures.may
    (ap (λ (runs : List Run). staged_at runs (c.args.end / 4096)) (sym c.overlay.ensures) ∙ sym c.in-Some.ensures)

pub returns-in-Some-clause-answer : goal.returns-in-Some-clause-answer
returns-in-Some-clause-answer c =
    staged_answer c.blocks_are_zeroed_in_flight.ensures.done c.blocks_are_zeroed_in_flight.ensures.cut c.blocks_are_zeroed_in_flight.ensures.zeroed c.args.k.now c.zero_staged.new.k c.args.files.now c.args.ino c.args.end
    c.in-Some.staging c.in-Some.block c.requires.has c.requires.end
    (ap (λ (runs : List Run). staged_at runs (c.args.end / 4096)) (sym c.overlay.ensures) ∙ sym c.in-Some.ensures) c.zero_staged.result c.zero_staged.ensures.answer

pub returns-in-None-clause-answer : goal.returns-in-None-clause-answer
returns-in-None-clause-answer c =
    mapped_answer c.the_end_of_a_file_is_cleaned_in_flight.ensures.done c.the_end_of_a_file_is_cleaned_in_flight.ensures.cut c.blocks_are_zeroed_in_flight.ensures.zeroed c.args.k.now c.zero_mapped.new.k c.args.files.now
    c.args.ino c.args.end c.requires.has c.requires.end
    (ap (λ (runs : List Run). staged_at runs (c.args.end / 4096)) (sym c.overlay.ensures) ∙ sym c.in-None.ensures) c.zero_mapped.result c.zero_mapped.ensures.answer
