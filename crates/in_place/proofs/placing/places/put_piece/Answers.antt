use Rattle.std.proofs.Common.{◌+◌, ◌*◌, ◌/◌, ◌∙◌, List, ap, arith, length, sym}
use Rattle.write_plan.specs.file_overlay.declared.runs.Run.{Run}
use Rattle.write_plan.specs.file_overlay.Runs.{staged_at}
use Rattle.live_step_laws.specs.block_io.Overwrites.{blocks_reached}
use Rattle.in_place.proofs.Piece.{in_block, line_there, mapped_answer, may_lend, may_write, staged_answer, steps_more}
use Rattle.in_place.proofs.placing.places.put_piece.Goals as goal

pub overlay-requires : goal.overlay-requires
overlay-requires c = line_there c.args.k.now c.args.files.now c.args.ino c.args.at c.args.bytes.now c.requires.can c.requires.some c.requires.one

pub put_staged-requires : goal.put_staged-requires
put_staged-requires c =
    let at_is = ap (λ (runs : List Run). staged_at runs (c.args.at / 4096)) (sym c.overlay.ensures) ∙ sym c.in-Some.ensures in
    record {
      on = c.requires.can.placing.stands.on;
      short = in_block c.args.k.now c.args.files.now c.args.ino c.args.at c.args.bytes.now c.requires.can c.requires.some c.requires.one c.in-Some.staging c.in-Some.block at_is;
      may = may_lend c.args.k.now c.args.files.now c.args.ino c.args.at c.args.bytes.now c.requires.can c.requires.some c.requires.one c.in-Some.staging c.in-Some.block at_is;
    }

pub put_mapped-requires : goal.put_mapped-requires
put_mapped-requires c = record {
  on = c.requires.can.placing.stands.on;
  may = may_write c.args.k.now c.args.files.now c.args.ino c.args.at c.args.bytes.now c.requires.can c.requires.some c.requires.one
      (ap (λ (runs : List Run). staged_at runs (c.args.at / 4096)) (sym c.overlay.ensures) ∙ sym c.in-None.ensures);
}

pub returns-in-Some-clause-steps : goal.returns-in-Some-clause-steps
returns-in-Some-clause-steps c =
    steps_more 577 (577 * blocks_reached c.args.at (length c.args.bytes.now)) c.args.power.now c.put_staged.new.power (omega (arith, c.requires.some)) c.put_staged.ensures.steps

pub returns-in-None-clause-steps : goal.returns-in-None-clause-steps
returns-in-None-clause-steps c =
    steps_more (576 * blocks_reached c.args.at (length c.args.bytes.now) + 1) (577 * blocks_reached c.args.at (length c.args.bytes.now)) c.args.power.now c.put_mapped.new.power (omega (arith, c.requires.some)) c.put_mapped.ensures.steps

pub returns-in-Some-clause-answer : goal.returns-in-Some-clause-answer
returns-in-Some-clause-answer c =
    staged_answer c.args.k.now c.args.files.now c.args.ino c.args.at c.args.bytes.now c.requires.can c.requires.some c.requires.one c.in-Some.staging c.in-Some.block
    (ap (λ (runs : List Run). staged_at runs (c.args.at / 4096)) (sym c.overlay.ensures) ∙ sym c.in-Some.ensures) c.put_staged.new.k c.put_staged.result c.put_staged.ensures.answer

pub returns-in-None-clause-answer : goal.returns-in-None-clause-answer
returns-in-None-clause-answer c =
    mapped_answer c.args.k.now c.args.files.now c.args.ino c.args.at c.args.bytes.now c.requires.can c.requires.some c.requires.one
    (ap (λ (runs : List Run). staged_at runs (c.args.at / 4096)) (sym c.overlay.ensures) ∙ sym c.in-None.ensures) c.put_mapped.new.k c.put_mapped.result c.put_mapped.ensures.answer

pub returns-in-Some-clause-took : goal.returns-in-Some-clause-took
returns-in-Some-clause-took c on = (let some = c.requires.some in c.put_staged.ensures.took on (omega (arith, some)))

pub returns-in-None-clause-took : goal.returns-in-None-clause-took
returns-in-None-clause-took c on = (let some = c.requires.some in c.put_mapped.ensures.took on (omega (arith, some)))
