use Rattle.std.proofs.Common.{◌+◌, ◌*◌, ◌≤◌, List, arith, length, subst, sym, ◌≡◌, ◌∙◌, true, false}
use Rattle.std.specs.Prelude.{ℕ}
use Rattle.live_step_laws.specs.block_io.Overwrites.{blocks_reached}
use Rattle.live_step_laws.specs.pm_model.Powers.{Steps}
use Rattle.in_place.specs.Placing.{CanPlace, IsOnePiece, LosesPlacing, Places}
use Rattle.in_place.proofs.Onward.{all_put, can_go_on, line_of_placing, loses_on, puts_on, range_is, range_long, starts_to_put}
use Rattle.in_place.proofs.placing.places.put_in_place.Goals as goal

pub loop-done-init : goal.loop-done-init
loop-done-init c = starts_to_put c.args.k.now c.args.files.now c.args.ino c.args.at c.args.bytes.now c.args.power.now c.requires.on

pub piece_length-count-requires : goal.piece_length-count-requires
piece_length-count-requires c = record {
  known = line_of_placing c.args.k.now c.args.files.now c.args.ino c.args.at c.args.bytes.now c.requires.can;
  some = omega arith;
  short = omega (arith, c.requires.can.fits);
}

pub put_piece-requires : goal.put_piece-requires
put_piece-requires c =
    let k = c.args.k.now in
    let l = c.loop-done.k in
    let files = c.args.files.now in
    let at = c.args.at in
    let bytes = c.args.bytes.now in
    let done = c.loop-done.done in
    let count = c.piece_length-count.result in
    let fits : done + count ≤ length bytes = omega (arith, c.piece_length-count.ensures.most) in
    let long = range_long bytes done count fits in
    record {
      on = c.loop-done.invariant.on;
      can = subst (CanPlace l files c.args.ino (at + done)) (sym (range_is bytes done count)) (can_go_on k l files c.args.ino at bytes done count c.requires.can fits c.loop-done.invariant.places);
      some = omega (arith, long, c.piece_length-count.ensures.least);
      one = subst (IsOnePiece files c.args.ino (at + done)) (sym long) c.piece_length-count.ensures.one;
    }

pub loop-done-preserved : goal.loop-done-preserved
loop-done-preserved c =
    let k = c.args.k.now in
    let l = c.loop-done.k in
    let files = c.args.files.now in
    let at = c.args.at in
    let bytes = c.args.bytes.now in
    let done = c.loop-done.done in
    let count = c.piece_length-count.result in
    let fits : done + count ≤ length bytes = omega (arith, c.piece_length-count.ensures.most) in
    let long = range_long bytes done count fits in
    puts_on k l c.put_piece.new.k files c.args.ino at bytes done count c.args.power.now c.loop-done.power c.put_piece.new.power c.requires.can c.loop-done.invariant (omega arith) fits
    (λ less. (let ends = c.piece_length-count.ensures.ends (omega (arith, less)) in omega (arith, ends)))
    (subst (λ n. Steps (577 * blocks_reached (at + done) n) c.loop-done.power c.put_piece.new.power) long c.in-Done.ensures.steps) c.in-Done.ensures.paid (c.in-Done.ensures.took c.in-Done.ensures.paid)
    (subst (λ (bs : List ℕ). Places l c.put_piece.new.k files c.args.ino (at + done) bs) (range_is bytes done count) c.in-Done.ensures.answer)

pub returns-in-PowerLost-clause-steps : goal.returns-in-PowerLost-clause-steps
returns-in-PowerLost-clause-steps c =
    let k = c.args.k.now in
    let l = c.loop-done.k in
    let files = c.args.files.now in
    let at = c.args.at in
    let bytes = c.args.bytes.now in
    let done = c.loop-done.done in
    let count = c.piece_length-count.result in
    let fits : done + count ≤ length bytes = omega (arith, c.piece_length-count.ensures.most) in
    let long = range_long bytes done count fits in
    (loses_on k l c.put_piece.new.k files c.args.ino at bytes done count c.args.power.now c.loop-done.power c.put_piece.new.power c.requires.can c.loop-done.invariant (omega arith) fits
    (subst (λ n. Steps (577 * blocks_reached (at + done) n) c.loop-done.power c.put_piece.new.power) long c.in-PowerLost.ensures.steps)
    (subst (λ (bs : List ℕ). LosesPlacing l c.put_piece.new.k files c.args.ino (at + done) bs) (range_is bytes done count) c.in-PowerLost.ensures.answer)).1

pub returns-in-PowerLost-clause-answer : goal.returns-in-PowerLost-clause-answer
returns-in-PowerLost-clause-answer c =
    let k = c.args.k.now in
    let l = c.loop-done.k in
    let files = c.args.files.now in
    let at = c.args.at in
    let bytes = c.args.bytes.now in
    let done = c.loop-done.done in
    let count = c.piece_length-count.result in
    let fits : done + count ≤ length bytes = omega (arith, c.piece_length-count.ensures.most) in
    let long = range_long bytes done count fits in
    (loses_on k l c.put_piece.new.k files c.args.ino at bytes done count c.args.power.now c.loop-done.power c.put_piece.new.power c.requires.can c.loop-done.invariant (omega arith) fits
    (subst (λ n. Steps (577 * blocks_reached (at + done) n) c.loop-done.power c.put_piece.new.power) long c.in-PowerLost.ensures.steps)
    (subst (λ (bs : List ℕ). LosesPlacing l c.put_piece.new.k files c.args.ino (at + done) bs) (range_is bytes done count) c.in-PowerLost.ensures.answer)).0

pub returns-clause-steps : goal.returns-clause-steps
returns-clause-steps c = c.loop-done.invariant.all

pub returns-clause-took : goal.returns-clause-took
returns-clause-took c on some = c.loop-done.invariant.took (omega (arith, some))

pub returns-clause-paid : goal.returns-clause-paid
returns-clause-paid c = c.loop-done.invariant.on

pub returns-clause-answer : goal.returns-clause-answer
returns-clause-answer c = all_put c.args.k.now c.loop-done.k c.args.files.now c.args.ino c.args.at c.args.bytes.now c.loop-done.done c.args.power.now c.loop-done.power c.loop-done.invariant (omega arith)

pub returns-in-PowerLost-clause-took : goal.returns-in-PowerLost-clause-took
returns-in-PowerLost-clause-took c on some = (let never : true ≡ false = sym on ∙ c.in-PowerLost.ensures.paid in cc)
