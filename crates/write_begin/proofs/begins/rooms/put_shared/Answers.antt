use Rattle.std.proofs.Common.{◌<◌, ◌*◌, ℕ, List, length, subst, sym}
use Rattle.in_place.specs.Placing.{CanPlace, IsPlaceAnswer}
use Rattle.write_plan.specs.eof_laws.block_io.Overwrites.{blocks_reached}
use Rattle.write_plan.specs.pm_model.Powers.{Steps}
use Rattle.write_begin.proofs.begins.rooms.put_shared.Goals as goal

pub put_in_place-requires-clause-can : goal.put_in_place-requires-clause-can
put_in_place-requires-clause-can c = subst (λ (x : List ℕ). CanPlace c.args.k.now c.args.files.now c.args.ino c.args.at x) (sym c.as_slice.ensures) c.requires.can

pub returns-clause-steps : goal.returns-clause-steps
returns-clause-steps c = subst (λ (x : List ℕ). Steps (577 * blocks_reached c.args.at (length x)) c.args.power.now c.put_in_place.new.power) c.as_slice.ensures c.put_in_place.ensures.steps

pub returns-clause-took : goal.returns-clause-took
returns-clause-took c on some = c.put_in_place.ensures.took on (subst (λ (x : List ℕ). 0 < length x) (sym c.as_slice.ensures) some)

pub returns-clause-answer : goal.returns-clause-answer
returns-clause-answer c = subst (λ (x : List ℕ). IsPlaceAnswer c.args.k.now c.put_in_place.new.k c.args.files.now c.args.ino c.args.at x c.put_in_place.result) c.as_slice.ensures c.put_in_place.ensures.answer
