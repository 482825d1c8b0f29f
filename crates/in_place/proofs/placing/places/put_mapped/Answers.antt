use Rattle.std.proofs.Common.{◌≡◌, ◌∙◌, true, false, sym}
use Rattle.in_place.proofs.Piece.{lost_by}
use Rattle.in_place.proofs.placing.places.put_mapped.Goals as goal

pub returns-in-Err-clause-answer : goal.returns-in-Err-clause-answer
returns-in-Err-clause-answer c = lost_by c.args.ino c.args.at c.args.bytes.now c.args.k.now c.write_in_place.new.self c.in-Err.field-0 c.in-Err.ensures.answer

pub returns-in-Ok-clause-took : goal.returns-in-Ok-clause-took
returns-in-Ok-clause-took c = c.in-Ok.ensures.took

pub returns-in-Err-clause-took : goal.returns-in-Err-clause-took
returns-in-Err-clause-took c on some = (let never : true ≡ false = sym on ∙ c.in-Err.ensures.paid in cc)
