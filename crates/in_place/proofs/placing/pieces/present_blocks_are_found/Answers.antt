use Rattle.in_place.proofs.Present.{present_is_found}
use Rattle.in_place.proofs.placing.pieces.present_blocks_are_found.Goals as goal

pub returns : goal.returns
returns c = present_is_found
