use Rattle.write_plan.proofs.Own.{own_placed}
use Rattle.write_plan.proofs.shown.own_bytes_are_those_in_place.Goals as goal

pub returns : goal.returns
returns c = own_placed
