use Rattle.write_end.proofs.Cut.{finishes_cut}
use Rattle.write_end.proofs.Landed.{front_finishes, landed_is_finished, landed_may_place}
use Rattle.write_end.proofs.landing.a_landed_write_has_its_front.Goals as goal

pub returns-clause-may : goal.returns-clause-may
returns-clause-may c = landed_may_place

pub returns-clause-finishes : goal.returns-clause-finishes
returns-clause-finishes c = front_finishes

pub returns-clause-finished : goal.returns-clause-finished
returns-clause-finished c = landed_is_finished

pub returns-clause-cut : goal.returns-clause-cut
returns-clause-cut c = finishes_cut
