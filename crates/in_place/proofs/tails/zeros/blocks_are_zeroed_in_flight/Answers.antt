use Rattle.in_place.proofs.ZeroReads.{zeroed_read_zero}
use Rattle.in_place.proofs.Zeroed.{keeps_zeroed, stands_to_place, stands_to_zero, stands_zeroed}
use Rattle.in_place.proofs.tails.zeros.blocks_are_zeroed_in_flight.Goals as goal

pub returns-clause-place : goal.returns-clause-place
returns-clause-place c = stands_to_place

pub returns-clause-may : goal.returns-clause-may
returns-clause-may c = stands_to_zero

pub returns-clause-done : goal.returns-clause-done
returns-clause-done c = stands_zeroed

pub returns-clause-cut : goal.returns-clause-cut
returns-clause-cut c = keeps_zeroed

pub returns-clause-zeroed : goal.returns-clause-zeroed
returns-clause-zeroed c = zeroed_read_zero
