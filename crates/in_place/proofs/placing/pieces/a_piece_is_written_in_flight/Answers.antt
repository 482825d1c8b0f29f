use Rattle.in_place.proofs.Placed.{piece_is_cut, piece_is_off, piece_is_placed, piece_leaves}
use Rattle.in_place.proofs.placing.pieces.a_piece_is_written_in_flight.Goals as goal

pub returns-clause-done : goal.returns-clause-done
returns-clause-done c = piece_is_placed

pub returns-clause-cut : goal.returns-clause-cut
returns-clause-cut c = piece_is_cut

pub returns-clause-off : goal.returns-clause-off
returns-clause-off c = piece_is_off

pub returns-clause-beside : goal.returns-clause-beside
returns-clause-beside c = piece_leaves
