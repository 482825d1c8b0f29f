use Rattle.k_split_laws.specs.Done.{keeps_image_cut, keeps_image_off}
use Rattle.k_split_laws.proofs.exits.a_step_ends_in_flight.Goals as goal

pub returns-clause-cut : goal.returns-clause-cut
returns-clause-cut c = keeps_image_cut

pub returns-clause-off : goal.returns-clause-off
returns-clause-off c = keeps_image_off
