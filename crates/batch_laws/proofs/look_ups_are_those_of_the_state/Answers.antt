use Rattle.batch_laws.specs.SpacesLaws.{paths_lead_alike, rows_are_alike}
use Rattle.batch_laws.proofs.look_ups_are_those_of_the_state.Goals as goal

pub returns : goal.returns
returns c = record { rows = rows_are_alike; paths = paths_lead_alike }
