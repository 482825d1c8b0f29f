use Rattle.k_map_rows.proofs.LeftHomes.{left-home}
use Rattle.k_map_rows.proofs.stops.map_made.Goals as goal

pub returns : goal.returns
returns c = left-home c.apply.new.k c.apply.result c.apply.ensures
