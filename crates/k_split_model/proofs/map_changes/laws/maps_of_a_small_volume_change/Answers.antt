-- The changes of the small volume, row by row.
use Rattle.k_split_model.proofs.Rows.{rows}
use Rattle.k_split_model.proofs.map_changes.laws.maps_of_a_small_volume_change.Goals as goal

pub returns : goal.returns
returns c = rows
