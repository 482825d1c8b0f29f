use Rattle.volume_change_laws.specs.Hits.{in_map-in_order, in_map-linked, in_map-one, in_map-parts}
use Rattle.volume_change_laws.proofs.map_changes.blocks_of_maps_are_counted.Goals as goal

pub returns-clause-parts : goal.returns-clause-parts
returns-clause-parts c = in_map-parts

pub returns-clause-linked : goal.returns-clause-linked
returns-clause-linked c = in_map-linked

pub returns-clause-in_order : goal.returns-clause-in_order
returns-clause-in_order c = in_map-in_order

pub returns-clause-filled : goal.returns-clause-filled
returns-clause-filled c = in_map-one
