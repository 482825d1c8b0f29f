use Rattle.k_split.proofs.MapLands.{map-landed, map-lost, may-write}
use Rattle.k_split.proofs.mapping.land_maps_plan.Goals as goal

pub land_maps-requires-clause-write : goal.land_maps-requires-clause-write
land_maps-requires-clause-write c on =
    may-write c.geometry.result.now c.args.maps.now c.requires.0 c.args.tables.now.volume c.args.batch.now c.args.pm.now c.geometry.ensures.numbers c.requires.1

pub returns-in-Done-clause-landed : goal.returns-in-Done-clause-landed
returns-in-Done-clause-landed c v planned =
    let is = c.in-Done.is in
    map-landed c.geometry.result.now c.args.maps.now v c.args.tables.now.volume c.args.batch.now c.args.pm.now c.geometry.ensures.numbers planned
    c.land_maps.new.pm c.args.power.now c.land_maps.new.power c.land_maps.ensures.size c.land_maps.ensures.lent c.land_maps.ensures.each_image
    c.land_maps.ensures.others (c.land_maps.ensures.done is) (c.land_maps.ensures.keeps is) (c.land_maps.ensures.on is) (c.land_maps.ensures.took is)

pub returns-in-PowerLost-clause-landed : goal.returns-in-PowerLost-clause-landed
returns-in-PowerLost-clause-landed c v planned =
    map-lost c.geometry.result.now c.args.maps.now v c.args.tables.now.volume c.args.batch.now c.args.pm.now c.geometry.ensures.numbers planned
    c.land_maps.new.pm c.land_maps.new.power c.land_maps.ensures.size c.land_maps.ensures.lent c.land_maps.ensures.each_image
    c.land_maps.ensures.others (c.land_maps.ensures.lost c.in-PowerLost.is)
