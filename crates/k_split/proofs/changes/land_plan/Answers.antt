use Rattle.k_split.proofs.LandLaws.{few-steps, landed, landed-lost, may-land}
use Rattle.k_split.proofs.changes.land_plan.Goals as goal

pub land-requires : goal.land-requires
land-requires c = record {
  ready = λ on.
      may-land c.geometry.result.now c.requires.0 c.args.tables.now.volume c.args.batch.now c.args.pm.now c.geometry.ensures.numbers c.requires.1;
}

pub returns-in-Done-clause-few : goal.returns-in-Done-clause-few
returns-in-Done-clause-few c = few-steps _ c.args.power.now c.land.new.power c.requires.1.most c.land.ensures.steps

pub returns-in-PowerLost-clause-few : goal.returns-in-PowerLost-clause-few
returns-in-PowerLost-clause-few c = few-steps _ c.args.power.now c.land.new.power c.requires.1.most c.land.ensures.steps

pub returns-in-Done-clause-landed : goal.returns-in-Done-clause-landed
returns-in-Done-clause-landed c v planned =
    let is = c.in-Done.is in
    landed c.geometry.result.now v c.args.tables.now.volume c.args.batch.now c.args.pm.now c.geometry.ensures.numbers planned c.land.new.pm
    c.args.power.now c.land.new.power c.land.ensures.size c.land.ensures.lent c.land.ensures.each_image c.land.ensures.others
    (c.land.ensures.done is) (c.land.ensures.keeps is) (c.land.ensures.on is) (c.land.ensures.took is)

pub returns-in-PowerLost-clause-landed : goal.returns-in-PowerLost-clause-landed
returns-in-PowerLost-clause-landed c v planned =
    landed-lost c.geometry.result.now v c.args.tables.now.volume c.args.batch.now c.args.pm.now c.geometry.ensures.numbers planned c.land.new.pm
    c.land.new.power c.land.ensures.size c.land.ensures.lent c.land.ensures.each_image c.land.ensures.others
    (c.land.ensures.lost c.in-PowerLost.is)
