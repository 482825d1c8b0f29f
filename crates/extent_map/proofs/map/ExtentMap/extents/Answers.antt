use Rattle.extent_model.specs.Counts.{length-le}
use Rattle.extent_map.proofs.map.ExtentMap.extents.Goals as goal

pub returns-clause-few : goal.returns-clause-few
returns-clause-few c = rw (← c.self.view_is) (length-le _ c.self.invariant)
