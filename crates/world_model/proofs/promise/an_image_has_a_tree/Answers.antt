use Rattle.world_model.specs.Promise.{has_tree}
use Rattle.world_model.proofs.promise.an_image_has_a_tree.Goals as goal

pub returns : goal.returns
returns c = has_tree
