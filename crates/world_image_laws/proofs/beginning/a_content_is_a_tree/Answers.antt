use Rattle.world_image_laws.specs.Beginnings.{has_tree}
use Rattle.world_image_laws.proofs.beginning.a_content_is_a_tree.Goals as goal

pub returns : goal.returns
returns c = has_tree
