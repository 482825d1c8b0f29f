use Rattle.extent_model.specs.Spelling.{has_one_spelling}
use Rattle.extent_map.proofs.maps_have_one_spelling.Goals as goal

pub returns : goal.returns
returns c = has_one_spelling
