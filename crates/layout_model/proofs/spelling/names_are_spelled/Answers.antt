use Rattle.std.proofs.Common.{refl}
use Rattle.layout_model.proofs.spelling.names_are_spelled.Goals as goal

pub returns : goal.returns
returns c = (refl, refl, refl, refl, refl, refl, refl, refl, refl, refl, refl)
