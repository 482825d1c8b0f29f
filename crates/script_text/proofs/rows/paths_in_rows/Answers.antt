use Rattle.std.proofs.Common.{refl}
use Rattle.script_text.specs.Words.{parts_by, path_in}
use Rattle.script_text.proofs.rows.paths_in_rows.Goals as goal

pub returns : goal.returns
unfolding path_in parts_by
returns c = (refl, refl, refl, refl, refl, refl, refl, refl, refl, refl, refl, refl)
