use Rattle.std.proofs.Common.{refl}
use Rattle.script_text.specs.Words.{number_in, signed_in}
use Rattle.script_text.proofs.rows.numbers_in_rows.Goals as goal

pub returns : goal.returns
unfolding number_in signed_in
returns c = (refl, refl, refl, refl, refl, refl, refl, refl, refl, refl, refl, refl, refl, refl, refl, refl, refl)
