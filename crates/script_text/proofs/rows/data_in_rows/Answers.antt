use Rattle.std.proofs.Common.{refl}
use Rattle.script_text.specs.Words.{data_in, hex_bytes, number_in}
use Rattle.script_text.proofs.rows.data_in_rows.Goals as goal

pub returns : goal.returns
unfolding data_in number_in hex_bytes
returns c = (refl, refl, refl, refl, refl, refl, refl, refl, refl, refl, refl, refl, refl)
