use Rattle.std.proofs.Common.{refl}
use Rattle.report_text.specs.Texts.{flags_text}
use Rattle.script_text.specs.Words.{flags_in, whence_in}
use Rattle.script_text.proofs.rows.flags_in_rows.Goals as goal

pub returns : goal.returns
unfolding flags_in flags_text whence_in
returns c = (refl, refl, refl, refl, refl, refl, refl, refl, refl, refl, refl, refl, refl)
