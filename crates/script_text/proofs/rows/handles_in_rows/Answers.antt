use Rattle.std.proofs.Common.{refl}
use Rattle.script_text.specs.Words.{handle_in}
use Rattle.script_text.proofs.rows.handles_in_rows.Goals as goal

pub returns : goal.returns
unfolding handle_in
returns c = (refl, refl, refl, refl, refl, refl)
