use Rattle.std.proofs.Common.{refl}
use Rattle.script_text.specs.Scripts.{begins_with_call}
use Rattle.script_text.proofs.rows.limits_in_rows.Goals as goal

pub returns : goal.returns
unfolding begins_with_call
returns c = (refl, refl, refl, refl)
