use Rattle.script_text.proofs.Limits.{scripts-within}
use Rattle.script_text.proofs.laws.scripts_are_within_limits.Goals as goal

pub returns : goal.returns
returns c = scripts-within
