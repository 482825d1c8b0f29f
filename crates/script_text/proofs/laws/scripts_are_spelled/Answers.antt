use Rattle.script_text.proofs.SpelledCalls.{scripts-spelled}
use Rattle.script_text.proofs.laws.scripts_are_spelled.Goals as goal

pub returns : goal.returns
returns c = scripts-spelled
