use Rattle.script_text.proofs.ScriptsBack.{scripts-back}
use Rattle.script_text.proofs.laws.scripts_are_read_back.Goals as goal

pub returns : goal.returns
returns c = scripts-back
