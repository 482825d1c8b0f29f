use Rattle.script_text.proofs.SpelledCalls.{path_in-spelled}
use Rattle.script_text.proofs.laws.paths_are_spelled.Goals as goal

pub returns : goal.returns
returns c = path_in-spelled
