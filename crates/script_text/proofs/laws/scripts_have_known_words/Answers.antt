use Rattle.script_text.proofs.Known.{known_calls_alone}
use Rattle.script_text.proofs.laws.scripts_have_known_words.Goals as goal

pub returns : goal.returns
returns c = known_calls_alone
