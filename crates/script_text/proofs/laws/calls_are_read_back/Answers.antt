use Rattle.script_text.proofs.CallsBack.{call-back}
use Rattle.script_text.proofs.laws.calls_are_read_back.Goals as goal

pub returns : goal.returns
returns c = call-back
