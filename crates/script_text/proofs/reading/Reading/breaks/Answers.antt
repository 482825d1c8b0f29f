use Rattle.std.proofs.Common.{rules}
use Rattle.script_text.proofs.reading.Reading.breaks.Goals as goal

pub returns-in-Thread : goal.returns-in-Thread
returns-in-Thread c = search rules
