use Rattle.script_text.proofs.Steps.{reached-nothing}
use Rattle.script_text.proofs.reading.Reading.new.Goals as goal

pub returns : goal.returns
returns c = rw (c.new.ensures.items, c.new-2.ensures.items, c.new-3.ensures.items) reached-nothing
