use Rattle.script_text.proofs.LinesCut.{lines-cut}
use Rattle.script_text.proofs.laws.lines_are_cut.Goals as goal

pub returns : goal.returns
returns c = lines-cut
