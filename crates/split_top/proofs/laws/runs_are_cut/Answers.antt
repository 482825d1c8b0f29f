use Rattle.split_top.proofs.RunEnds.{runs-cut}
use Rattle.split_top.proofs.laws.runs_are_cut.Goals as goal

pub returns : goal.returns
returns c = runs-cut
