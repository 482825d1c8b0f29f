use Rattle.split_top.proofs.RunEnds.{runs-whole}
use Rattle.split_top.proofs.laws.runs_are_whole.Goals as goal

pub returns : goal.returns
returns c = runs-whole
