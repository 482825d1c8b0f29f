use Rattle.split_top.proofs.RunEnds.{thread-runs-whole}
use Rattle.split_top.proofs.laws.thread_runs_are_whole.Goals as goal

pub returns : goal.returns
returns c = thread-runs-whole
