use Rattle.std.proofs.Common.{rules}
use Rattle.crash_judge.proofs.judge_bytes.runs.has_tree.Goals as goal

pub returns : goal.returns
returns c = search rules
