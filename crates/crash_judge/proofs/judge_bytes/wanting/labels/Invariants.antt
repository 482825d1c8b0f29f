use Rattle.std.proofs.Common.{◌≡◌, ◌<◌, ℕ, length}
use Rattle.posix_tables.specs.Nodes.{node_at}
use Rattle.crash_judge.specs.Wanted.{label}
use Rattle.crash_judge.proofs.judge_bytes.wanting.labels.Given as goal

abbrev pub invariant-loop-k : goal.invariant-loop-k
invariant-loop-k l = (length l.nodes.items ≡ l.k) × ((k : ℕ) → k < l.k → node_at l.nodes.items k ≡ label k)
