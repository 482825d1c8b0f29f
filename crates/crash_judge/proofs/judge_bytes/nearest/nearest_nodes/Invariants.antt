use Rattle.std.proofs.Common.{◌≡◌, ◌<◌, ℕ, length}
use Rattle.posix_tables.specs.Nodes.{node_at}
use Rattle.crash_judge.specs.Nearest.{IsNearestNode}
use Rattle.crash_judge.specs.Wanted.{wanted}
use Rattle.crash_judge.proofs.judge_bytes.nearest.nearest_nodes.Given as goal

abbrev pub invariant-loop-n : goal.invariant-loop-n
invariant-loop-n l =
    (length l.new.items ≡ l.n)
    × ((k : ℕ) → k < l.n → IsNearestNode l.effects l.extra k (wanted l.numbers l.left k) (node_at l.nodes k) (node_at l.new.items k))
