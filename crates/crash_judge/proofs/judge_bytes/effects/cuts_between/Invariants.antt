use Rattle.std.proofs.Common.{◌≡◌, ℕ, length, Some, slice_get}
use Rattle.posix_tables.specs.Nodes.{node_at}
use Rattle.crash_judge.specs.declared.judge_bytes.effects.Cut.{Cut}
use Rattle.crash_judge.specs.Effects.{cut_of}
use Rattle.crash_judge.proofs.judge_bytes.effects.cuts_between.Given as goal

abbrev pub invariant-loop-n : goal.invariant-loop-n
invariant-loop-n l =
    (length l.cuts.items ≡ l.n) × ((k : ℕ) (cut : Cut) → slice_get l.cuts.items k ≡ Some cut → cut ≡ cut_of (node_at l.before k) (node_at l.after k))
