use Rattle.std.proofs.Common.{◌≡◌, ◌<◌, ℕ, length, slice_index}
use Rattle.crash_judge.specs.Nearest.{nearest}
use Rattle.crash_judge.proofs.judge_bytes.nearest.nearest_bytes.Given as goal

abbrev pub invariant-loop-i : goal.invariant-loop-i
invariant-loop-i l =
    (length l.bytes.items ≡ l.i)
    × ((k : ℕ) → k < l.i → slice_index l.bytes.items k ≡ nearest l.effects l.extra l.n k (slice_index l.v-items k) (slice_index l.want k))
