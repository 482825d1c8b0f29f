use Rattle.std.proofs.Common.{◌-◌, ◌<◌, ◌≤◌, ℕ, get_or, length}
use Rattle.k_names.proofs.index.begun.Given as goal

-- those before the lowest are below the pair, those from the highest on at it or above
abbrev pub invariant-loop-low : goal.invariant-loop-low
invariant-loop-low l = record {
  order : l.low ≤ l.high;
  within : l.high ≤ length l.pairs;
  before : (k : ℕ) → k < l.low → get_or l.pairs k 0 < l.pair;
  behind : (k : ℕ) → l.high ≤ k → k < length l.pairs → l.pair ≤ get_or l.pairs k 0;
}

abbrev pub decreases-loop-low : goal.decreases-loop-low
decreases-loop-low l = l.high - l.low
