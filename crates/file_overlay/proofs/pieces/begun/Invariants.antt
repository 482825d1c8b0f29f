use Rattle.std.proofs.Common.{◌-◌, ◌<◌, ◌≤◌, ℕ, length}
use Rattle.file_overlay.specs.Pieces.{piece_at}
use Rattle.file_overlay.proofs.pieces.begun.Given as goal

-- those before the lowest begin before the block, those from the highest on at it or behind
abbrev pub invariant-loop-low : goal.invariant-loop-low
invariant-loop-low l = record {
  order : l.low ≤ l.high;
  within : l.high ≤ length l.pieces;
  before : (k : ℕ) → k < l.low → (piece_at l.pieces k).file_block < l.block;
  behind : (k : ℕ) → l.high ≤ k → k < length l.pieces → l.block ≤ (piece_at l.pieces k).file_block;
}

abbrev pub decreases-loop-low : goal.decreases-loop-low
decreases-loop-low l = l.high - l.low
