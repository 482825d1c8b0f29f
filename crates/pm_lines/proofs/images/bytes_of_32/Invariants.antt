use Rattle.std.proofs.Common.{◌≡◌, ◌+◌, ◌<◌, [], ℕ, length, get_or}
use Rattle.std.specs.Int.{to_le_bytes, w64}
use Rattle.pm_lines.proofs.images.bytes_of_32.Given as goal

abbrev pub invariant-loop-k : goal.invariant-loop-k
invariant-loop-k l = record { size : length l.each ≡ 32; words : (j : ℕ) → j < l.k → get_or l.each j [] ≡ to_le_bytes w64 (get_or l.words (l.first + j) 0) }
