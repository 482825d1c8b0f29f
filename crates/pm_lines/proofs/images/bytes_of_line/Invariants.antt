use Rattle.std.proofs.Common.{◌≡◌, ◌<◌, ℕ, length, get_or}
use Rattle.pm_model.specs.Words.{word_at}
use Rattle.pm_lines.proofs.images.bytes_of_line.Given as goal

abbrev pub invariant-loop-k : goal.invariant-loop-k
invariant-loop-k l = record { size : length l.bytes ≡ 64; words : (j : ℕ) → j < l.k → word_at l.bytes j ≡ get_or l.words j 0 }
