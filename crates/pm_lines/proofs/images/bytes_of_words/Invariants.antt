use Rattle.std.proofs.Common.{◌≡◌, ◌*◌, ◌<◌, ℕ, length, get_or}
use Rattle.pm_model.specs.Words.{word_at}
use Rattle.pm_lines.proofs.images.bytes_of_words.Given as goal

abbrev pub invariant-loop-run : goal.invariant-loop-run
invariant-loop-run l = record {
  size : length l.bytes.items ≡ 8 * (32 * l.run);
  words : (i : ℕ) → i < 32 * l.run → word_at l.bytes.items i ≡ get_or l.words i 0;
}
