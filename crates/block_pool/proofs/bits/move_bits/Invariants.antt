use Rattle.std.proofs.Common.{◌≡◌, ℕ, ◌<◌, ◌≤◌, get_or}
use Rattle.std.specs.Prelude.{bit_or}
use Rattle.block_pool.proofs.bits.move_bits.Given as goal

-- the words passed so far have the bits of both, and those behind are as they were
abbrev pub invariant-loop-place : goal.invariant-loop-place
invariant-loop-place l = record {
  words : (i : ℕ) → i < l.place → get_or l.words i 0 ≡ bit_or (get_or l.initial.words i 0) (get_or l.initial.other i 0);
  none : (i : ℕ) → i < l.place → get_or l.other i 0 ≡ 0;
  words_behind : (i : ℕ) → l.place ≤ i → get_or l.words i 0 ≡ get_or l.initial.words i 0;
  other_behind : (i : ℕ) → l.place ≤ i → get_or l.other i 0 ≡ get_or l.initial.other i 0;
}
