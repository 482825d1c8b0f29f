use Rattle.std.proofs.Common.{◌≡◌, ◌+◌, ◌*◌, ◌<◌, ℕ, length}
use Rattle.std.specs.Prelude.{slice_index}
use Rattle.pm_lines.specs.pm_model.Images.{words_of}
use Rattle.pm_lines.specs.pm_model.Words.{byte_of}
use Rattle.block_io.proofs.block_bytes.blocks.read_block.Given as goal

-- the bytes so far are those of the block
abbrev pub invariant-loop-word : goal.invariant-loop-word
invariant-loop-word l = record {
  size : length l.out ≡ 4096;
  read : (k : ℕ) → k < 8 * l.word → slice_index l.out k ≡ byte_of (words_of l.pm) (4096 * l.block + k);
}

abbrev pub invariant-loop-j : goal.invariant-loop-j
invariant-loop-j l = record {
  size : length l.out ≡ 4096;
  read : (k : ℕ) → k < 8 * l.word + l.j → slice_index l.out k ≡ byte_of (words_of l.pm) (4096 * l.block + k);
}
