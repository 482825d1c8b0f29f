use Rattle.std.proofs.Common.{◌≡◌, ◌≢◌, ◌+◌, ◌*◌, ◌/◌, ◌%◌, ◌<◌, ℕ, true, length}
use Rattle.volume_laws.specs.image_model.Chains.{chain_word}
use Rattle.volume_laws.specs.image_model.Placed.{block_at, part_at}
use Rattle.pm_lines.specs.pm_model.declared.Cell.TheVariants.{Single}
use Rattle.pm_lines.specs.pm_model.Cells.{cell, is_lent, fenced}
use Rattle.pm_lines.specs.pm_model.Powers.{is_on, Steps}
use Rattle.map_chain.proofs.writing.write_blocks.Given as goal

-- the blocks before block k are flushed, the other words are as they were
abbrev pub invariant-loop-k : goal.invariant-loop-k
invariant-loop-k l = record {
  size : length l.pm ≡ length l.fn.pm;
  steps : Steps (576 * l.k) l.fn.power l.power;
  lent : (i : ℕ) → is_lent (cell l.pm i) ≡ is_lent (cell l.fn.pm i);
  others : (i : ℕ) → ((m : ℕ) → m < l.k → block_at l.blocks m ≢ i / 512) → cell l.pm i ≡ cell l.fn.pm i;
  done : is_on l.power ≡ true → (m i : ℕ) → m < l.k → i / 512 ≡ block_at l.blocks m → fenced (cell l.pm i) ≡ Single (chain_word (block_at l.blocks (m + 1)) (part_at l.extents m) (i % 512));
}
