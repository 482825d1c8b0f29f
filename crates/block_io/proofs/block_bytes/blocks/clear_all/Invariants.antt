use Rattle.std.proofs.Common.{◌≡◌, ◌≢◌, ◌*◌, ◌/◌, ◌<◌, ℕ, true, length}
use Rattle.k_split_model.specs.image_model.Placed.{block_at}
use Rattle.pm_lines.specs.pm_model.declared.Cell.TheVariants.{Single}
use Rattle.pm_lines.specs.pm_model.Cells.{cell, is_lent, fenced}
use Rattle.pm_lines.specs.pm_model.Powers.{is_on, Steps}
use Rattle.block_io.proofs.block_bytes.blocks.clear_all.Given as goal

-- the blocks so far are flushed, the other words are as they were
abbrev pub invariant-loop-block : goal.invariant-loop-block
invariant-loop-block l = record {
  size : length l.pm ≡ length l.fn.pm;
  steps : Steps (576 * l.block-index) l.fn.power l.power;
  lent : (i : ℕ) → is_lent (cell l.pm i) ≡ is_lent (cell l.fn.pm i);
  others : (i : ℕ) → ((m : ℕ) → m < l.block-index → block_at l.blocks m ≢ i / 512) → cell l.pm i ≡ cell l.fn.pm i;
  done : is_on l.power ≡ true → (m i : ℕ) → m < l.block-index → i / 512 ≡ block_at l.blocks m → fenced (cell l.pm i) ≡ Single 0;
}
