use Rattle.std.proofs.Common.{◌≡◌, ◌≢◌, ◌+◌, ◌*◌, ◌/◌, ◌%◌, ◌<◌, ◌≤◌, ℕ, true, length}
use Rattle.volume_laws.specs.image_model.Chains.{chain_word}
use Rattle.pm_lines.specs.pm_model.declared.Cell.TheVariants.{Single}
use Rattle.pm_lines.specs.pm_model.Cells.{cell, is_lent, fenced}
use Rattle.pm_lines.specs.pm_model.Powers.{is_on, Steps}
use Rattle.map_chain.proofs.writing.write_block.Given as goal

-- the lines before `line` are flushed, the other words are as they were
abbrev pub invariant-loop-line : goal.invariant-loop-line
invariant-loop-line l = record {
  size : length l.pm ≡ length l.fn.pm;
  steps : Steps (9 * l.line) l.fn.power l.power;
  lent : (i : ℕ) → is_lent (cell l.pm i) ≡ is_lent (cell l.fn.pm i);
  others : (i : ℕ) → i / 512 ≢ l.block → cell l.pm i ≡ cell l.fn.pm i;
  later : (i : ℕ) → 64 * l.block + l.line ≤ i / 8 → cell l.pm i ≡ cell l.fn.pm i;
  done : is_on l.power ≡ true → (i : ℕ) → 64 * l.block ≤ i / 8 → i / 8 < 64 * l.block + l.line → fenced (cell l.pm i) ≡ Single (chain_word l.next l.extents (i % 512));
}
