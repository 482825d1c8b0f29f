use Rattle.std.proofs.Common.{◌≡◌, ◌⊎◌, ◌+◌, ◌*◌, ◌/◌, ◌-◌, ◌<◌, ◌≤◌, ℕ, true, length}
use Rattle.pm_lines.specs.pm_model.declared.Cell.TheVariants.{Single}
use Rattle.pm_lines.specs.pm_model.Cells.{cell, is_lent, fenced, newest}
use Rattle.pm_lines.specs.pm_model.Images.{words_of}
use Rattle.pm_lines.specs.pm_model.Powers.{is_on, Steps}
use Rattle.block_io.specs.Puts.{HoldsEither, with_bytes}
use Rattle.block_io.proofs.block_bytes.pieces.store_piece.Given as goal

-- the lines before `line` are flushed, the other words are as they were
abbrev pub invariant-loop-line : goal.invariant-loop-line
invariant-loop-line l = record {
  size : length l.pm ≡ length l.fn.pm;
  steps : Steps (9 * (l.line - (4096 * l.block + l.from) / 64)) l.fn.power l.power;
  lent : (i : ℕ) → is_lent (cell l.pm i) ≡ is_lent (cell l.fn.pm i);
  others : (i : ℕ) → (i / 8 < (4096 * l.block + l.from) / 64) ⊎ (l.line ≤ i / 8) → cell l.pm i ≡ cell l.fn.pm i;
  each : (i : ℕ) → (4096 * l.block + l.from) / 64 ≤ i / 8 → i / 8 < l.line
      → HoldsEither (newest (cell l.fn.pm i)) (with_bytes (4096 * l.block + l.from) l.bytes (words_of l.fn.pm) i) (cell l.pm i);
  done : is_on l.power ≡ true → (i : ℕ) → (4096 * l.block + l.from) / 64 ≤ i / 8 → i / 8 < l.line
      → fenced (cell l.pm i) ≡ Single (with_bytes (4096 * l.block + l.from) l.bytes (words_of l.fn.pm) i);
}
