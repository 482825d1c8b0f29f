use Rattle.std.proofs.Common.{◌≡◌, ◌++◌, ℕ, false, length}
use Rattle.pm_lines.specs.pm_model.Cells.{cell, is_lent}
use Rattle.block_io.specs.Overwrites.{IsInLines}
use Rattle.block_io.specs.Lines.{LinesComeBack}
use Rattle.block_io.proofs.lines_out.put_lines.Given as goal

-- the lines so far are back
abbrev pub invariant-loop-line : goal.invariant-loop-line
invariant-loop-line l = record {
  size : length l.pm ≡ length l.fn.pm;
  all : l.fn.lines.items ≡ l.yielded ++ l.line-iterator.rest.items;
  back : LinesComeBack l.first l.yielded l.fn.pm l.pm;
  home : (i : ℕ) → IsInLines l.first (length l.yielded) i → is_lent (cell l.pm i) ≡ false;
}
