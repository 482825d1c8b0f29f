use Rattle.std.proofs.Common.{◌≡◌, ◌≤◌, ◌+◌, length, vec_capacity}
use Rattle.block_io.specs.Lines.{LinesGoOut}
use Rattle.block_io.proofs.lines_out.take_lines.Given as goal

-- the lines so far are out
abbrev pub invariant-loop-line : goal.invariant-loop-line
invariant-loop-line l = record {
  size : length l.pm ≡ length l.fn.pm;
  pushed : l.first + length l.lines.items ≡ l.line;
  room : l.count ≤ vec_capacity l.lines;
  out : LinesGoOut l.first l.fn.pm l.pm l.lines.items;
}
