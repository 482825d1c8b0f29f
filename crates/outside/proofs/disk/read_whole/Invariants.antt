use Rattle.std.proofs.Common.{◌≤◌, length}
use Rattle.std.specs.Io.KnownBytes.{Consumes}
use Rattle.outside.proofs.disk.read_whole.Given as goal

-- the bytes so far are those that the reader has given, and they are not too many
abbrev pub invariant-loop : goal.invariant-loop
invariant-loop g l = record {
  given : Consumes (g.R.Read.remaining l.fn.reader) (g.R.Read.remaining l.reader) l.bytes.items;
  within : length l.bytes.items ≤ 134217728;
}
