use Rattle.std.proofs.Common.{◌≤◌, length, take}
use Rattle.std.specs.Io.KnownBytes.{Appends}
use Rattle.outside.proofs.disk.write_whole.Given as goal

-- so many of the bytes are written
abbrev pub invariant-loop : goal.invariant-loop
invariant-loop g l =
    (l.written ≤ length l.bytes)
    × Appends (g.W.Write.contents l.fn.writer) (g.W.Write.contents l.writer) (take l.written l.bytes)
