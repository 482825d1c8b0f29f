use Rattle.std.proofs.Common.{◌≡◌, drop}
use Rattle.layout_model.specs.Entries.{fnv_1a, fnv_1a_from}
use Rattle.oplog_entry.proofs.check.fnv_1a.Given as goal

-- what is left of the bytes leads to the hash of all of them
abbrev pub invariant-loop-byte : goal.invariant-loop-byte
invariant-loop-byte l = fnv_1a_from l.hash (drop l.byte-index l.bytes) ≡ fnv_1a l.bytes
