use Rattle.std.proofs.Common.{◌≡◌, ◌*◌, ◌++◌, drop, take, flat_map}
use Rattle.report_text.specs.Texts.{hex_byte}
use Rattle.report_text.proofs.data.fill_pairs.Given as goal

-- the pairs so far, and those of the bytes that are left
abbrev pub invariant-loop-index : goal.invariant-loop-index
invariant-loop-index l = take (2 * l.index) l.pairs ++ flat_map hex_byte (drop l.index l.bytes) ≡ flat_map hex_byte l.bytes
