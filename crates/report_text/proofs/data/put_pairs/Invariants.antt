use Rattle.std.proofs.Common.{◌≡◌, ◌++◌, flat_map, length}
use Rattle.report_text.specs.Texts.{hex_byte}
use Rattle.report_text.proofs.data.put_pairs.Given as goal

-- the text so far, and the pairs of the bytes that are left
abbrev pub invariant-loop-rest : goal.invariant-loop-rest
invariant-loop-rest l = l.text.items ++ flat_map hex_byte l.rest ≡ l.fn.text.items ++ flat_map hex_byte l.bytes

abbrev pub decreases-loop-rest : goal.decreases-loop-rest
decreases-loop-rest l = length l.rest
