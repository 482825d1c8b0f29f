use Rattle.std.proofs.Common.{◌≡◌, ◌++◌, length, true}
use Rattle.std.specs.List.{list_all}
use Rattle.script_text.specs.Words.{hex_bytes, is_hex_digit}
use Rattle.script_text.proofs.data.read_pairs.Given as goal

-- the bytes so far are those of the first pairs, and the rest are digits
abbrev pub invariant-loop-rest : goal.invariant-loop-rest
invariant-loop-rest l = record { read : hex_bytes l.word ≡ l.bytes.items ++ hex_bytes l.rest; digits : list_all is_hex_digit l.rest ≡ true }

abbrev pub decreases-loop-rest : goal.decreases-loop-rest
decreases-loop-rest l = length l.rest
