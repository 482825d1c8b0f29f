use Rattle.std.proofs.Common.{◌≡◌, ◌*◌, replicate}
use Rattle.k_reading.proofs.fresh.zeros.Given as goal

-- all bytes so far are zero
abbrev pub invariant-loop-part : goal.invariant-loop-part
invariant-loop-part l = l.bytes.items ≡ replicate (256 * l.part) 0
