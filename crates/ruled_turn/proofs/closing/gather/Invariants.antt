use Rattle.std.proofs.Common.{vec_len}
use Rattle.ruled_turn.proofs.Gathering.{IsWhole}
use Rattle.ruled_turn.proofs.closing.gather.Given as goal

-- the seat carries what the passes carry that are no longer left
abbrev pub invariant-loop-pass : goal.invariant-loop-pass
invariant-loop-pass g l = IsWhole l.shared.table_id l.fn.passes.items l.passes.items l.whole.table_id l.whole.me

abbrev pub decreases-loop-pass : goal.decreases-loop-pass
decreases-loop-pass g l = vec_len l.passes
