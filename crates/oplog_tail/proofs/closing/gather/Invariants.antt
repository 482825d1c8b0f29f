use Rattle.std.proofs.Common.{vec_len}
use Rattle.oplog_tail.proofs.Gathering.{IsWhole}
use Rattle.oplog_tail.proofs.closing.gather.Given as goal

-- the place knows what the seats know that are no longer left
abbrev pub invariant-loop-seat : goal.invariant-loop-seat
invariant-loop-seat l = IsWhole l.shared.table_id l.fn.seats.items l.seats.items l.whole.table_id l.whole.me

abbrev pub decreases-loop-seat : goal.decreases-loop-seat
decreases-loop-seat l = vec_len l.seats
