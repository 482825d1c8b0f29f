use Rattle.std.proofs.Common.{◌≡◌, ◌≤◌, ◌+◌, ◌-◌, [], replicate}
use Rattle.oplog_tail.specs.Views.{newcomer}
use Rattle.oplog_tail.specs.Logs.{fresh_seat}
use Rattle.oplog_tail.proofs.opening.deal.Given as goal

-- one part went to each seat that was dealt, and the others are still the first place's
abbrev pub invariant-loop-seat : goal.invariant-loop-seat
invariant-loop-seat l = record {
  from : 1 ≤ l._seat;
  first : l.first.me ≡ (newcomer (l.seats + 1 - l._seat), []);
  table : l.first.table_id ≡ l.shared.table_id;
  dealt : l.dealt.items ≡ replicate (l._seat - 1) (fresh_seat l.shared.table_id);
}
