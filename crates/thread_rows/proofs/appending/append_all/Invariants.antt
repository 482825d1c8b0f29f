use Rattle.std.proofs.Common.{◌≡◌}
use Rattle.std.specs.List.{range_with_len}
use Rattle.ruled_turn.specs.Passes.{outside_pass}
use Rattle.thread_rows.specs.Entries.{own}
use Rattle.thread_rows.proofs.appending.append_all.Given as goal

-- the numbers so far were appended
abbrev pub invariant-loop-k : goal.invariant-loop-k
invariant-loop-k g l = l.pass ≡ outside_pass l.turn.id l.number (own (range_with_len l.first l.k))
