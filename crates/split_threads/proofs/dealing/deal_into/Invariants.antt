use Rattle.std.proofs.Common.{◌≤◌, ◌+◌, length, vec_capacity, vec_len}
use Rattle.split_threads.proofs.Dealt.{IsDealing}
use Rattle.split_threads.proofs.dealing.deal_into.Given as goal

-- the last ones are dealt, and there is room for the others
abbrev pub invariant-loop-pass : goal.invariant-loop-pass
invariant-loop-pass l = record {
  dealing : IsDealing l.fn.passes.items l.fn.seats.items l.fn.stop l.passes.items l.seats.items l.owns.items;
  room : length l.owns.items + length l.passes.items ≤ vec_capacity l.owns;
}

abbrev pub decreases-loop-pass : goal.decreases-loop-pass
decreases-loop-pass l = vec_len l.passes
