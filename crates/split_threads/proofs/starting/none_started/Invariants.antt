use Rattle.std.proofs.Common.{◌≡◌, ◌++◌, length, vec_capacity}
use Rattle.split_threads.proofs.Started.{AreStill}
use Rattle.split_threads.proofs.starting.none_started.Given as goal

-- those so far are as they were
abbrev pub invariant-loop-own : goal.invariant-loop-own
invariant-loop-own l = record {
  all : l.fn.owns.items ≡ l.yielded ++ l.own-iterator.rest.items;
  count : length l.backs.items ≡ length l.yielded;
  still : AreStill l.yielded l.backs.items;
  room : vec_capacity l.backs ≡ vec_capacity l.fn.room;
}
