use Rattle.std.proofs.Common.{◌≡◌, ◌++◌, length}
use Rattle.split_threads.proofs.Parting.{IsParting}
use Rattle.split_threads.proofs.closes.part_backs.Given as goal

-- those so far are parted
abbrev pub invariant-loop-back : goal.invariant-loop-back
invariant-loop-back l = record {
  all : l.fn.backs.items ≡ l.yielded ++ l.back-iterator.rest.items;
  parting : IsParting (length l.fn.backs.items) l.yielded l.parted;
}
