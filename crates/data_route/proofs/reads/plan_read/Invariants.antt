use Rattle.std.proofs.Common.{◌≡◌, ◌+◌, ◌≤◌, ◌<◌, ◌-◌, All}
use Rattle.std.specs.List.{flat_map}
use Rattle.map_collection.specs.Kept.{Agrees, KeepsOthers}
use Rattle.data_route.specs.Reads.{places_from, places_in, read_len, FitsBlock}
use Rattle.data_route.proofs.reads.plan_read.Given as goal

-- the pieces so far lie where the bytes before `at` lie, and what is left ends where the read ends
abbrev pub invariant-loop-left : goal.invariant-loop-left
invariant-loop-left l = record {
  start : l.offset ≤ l.at;
  rest : l.at + l.left ≡ l.offset + read_len l.size l.offset l.len;
  within : 0 < l.left → l.at + l.left ≤ l.size;
  bytes : flat_map places_in l.pieces.items ≡ places_from l.overlay.runs l.map l.offset (l.at - l.offset);
  blocks : All FitsBlock l.pieces.items;
  agrees : Agrees l.collection l.ino l.map;
  others : KeepsOthers l.ino l.initial.collection l.collection;
}

abbrev pub decreases-loop-left : goal.decreases-loop-left
decreases-loop-left l = l.left
