use Rattle.std.proofs.Common.{◌≡◌, ◌≤◌, ◌<◌, ℕ, false, get_or, map, take, vec_capacity, vec_len}
use Rattle.std.specs.Mem.Slots.{slots_filled, slots_items, slots_len}
use Rattle.std.specs.Mem.Slots.Ownership.{Filled}
use Rattle.oplog_tail.specs.Closing.{line_in}
use Rattle.oplog_tail.proofs.closing.take_lines.Given as goal

-- the lines of the first slots were taken out, and the other slots have theirs
abbrev pub invariant-loop-n : goal.invariant-loop-n
invariant-loop-n l = record {
  slots : slots_items l.closed.slots ≡ slots_items l.initial.closed.slots;
  count : slots_len l.closed.slots ≡ slots_len l.initial.closed.slots;
  filled : Filled (slots_filled l.closed.slots) l.n (slots_len l.closed.slots);
  taken : (k : ℕ) → k < l.n → get_or (slots_filled l.closed.slots) k false ≡ false;
  lines : l.lines.items ≡ map line_in (take l.n (slots_items l.closed.slots));
  pushed : vec_len l.lines ≡ l.n;
  room : slots_len l.closed.slots ≤ vec_capacity l.lines;
}
