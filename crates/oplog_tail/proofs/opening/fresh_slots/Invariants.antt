use Rattle.std.proofs.Common.{◌≡◌, map}
use Rattle.oplog_tail.specs.declared.views.Slot.TheVariants.{Fresh}
use Rattle.oplog_tail.proofs.opening.fresh_slots.Given as goal

-- the lines so far stand in slots
abbrev pub invariant-loop-line : goal.invariant-loop-line
invariant-loop-line l = l.slots.items ≡ map Fresh l.yielded
