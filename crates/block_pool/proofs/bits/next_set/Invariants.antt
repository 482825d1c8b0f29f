use Rattle.std.proofs.Common.{◌-◌, ◌≤◌}
use Rattle.block_pool.specs.Bits.{NoneSet}
use Rattle.block_pool.proofs.bits.next_set.Given as goal

-- the bits passed so far are not set
abbrev pub invariant-loop-place : goal.invariant-loop-place
invariant-loop-place l = record { behind : l.from ≤ l.place; none : NoneSet l.words l.from l.place }

abbrev pub decreases-loop-place : goal.decreases-loop-place
decreases-loop-place l = l.to - l.place
