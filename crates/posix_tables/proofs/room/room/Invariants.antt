use Rattle.std.proofs.Common.{◌≡◌, ◌-◌, take}
use Rattle.block_counts.specs.Counts.{reserve_for}
use Rattle.posix_tables.specs.Room.{held}
use Rattle.posix_tables.proofs.room.room.Given as goal

abbrev pub invariant-loop-node : goal.invariant-loop-node
invariant-loop-node l = l.left ≡ l.data_blocks - reserve_for l.data_blocks - held (take l.node-index l.nodes)
