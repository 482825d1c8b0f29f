use Rattle.std.proofs.Common.{arith}
use Rattle.volume_change_laws.specs.Bounds.{map-bound, part-bound}
use Rattle.volume_change_laws.proofs.map_changes.changes_find_their_blocks.Goals as goal

pub returns-clause-reserve : goal.returns-clause-reserve
returns-clause-reserve c = map-bound

pub returns-clause-sized : goal.returns-clause-sized
returns-clause-sized c v ino chosen part free kept lines below canonical is enough =
    omega (arith, part-bound v ino chosen part kept lines below canonical is, enough)

pub returns-clause-one_more : goal.returns-clause-one_more
returns-clause-one_more c n more few = omega arith

pub returns-clause-no_fewer : goal.returns-clause-no_fewer
returns-clause-no_fewer c n m le = omega arith
