use Rattle.k_tables.specs.TablesTrees.{AreShort, IsLevel}
use Rattle.k_tables.proofs.tables.trees.places_by_length.Given as goal

abbrev pub invariant-loop-length : goal.invariant-loop-length
invariant-loop-length l = AreShort l.names l._length l.places.items × IsLevel l.names l._length l.level.items
