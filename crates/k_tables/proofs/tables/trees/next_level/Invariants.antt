use Rattle.k_tables.proofs.TreeLaws.{ArePart}
use Rattle.k_tables.proofs.tables.trees.next_level.Given as goal

abbrev pub invariant-loop-place : goal.invariant-loop-place
invariant-loop-place l = ArePart l.names l.level l.place-index l.next.items
