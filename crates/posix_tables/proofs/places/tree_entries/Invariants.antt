use Rattle.std.proofs.Common.{◌≡◌, ◌++◌, drop, map}
use Rattle.posix_tables.specs.Places.{tree_entry}
use Rattle.posix_tables.proofs.places.tree_entries.Given as goal

abbrev pub invariant-loop-place : goal.invariant-loop-place
invariant-loop-place l =
    l.tree.items ++ map (tree_entry l.nodes) (drop l.place-index l.place-items) ≡ map (tree_entry l.nodes) l.place-items
