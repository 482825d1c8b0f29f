use Rattle.std.proofs.Common.{◌≡◌, ◌++◌, drop, map}
use Rattle.k_tables.specs.TablesTrees.{child_place}
use Rattle.k_tables.proofs.tables.trees.push_children.Given as goal

abbrev pub invariant-loop-name : goal.invariant-loop-name
invariant-loop-name l =
    l.found.items ++ map (child_place l.names l.place) (drop l.name-index l.name-items)
    ≡ l.fn.found.items ++ map (child_place l.names l.place) l.name-items
