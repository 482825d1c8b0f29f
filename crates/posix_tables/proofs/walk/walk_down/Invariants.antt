use Rattle.std.proofs.Common.{◌≡◌, drop}
use Rattle.posix_tables.specs.Nodes.{is_directory}
use Rattle.posix_tables.specs.Names.{walk_from}
use Rattle.posix_tables.proofs.walk.walk_down.Given as goal

abbrev pub invariant-loop-name : goal.invariant-loop-name
invariant-loop-name l =
    walk_from (is_directory l.nodes) l.entries l.at (drop l.name-index l.names) ≡ walk_from (is_directory l.nodes) l.entries 0 l.names
