use Rattle.std.proofs.Common.{◌≡◌, drop}
use Rattle.name_laws.specs.k_split_model.Spaces.{entries_of, is_directory_in}
use Rattle.posix_tables.specs.Names.{walk_from}
use Rattle.k_tables.proofs.tables.walks.walk_down.Given as goal

-- from here the names that are left lead where all lead from the root
abbrev pub invariant-loop-name : goal.invariant-loop-name
invariant-loop-name l =
    walk_from (is_directory_in l.inodes) (entries_of l.names) l.at (drop l.name-index l.path)
    ≡ walk_from (is_directory_in l.inodes) (entries_of l.names) 0 l.path
