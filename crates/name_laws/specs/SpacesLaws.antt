-- The chief laws of the space of a volume, each as one statement.
use Rattle.std.specs.Prelude.{◌≡◌, ◌≢◌, ◌<◌, ◌≤◌, ℕ, ◌+◌, List, [], ◌∷◌, ◌++◌, length, Bool, true, false, Some, None, Ok}
use Rattle.k_split_model.specs.layout_model.Names.{Rows, child_named, names_of, up, walk, has_entries as has_rows}
use Rattle.k_split_model.specs.Spaces.{entries_of}
use Rattle.name_laws.specs.Forests.{IsForest}
use Rattle.k_split_model.specs.posix_types.declared.reply.What.{What}
use Rattle.k_split_model.specs.posix_types.declared.reply.Errno.{Errno}
use Rattle.k_split_model.specs.posix_types.declared.reply.Reply.{Reply}
use Rattle.k_split_model.specs.posix_tables.NameRows.{mkdir_rows, rmdir_rows, unlink_rows, rename_rows, rename_kind_rows}
use Rattle.k_split_model.specs.posix_tables.Names.{child_of, has_entries, height, is_below, longest_path, node_at_path, Space, walk_from}
use Rattle.k_split_model.specs.posix_tables.Outcomes.{answer, first, no_space}
use Rattle.name_laws.specs.EntryLaws.{LeadsTo}
use Rattle.name_laws.specs.LookLaws.{HaveDirectories}
use Rattle.name_laws.specs.Paths.{IsAt, IsNewAt, HasRoom, MayGo, MayLand}

-- ---- the entries are the rows

abbrev pub HasChildren : Type 0
HasChildren =
    (rows : Rows) (parent : ℕ) (name : List ℕ) → child_of (entries_of rows) parent name ≡ child_named rows parent name

abbrev pub HasEntries : Type 0
HasEntries = (rows : Rows) (parent : ℕ) → has_entries (entries_of rows) parent ≡ has_rows rows parent

abbrev pub LeadsInRows : Type 0
LeadsInRows =
    (directory : ℕ → Bool) (rows : Rows) (at : ℕ) (names : List (List ℕ)) (end : ℕ)
    → walk_from directory (entries_of rows) at names ≡ Ok end → LeadsTo directory rows at names end

-- a path that leads to a node in the rows has it in the space
abbrev pub HasNodeAt : Type 0
HasNodeAt =
    (s : Space) (rows : Rows) (p : List (List ℕ)) (node : ℕ) → s.entries ≡ entries_of rows
    → HaveDirectories s.directory rows
    → walk rows 0 p ≡ Some node → node_at_path s p ≡ Some node

-- no path down from a node is longer than its height
abbrev pub BoundsPaths : Type 0
BoundsPaths =
    (rows : Rows) (most ino : ℕ) (names : List (List ℕ)) (end : ℕ) → walk rows ino names ≡ Some end
    → height (entries_of rows) most ino < most → length names ≤ height (entries_of rows) most ino

-- ---- trees

-- from one inode to another that has at most one name, as each directory has, there is one path
abbrev pub HasOnePath : Type 0
HasOnePath =
    (directory : ℕ → Bool) (rows : Rows) (ino : ℕ) (xs ys : List (List ℕ)) (end : ℕ) → IsForest directory rows
    → names_of rows end ≤ 1 → walk rows ino xs ≡ Some end → walk rows ino ys ≡ Some end
    → xs ≡ ys

-- a path whose end, with at most one name, lies below an inode begins with the path of that inode
abbrev pub BeginsWithPath : Type 0
BeginsWithPath =
    (directory : ℕ → Bool) (rows : Rows) (p q : List (List ℕ)) (name : List ℕ) (child end m : ℕ) → IsForest directory rows
    → names_of rows end ≤ 1 → walk rows 0 p ≡ Some child
    → walk rows 0 q ≡ Some end → up rows m end ≡ Some child → is_below (q ++ (name ∷ [])) p ≡ true

-- ---- where no row fits

abbrev pub TellsMkdir : Type 0
TellsMkdir =
    (s : Space) (p : List (List ℕ)) → first (mkdir_rows s p) ≡ None → (parent : ℕ) × IsNewAt s p parent × HasRoom s

abbrev pub TellsUnlink : Type 0
TellsUnlink =
    (s : Space) (p : List (List ℕ)) → first (unlink_rows s p) ≡ None
    → (parent : ℕ) × (child : ℕ) × IsAt s p parent child × (s.directory child ≡ false)

abbrev pub TellsRmdir : Type 0
TellsRmdir =
    (s : Space) (p : List (List ℕ)) → first (rmdir_rows s p) ≡ None
    → (parent : ℕ) × (child : ℕ) × IsAt s p parent child × (s.directory child ≡ true) × (has_entries s.entries child ≡ false)

abbrev pub TellsRename : Type 0
TellsRename =
    (s : Space) (p q : List (List ℕ)) → first (rename_rows s p q) ≡ None
    → (from : ℕ) × (child : ℕ) × (to : ℕ) × MayGo s p q from child to

-- and the other way round
abbrev pub AllowsMkdir : Type 0
AllowsMkdir =
    (s : Space) (p : List (List ℕ)) (parent : ℕ) → IsNewAt s p parent → HasRoom s → first (mkdir_rows s p) ≡ None

abbrev pub AllowsRename : Type 0
AllowsRename =
    (s : Space) (p q : List (List ℕ)) (from child to : ℕ) → MayGo s p q from child to → first (rename_rows s p q) ≡ None

-- ---- the row that fits

-- of what is used up, nodes are told before name lines
abbrev pub RefusesNodes : Type 0
RefusesNodes =
    (s : Space) (p : List (List ℕ)) (parent : ℕ) → IsNewAt s p parent → s.nodes_left ≡ 0
    → first (mkdir_rows s p) ≡ Some (no_space What.Nodes 1 0)

abbrev pub RefusesLines : Type 0
RefusesLines =
    (s : Space) (p : List (List ℕ)) (parent : ℕ) → IsNewAt s p parent → s.nodes_left ≢ 0 → s.lines_left ≡ 0
    → first (mkdir_rows s p) ≡ Some (no_space What.Names 1 0)

-- a directory does not go below itself
abbrev pub RefusesBelow : Type 0
RefusesBelow =
    (s : Space) (p q : List (List ℕ)) (from child : ℕ) → IsAt s p from child → s.directory child ≡ true
    → is_below q p ≡ true
    → first (rename_kind_rows s p q) ≡ Some (answer (Reply.Error Errno.EINVAL))

-- nothing below a directory gets more than 16 names
abbrev pub RefusesDeep : Type 0
RefusesDeep =
    (s : Space) (p q : List (List ℕ)) (from child to : ℕ) → IsAt s p from child → s.directory child ≡ true
    → is_below q p ≡ false
    → MayLand s q to child → longest_path < length q + height s.entries longest_path child
    → first (rename_kind_rows s p q) ≡ Some (answer (Reply.Error Errno.ENAMETOOLONG))

-- a path renamed to itself, or to another name of its node, stays
abbrev pub LeavesSame : Type 0
LeavesSame =
    (s : Space) (p q : List (List ℕ)) (from child to : ℕ) → IsAt s p from child → IsAt s q to child
    → first (rename_rows s p q) ≡ Some (answer Reply.Ok)
