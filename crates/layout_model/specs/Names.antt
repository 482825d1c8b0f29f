-- The names of a volume: one row a name line, none where the line is free. Names tie a parent directory and the
-- bytes of a name to a child; inodes are numbers.
use Rattle.std.specs.Prelude.{◌≡◌, ℕ, zero, suc, ◌+◌, ◌≤◌, List, [], ◌∷◌, length, Bool, true, false, ◌&&◌, ◌||◌, ◌==◌, cond, Option, Some, None, option_and_then, IsSome, slice_index_or}
use Rattle.std.specs.List.{list_any, count_by}
use Rattle.layout_model.specs.Fields.{is_same}
use Rattle.layout_model.specs.Lines.{NameRow}

abbrev pub Rows : Type 0
Rows = List (Option NameRow)

-- the row of line k, if it is in use
abbrev pub row : Rows → ℕ → Option NameRow
row rows k = slice_index_or rows k None

-- the row names this child of this parent
abbrev pub is_entry : ℕ → List ℕ → Option NameRow → Bool
is_entry parent name None = false
is_entry parent name (Some r) = (r.parent == parent) && is_same r.name name

abbrev pub is_child : ℕ → Option NameRow → Bool
is_child child None = false
is_child child (Some r) = r.child == child

abbrev pub is_below_parent : ℕ → Option NameRow → Bool
is_below_parent parent None = false
is_below_parent parent (Some r) = r.parent == parent

abbrev pub child_of_row : Option NameRow → ℕ
child_of_row None = 0
child_of_row (Some r) = r.child

abbrev pub parent_of_row : Option NameRow → ℕ
parent_of_row None = 0
parent_of_row (Some r) = r.parent

-- the first line from line k on whose row passes the test, with the row
abbrev pub first_row_from : (Option NameRow → Bool) → ℕ → Rows → Option (ℕ × Option NameRow)
first_row_from test k [] = None
first_row_from test k (r ∷ rows) = cond (test r) (Some (k, r)) (first_row_from test (k + 1) rows)

-- the lowest line of a parent's name and its child
abbrev pub line_and_child : ℕ × Option NameRow → ℕ × ℕ
line_and_child found = (found.0, child_of_row found.1)

abbrev pub find_name : Rows → ℕ → List ℕ → Option (ℕ × ℕ)
find_name rows parent name = option_and_then (λ found. Some (line_and_child found)) (first_row_from (is_entry parent name) 0 rows)

abbrev pub child_named : Rows → ℕ → List ℕ → Option ℕ
child_named rows parent name = option_and_then (λ found. Some found.1) (find_name rows parent name)

-- the lowest free line
abbrev pub is_free_row : Option NameRow → Bool
is_free_row None = true
is_free_row (Some r) = false

abbrev pub free_line : Rows → Option ℕ
free_line rows = option_and_then (λ found. Some found.0) (first_row_from is_free_row 0 rows)

-- how many names an inode has, and whether a directory has entries
abbrev pub names_of : Rows → ℕ → ℕ
names_of rows ino = count_by (is_child ino) rows

abbrev pub has_entries : Rows → ℕ → Bool
has_entries rows parent = list_any (is_below_parent parent) rows

-- the directory above an inode: the parent in the lowest line whose child it is
abbrev pub parent_of : Rows → ℕ → Option ℕ
parent_of rows ino = option_and_then (λ found. Some (parent_of_row found.1)) (first_row_from (is_child ino) 0 rows)

-- n directories up from an inode
unfoldable pub up : Rows → ℕ → ℕ → Option ℕ
up rows zero ino = Some ino
up rows (suc n) ino = option_and_then (up rows n) (parent_of rows ino)

-- going up from the inode, itself included, one comes to the ancestor
abbrev pub IsBelow : Rows → ℕ → ℕ → Type 0
IsBelow rows ino ancestor = (n : ℕ) × (up rows n ino ≡ Some ancestor)

-- Whether going up from the inode, itself included, comes to the root, inode 0, within n steps. It is asked of tables
-- of any kind: where a directory has several names one goes up by the lowest line, and where a path leads back one
-- never comes to the root.
abbrev pub holds_above : (ℕ → Bool) → Option ℕ → Bool
holds_above test None = false
holds_above test (Some parent) = test parent

unfoldable pub ends_at_root : Rows → ℕ → ℕ → Bool
ends_at_root rows zero ino = ino == 0
ends_at_root rows (suc n) ino = (ino == 0) || holds_above (ends_at_root rows n) (parent_of rows ino)

-- the inode that a path of names leads to, from an inode down
unfoldable pub walk : Rows → ℕ → List (List ℕ) → Option ℕ
walk rows ino [] = Some ino
walk rows ino (name ∷ names) = option_and_then (λ child. walk rows child names) (child_named rows ino name)

-- the longest path below an inode has h names
pub record HasHeight (rows : Rows) (ino h : ℕ) : Type 0 where
  pub some : (names : List (List ℕ)) × (length names ≡ h) × IsSome (walk rows ino names)
  pub none_longer : (names : List (List ℕ)) → IsSome (walk rows ino names) → length names ≤ h
