-- Names: directory entries, walks of paths, and what a change does to the entries.
-- These words take the entries and a test for directories, and not the whole state, so that any file system can say its own rules by them.
use Rattle.std.specs.Prelude.{ℕ, zero, suc, ◌+◌, ◌-◌, Bool, false, not, ◌&&◌, ◌||◌, ◌==◌, nat_eq, nat_lt, List, [], ◌∷◌, length, take, map, filter, find, position, insert, remove, max, fold, Option, Some, None, is_some, unwrap_or, option_map, Result, Ok, Err, if◌then◌else◌, slice_index_or}
use Rattle.std.specs.Option.{option_map_or}
use Rattle.std.specs.List.{list_any, starts_with}
use Rattle.std.specs.Ordering.{nat_cmp, is_lt}
use Rattle.std.specs.Cmp.Lexicographic.{pointwise, slice_cmp}
use Rattle.posix_types.specs.declared.reply.Errno.{Errno}
use Rattle.posix_types.specs.declared.reply.Shape.{Shape}
use Rattle.posix_tables.specs.declared.nodes.DirEntry.{DirEntry}

-- What the rules of names look at: which nodes are directories, all entries, how many nodes and name lines are left, and how long a name may be, in bytes. The root is node 0.
pub record Space : Type 0 where
  pub directory : ℕ → Bool
  pub entries : List DirEntry
  pub nodes_left : ℕ
  pub lines_left : ℕ
  pub longest : ℕ

-- how long a name may be in a file system of this shape, in bytes
abbrev pub longest_name : Shape → ℕ
longest_name shape = 48

-- how many name lines a name takes
abbrev pub lines_taken : List ℕ → ℕ
lines_taken name = 1

-- a path has at most so many names
abbrev pub longest_path : ℕ
longest_path = 16

abbrev pub same_name : List ℕ → List ℕ → Bool
same_name = pointwise nat_eq

-- whether a text stands before another in byte order
abbrev pub bytes_before : List ℕ → List ℕ → Bool
bytes_before a b = is_lt (slice_cmp nat_cmp a b)

-- Entries.

-- whether an entry is that of a name in a directory
abbrev pub is_entry : ℕ → List ℕ → DirEntry → Bool
is_entry parent name entry = (entry.parent == parent) && same_name entry.name name

-- the node that a name in a directory leads to
abbrev pub child_of : List DirEntry → ℕ → List ℕ → Option ℕ
child_of entries parent name = option_map (λ entry. entry.child) (find (is_entry parent name) entries)

-- the entries of a directory, and their names
abbrev pub entries_in : List DirEntry → ℕ → List DirEntry
entries_in entries parent = filter (λ entry. entry.parent == parent) entries

abbrev pub names_in : List DirEntry → ℕ → List (List ℕ)
names_in entries parent = map (λ entry. entry.name) (entries_in entries parent)

abbrev pub has_entries : List DirEntry → ℕ → Bool
has_entries entries parent = list_any (λ entry. entry.parent == parent) entries

-- whether a node has a name
abbrev pub is_named : List DirEntry → ℕ → Bool
is_named entries node = list_any (λ entry. entry.child == node) entries

-- Entries stand in one order: by their directory's number, and then by the bytes of the name.
abbrev pub comes_before : DirEntry → DirEntry → Bool
comes_before a b = nat_lt a.parent b.parent || ((a.parent == b.parent) && bytes_before a.name b.name)

-- the entries with one more, at its place in that order
unfoldable pub with_entry : List DirEntry → DirEntry → List DirEntry
with_entry entries entry = insert entries (unwrap_or (position (comes_before entry) entries) (length entries)) entry

-- a list without the element at a place, if there is one
abbrev pub without_place : {X : Type 0} → List X → Option ℕ → List X
without_place xs None = xs
without_place xs (Some place) = remove xs place

-- the entries without that of a name in a directory
unfoldable pub without_entry : List DirEntry → ℕ → List ℕ → List DirEntry
without_entry entries parent name = without_place entries (position (is_entry parent name) entries)

-- Paths.

abbrev pub is_root : List (List ℕ) → Bool
is_root path = length path == 0

-- the last name of a path, and the path of its directory; of the root nobody asks
abbrev pub last_name : List (List ℕ) → List ℕ
last_name path = slice_index_or path (length path - 1) []

abbrev pub directory_path : List (List ℕ) → List (List ℕ)
directory_path path = take (length path - 1) path

-- a name is longer than the longest, or there are more than 16 names
abbrev pub too_long : ℕ → List (List ℕ) → Bool
too_long longest path = list_any (λ name. nat_lt longest (length name)) path || nat_lt longest_path (length path)

-- whether a path leads below another: it begins with all names of that other
abbrev pub is_below : List (List ℕ) → List (List ℕ) → Bool
is_below path ancestor = starts_with same_name path ancestor

-- Walks.

-- A step of a walk: no name is ENOENT, a file is ENOTDIR, a directory leads on.
abbrev pub downward : (ℕ → Bool) → Option ℕ → (ℕ → Result ℕ Errno) → Result ℕ Errno
downward directory None onward = Err Errno.ENOENT
downward directory (Some node) onward = if directory node then onward node else Err Errno.ENOTDIR

-- the directory that names lead to from a directory
abbrev pub walk_from : (ℕ → Bool) → List DirEntry → ℕ → List (List ℕ) → Result ℕ Errno
walk_from directory entries at [] = Ok at
walk_from directory entries at (name ∷ names) = downward directory (child_of entries at name) (λ node. walk_from directory entries node names)

-- the walk of a path: its directory, from the root for every name but the last
unfoldable pub walk : Space → List (List ℕ) → Result ℕ Errno
walk space path = walk_from space.directory space.entries 0 (directory_path path)

-- the number of a path's directory, where the walk leads to one
abbrev pub parent_at : Space → List (List ℕ) → ℕ
parent_at space path = number_of (walk space path) where
  number_of : Result ℕ Errno → ℕ
  number_of (Ok node) = node
  number_of (Err errno) = 0

-- the node at a path, if its walk leads to a directory that has the last name
unfoldable pub node_at_path : Space → List (List ℕ) → Option ℕ
node_at_path space path = if is_root path then Some 0 else found (walk space path) where
  found : Result ℕ Errno → Option ℕ
  found (Ok directory) = child_of space.entries directory (last_name path)
  found (Err errno) = None

-- its number, where it exists
abbrev pub number_at : Space → List (List ℕ) → ℕ
number_at space path = unwrap_or (node_at_path space path) 0

abbrev pub exists_at : Space → List (List ℕ) → Bool
exists_at space path = is_some (node_at_path space path)

abbrev pub directory_stands : Space → List (List ℕ) → Bool
directory_stands space path = option_map_or space.directory (node_at_path space path) false

abbrev pub file_stands : Space → List (List ℕ) → Bool
file_stands space path = option_map_or (λ node. not (space.directory node)) (node_at_path space path) false

-- how many names the longest path below a node has, if it has at most so many
unfoldable pub height : List DirEntry → ℕ → ℕ → ℕ
height entries zero node = 0
height entries (suc most) node = fold (λ so_far entry. max so_far (height entries most entry.child + 1)) 0 (entries_in entries node)
