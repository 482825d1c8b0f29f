-- The places of a file system: all paths with the nodes that they lead to.
use Rattle.std.specs.Prelude.{ℕ, zero, suc, ◌==◌, List, [], ◌∷◌, ◌++◌, length, find, position, insert, flat_map, fold, unwrap_or, if◌then◌else◌}
use Rattle.std.specs.Option.{option_map_or}
use Rattle.posix_types.specs.declared.tree.TreeEntry.{TreeEntry}
use Rattle.posix_types.specs.declared.tree.TreeNode.{TreeNode}
use Rattle.posix_tables.specs.declared.nodes.Node.{Node}
use Rattle.posix_tables.specs.declared.nodes.DirEntry.{DirEntry}
use Rattle.posix_tables.specs.declared.places.Place.{Place}
use Rattle.posix_tables.specs.Names.{is_root, bytes_before}
use Rattle.posix_tables.specs.Nodes.{node_at}

-- a path as it is printed: each name behind a slash, and the root a slash alone
abbrev pub printed : List (List ℕ) → List ℕ
printed path = if is_root path then 47 ∷ [] else flat_map (λ name. 47 ∷ name) path

-- the path of a directory, going up at most so many names: that of its own directory, and its name; the root has no entry
unfoldable pub path_to : List DirEntry → ℕ → ℕ → List (List ℕ)
path_to entries zero node = []
path_to entries (suc most) node = option_map_or (λ entry. path_to entries most entry.parent ++ entry.name ∷ []) (find (λ entry. entry.child == node) entries) []

-- a path with its printed text, and the node that it leads to
abbrev pub place_of : List (List ℕ) → ℕ → Place
place_of path node = record { path = path; text = printed path; node = node }

-- where an entry leads; no path has more names than there are entries
unfoldable pub entry_place : List DirEntry → DirEntry → Place
entry_place entries entry = place_of (path_to entries (length entries) entry.parent ++ entry.name ∷ []) entry.child

-- the places with one more, in the byte order of the printed paths
unfoldable pub with_place : List Place → Place → List Place
with_place places place = insert places (unwrap_or (position (λ other. bytes_before place.text other.text) places) (length places)) place

-- all paths with the nodes that they lead to, the root first
unfoldable pub places : List DirEntry → List Place
places entries = fold (λ so_far entry. with_place so_far (entry_place entries entry)) (place_of [] 0 ∷ []) entries

abbrev pub tree_node : Node → TreeNode
tree_node Node.Gone = TreeNode.Directory
tree_node Node.Directory = TreeNode.Directory
tree_node (Node.File file) = TreeNode.File file.bytes

abbrev pub tree_entry : List Node → Place → TreeEntry
tree_entry nodes place = record { path = place.path; node = tree_node (node_at nodes place.node) }

-- the node that an entry of a tree begins as: the length of a file is published
abbrev pub node_of : TreeNode → Node
node_of TreeNode.Directory = Node.Directory
node_of (TreeNode.File bytes) = Node.File (record { bytes = bytes; published = length bytes })
