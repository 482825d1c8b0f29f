-- The tree of what tables and a device hold, and what it asks for.
use Rattle.std.specs.Prelude.{◌≡◌, ◌⊎◌, ℕ, ◌≤◌, List, [], length, true, Option, Some, option_map, slice_index_or}
use Rattle.pm_lines.specs.pm_model.declared.Cell.{Cell}
use Rattle.pm_lines.specs.pm_model.Cells.{AllHome}
use Rattle.pm_lines.specs.pm_model.Words.{Words}
use Rattle.extent_map.specs.extent_model.declared.extent_words.Extent.{Extent}
use Rattle.layout_model.specs.declared.lines.Inode.{Inode}
use Rattle.layout_model.specs.declared.lines.Kind.{Kind}
use Rattle.layout_model.specs.declared.lines.Kind.TheVariants.{Free, Directory, File, Staging}
use Rattle.layout_model.specs.block_counts.declared.TheConstants.{LONGEST_FILE}
use Rattle.layout_model.specs.Lines.{NameRow, is_name}
use Rattle.layout_model.specs.Names.{Rows, row, walk}
use Rattle.layout_model.specs.Tables.{IsKeyed}
use Rattle.name_laws.specs.image_model.Content.{Node, IsDirectory, HasBytes}
use Rattle.name_laws.specs.image_model.Live.{is_directory, is_file}
use Rattle.name_laws.specs.image_model.Volume.{Volume, free_inode}
use Rattle.posix_types.specs.declared.tree.TreeEntry.{TreeEntry}
use Rattle.posix_types.specs.declared.tree.TreeNode.{TreeNode}
use Rattle.posix_laws.specs.posix_tables.Names.{longest_path}
use Rattle.k_tables.specs.declared.tables.trees.TreePlace.{TreePlace}
use Rattle.k_tables.specs.Files.{first_bytes, IsInside}

-- what stands at each path of an image, as a tree says it
abbrev pub tree_node : Node → TreeNode
tree_node IsDirectory = TreeNode.Directory
tree_node (HasBytes bytes) = TreeNode.File bytes

abbrev pub tree_content : (List (List ℕ) → Option Node) → List (List ℕ) → Option TreeNode
tree_content content path = option_map tree_node (content path)

-- the parts of tables by number
abbrev pub inode_in : List Inode → ℕ → Inode
inode_in inodes ino = slice_index_or inodes ino free_inode

abbrev pub map_in : List (List Extent) → ℕ → List Extent
map_in maps ino = slice_index_or maps ino []

-- the volume has these inodes, names and maps
pub record HasTables (inodes : List Inode) (rows : Rows) (maps : List (List Extent)) (v : Volume) : Type 0 where
  pub same_inodes : v.inodes ≡ inodes
  pub same_names : v.names ≡ rows
  pub same_maps : v.maps ≡ maps

-- a directory or a file, as names lead to
abbrev pub IsNode : List Inode → ℕ → Type 0
IsNode inodes ino = (is_directory (inode_in inodes ino).kind ≡ true) ⊎ (is_file (inode_in inodes ino).kind ≡ true)

-- The tables are those of a tree that can be read from the device: nothing is lent; the root and each child of a name are
-- directories or files; names are spelled as names, lead to one child, and no path has more than 16 of them; files have
-- at most 16,777,216 bytes, and their blocks lie in the device.
pub record HasTree (inodes : List Inode) (rows : Rows) (maps : List (List Extent)) (d : List Cell) : Type 0 where
  pub home : AllHome d
  pub map_count : length maps ≡ length inodes
  pub root : IsNode inodes 0
  pub children : (k : ℕ) (r : NameRow) → row rows k ≡ Some r → IsNode inodes r.child
  pub spelled : (k : ℕ) (r : NameRow) → row rows k ≡ Some r → is_name r.name ≡ true
  pub keyed : IsKeyed rows
  pub short : (path : List (List ℕ)) (ino : ℕ) → walk rows 0 path ≡ Some ino → length path ≤ longest_path
  pub sizes : (ino : ℕ) → (inode_in inodes ino).size ≤ LONGEST_FILE
  pub inside : (ino : ℕ) → IsInside (map_in maps ino) d

-- what an inode is in a tree, and the entry of a place
abbrev pub node_by : Kind → List ℕ → TreeNode
node_by Free bytes = TreeNode.Directory
node_by Directory bytes = TreeNode.Directory
node_by File bytes = TreeNode.File bytes
node_by Staging bytes = TreeNode.Directory

abbrev pub node_in : Inode → List Extent → Words → TreeNode
node_in x es f = node_by x.kind (first_bytes es f x.size)

abbrev pub entry_in : List Inode → List (List Extent) → Words → TreePlace → TreeEntry
entry_in inodes maps f place = record { path = place.path; node = node_in (inode_in inodes place.ino) (map_in maps place.ino) f }
