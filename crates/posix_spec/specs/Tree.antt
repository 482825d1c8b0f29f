-- The tree of a state, and the state of a tree.
use Rattle.std.specs.Prelude.{◌≡◌, refl, List, [], ◌∷◌, map, fold, if◌then◌else◌}
use Rattle.posix_types.specs.declared.call.Mode.{Mode}
use Rattle.posix_types.specs.declared.reply.Shape.{Shape}
use Rattle.posix_types.specs.declared.tree.TreeEntry.{TreeEntry}
use Rattle.posix_types.specs.declared.tree.TreeNode.{TreeNode}
use Rattle.posix_tables.specs.declared.nodes.Node.{Node}
use Rattle.posix_tables.specs.Open.{nothing_open}
use Rattle.posix_tables.specs.Names.{is_root}
use Rattle.posix_spec.specs.State.{made, State}
use Rattle.posix_tables.specs.Places.{node_of, places, tree_entry}

-- The tree: all paths in byte order, each with what stands there. A node without a name is not in it.
abbrev pub tree : State → List TreeEntry
tree s = map (tree_entry s.nodes) (places s.entries)

-- the root alone, and nothing open
abbrev pub bare : Shape → Mode → State
bare shape mode = record { nodes = Node.Directory ∷ []; entries = []; tables = nothing_open; shape = shape; mode = mode }

-- a state with the entry of a tree besides
abbrev pub planted : State → TreeEntry → State
planted s entry = if is_root entry.path then s else made s entry.path (node_of entry.node)

-- The state that a tree begins as: nothing is open, and published lengths are lengths.
abbrev pub start : List TreeEntry → Shape → Mode → State
start entries shape mode = fold planted (bare shape mode) entries

-- the shape of the default image, and the tree of a fresh one: the root alone
abbrev pub default_shape : Shape
default_shape = record { data_blocks = 247; nodes = 60; names = 128 }

abbrev pub root_alone : List TreeEntry
root_alone = record { path = []; node = TreeNode.Directory } ∷ []

-- it is the tree of the state that it begins as
pub tree-start-root_alone : (shape : Shape) (mode : Mode) → tree (start root_alone shape mode) ≡ root_alone
unfolding places
tree-start-root_alone shape mode = refl
