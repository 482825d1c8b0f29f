-- Nodes, by their numbers.
use Rattle.std.specs.Prelude.{ℕ, Bool, true, false, List, [], length, slice_index_or}
use Rattle.posix_tables.specs.declared.nodes.Node.{Node}

-- the node with a number; `Gone` for a number that is not there
abbrev pub node_at : List Node → ℕ → Node
node_at nodes n = slice_index_or nodes n Node.Gone

abbrev pub is_directory : List Node → ℕ → Bool
is_directory nodes n = test (node_at nodes n) where
  test : Node → Bool
  test Node.Gone = false
  test Node.Directory = true
  test (Node.File file) = false

abbrev pub is_live : Node → Bool
is_live Node.Gone = false
is_live Node.Directory = true
is_live (Node.File file) = true

-- the published length of a file
abbrev pub published_of : Node → ℕ
published_of Node.Gone = 0
published_of Node.Directory = 0
published_of (Node.File file) = file.published

-- the bytes of a node: none of a directory
abbrev pub bytes_of : Node → List ℕ
bytes_of Node.Gone = []
bytes_of Node.Directory = []
bytes_of (Node.File file) = file.bytes

-- a file whose length is published
abbrev pub published_node : Node → Node
published_node Node.Gone = Node.Gone
published_node Node.Directory = Node.Directory
published_node (Node.File file) = Node.File (record { bytes = file.bytes; published = length file.bytes })
