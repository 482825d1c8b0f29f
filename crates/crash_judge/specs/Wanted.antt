-- The bytes that a tree wants of a node. A node is found by the numbers of the places, in the order of the tree.
use Rattle.std.specs.Prelude.{◌≡◌, ℕ, ◌<◌, ◌==◌, nat_lt, List, [], ◌∷◌, length, map, replicate, if◌then◌else◌}
use Rattle.crash_spec.specs.posix_types.declared.tree.TreeEntry.{TreeEntry}
use Rattle.crash_spec.specs.posix_types.declared.tree.TreeNode.{TreeNode}
use Rattle.posix_tables.specs.declared.nodes.DirEntry.{DirEntry}
use Rattle.posix_tables.specs.declared.nodes.Node.{Node}
use Rattle.posix_tables.specs.declared.places.Place.{Place}
use Rattle.posix_tables.specs.Nodes.{node_at}
use Rattle.posix_tables.specs.Places.{places}

-- the bytes of a tree's file, and none of a directory
abbrev pub entry_bytes : TreeNode → List ℕ
entry_bytes TreeNode.Directory = []
entry_bytes (TreeNode.File bytes) = bytes

-- those of the first entry whose place leads to a node; none where there is no such place
abbrev pub wanted : List ℕ → List TreeEntry → ℕ → List ℕ
wanted [] left n = []
wanted (m ∷ numbers) [] n = []
wanted (m ∷ numbers) (entry ∷ left) n = if m == n then entry_bytes entry.node else wanted numbers left n

-- a number that is below a count, or else the count
abbrev pub within : ℕ → ℕ → ℕ
within count n = if nat_lt n count then n else count

-- the numbers of the nodes that the places lead to
abbrev pub numbers_of : ℕ → List DirEntry → List ℕ
numbers_of count entries = map (λ (place : Place). within count place.node) (places entries)

-- Nodes that tell their own numbers: node k is a file of k bytes.
abbrev pub label : ℕ → Node
label k = Node.File (record { bytes = replicate k 0; published = 0 })

pub record AreLabels (count : ℕ) (nodes : List Node) : Type 0 where
  pub size : length nodes ≡ count
  pub each : (k : ℕ) → k < count → node_at nodes k ≡ label k

-- the number that a tree's node tells
abbrev pub told_number : ℕ → TreeNode → ℕ
told_number count TreeNode.Directory = count
told_number count (TreeNode.File bytes) = length bytes
