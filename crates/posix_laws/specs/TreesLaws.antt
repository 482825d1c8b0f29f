-- The laws of trees, each as one statement.
use Rattle.std.specs.Prelude.{◌≡◌, ℕ, List, Option}
use Rattle.posix_spec.specs.posix_types.declared.call.Mode.{Mode}
use Rattle.posix_spec.specs.posix_types.declared.reply.Shape.{Shape}
use Rattle.posix_spec.specs.posix_types.declared.tree.TreeEntry.{TreeEntry}
use Rattle.posix_spec.specs.posix_types.declared.tree.TreeNode.{TreeNode}
use Rattle.posix_spec.specs.State.{State}
use Rattle.posix_spec.specs.Tree.{start, tree}
use Rattle.posix_laws.specs.Begins.{IsTree}
use Rattle.posix_laws.specs.Entries.{IsTreeLike}
use Rattle.posix_laws.specs.Paths.{stands_at}
use Rattle.posix_laws.specs.TreeOf.{IsTreeOf}

-- A state that begins with a tree (the root first, each path once, below a directory that stands before it, in byte order)
-- has that tree.
abbrev pub BeginsAsItself : Type 0
BeginsAsItself = (left : List TreeEntry) (shape : Shape) (mode : Mode) → IsTree left → tree (start left shape mode) ≡ left

-- A content has at most one tree.
abbrev pub HasOneTree : Type 0
HasOneTree = (content : List (List ℕ) → Option TreeNode) (a b : List TreeEntry) → IsTreeOf content a → IsTreeOf content b → a ≡ b

-- The tree of a state whose entries are those of a tree lists what stands at its paths.
abbrev pub ListsWhatStands : Type 0
ListsWhatStands = (s : State) → IsTreeLike s.entries → IsTreeOf (stands_at s) (tree s)
