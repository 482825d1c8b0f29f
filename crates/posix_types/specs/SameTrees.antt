-- Tests that are true exactly of equal trees.
use Rattle.std.specs.Prelude.{◌≡◌, Bool, true, false, ◌&&◌, List, refl}
use Rattle.std.specs.Cmp.Lexicographic.{pointwise, pointwise_decides, bytes_decides}
use Rattle.std.proofs.Common.{ap}
use Rattle.posix_types.specs.declared.tree.TreeNode.{TreeNode}
use Rattle.posix_types.specs.declared.tree.TreeEntry.{TreeEntry}
use Rattle.posix_types.specs.SameNames.{DecidesEqual, names_decide, same_bytes, same_names}

abbrev pub same_node : TreeNode → TreeNode → Bool
same_node TreeNode.Directory TreeNode.Directory = true
same_node TreeNode.Directory (TreeNode.File b) = false
same_node (TreeNode.File a) TreeNode.Directory = false
same_node (TreeNode.File a) (TreeNode.File b) = same_bytes a b

abbrev pub same_entry : TreeEntry → TreeEntry → Bool
same_entry a b = same_names a.path b.path && same_node a.node b.node

abbrev pub same_tree : List TreeEntry → List TreeEntry → Bool
same_tree = pointwise same_entry

pub node_decides : DecidesEqual same_node
node_decides TreeNode.Directory TreeNode.Directory = (λ _. refl, λ _. refl)
node_decides TreeNode.Directory (TreeNode.File b) = (λ e. cc, λ e. cc)
node_decides (TreeNode.File a) TreeNode.Directory = (λ e. cc, λ e. cc)
node_decides (TreeNode.File a) (TreeNode.File b) = (λ e. ap TreeNode.File ((bytes_decides a b).0 e), λ e. (bytes_decides a b).1 cc)

both_true : (a b : Bool) → (a && b) ≡ true → (a ≡ true) × (b ≡ true)
both_true true b both = (refl, both)
both_true false b both = cc

both_are : (a b : Bool) → a ≡ true → b ≡ true → (a && b) ≡ true
both_are a b e f = rw (e, f) refl

pub entry_decides : DecidesEqual same_entry
entry_decides a b = (
  λ e.
      let parts = both_true (same_names a.path b.path) (same_node a.node b.node) e in
      let path = (names_decide a.path b.path).0 parts.0 in
      let node = (node_decides a.node b.node).0 parts.1 in
      λ i. record { path = path i; node = node i },
  λ e. both_are (same_names a.path b.path) (same_node a.node b.node) ((names_decide a.path b.path).1 (ap (λ (x : TreeEntry). x.path) e)) ((node_decides a.node b.node).1 (ap (λ (x : TreeEntry). x.node) e)),
)

pub tree_decides : DecidesEqual same_tree
tree_decides = pointwise_decides entry_decides
