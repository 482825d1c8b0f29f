-- A tree tells its content.
use Rattle.std.proofs.Common.{◌≡◌, ℕ, List, Option, Some, None, refl, sym, ap}
use Rattle.std.specs.Prelude.{option_map}
use Rattle.std.proofs.lemmas.Option.{same_Some}
use Rattle.name_laws.specs.image_model.Content.{Node, IsDirectory, HasBytes}
use Rattle.posix_types.specs.declared.tree.TreeEntry.{TreeEntry}
use Rattle.posix_types.specs.declared.tree.TreeNode.{TreeNode}
use Rattle.posix_laws.specs.TreeOf.{IsTreeOf, IsTreeOf-same}
use Rattle.k_tables.specs.Laws.{TellContents, HasOneTree}
use Rattle.k_tables.specs.ContentsTrees.{tree_content, tree_node}

same_node : (x y : Node) → tree_node x ≡ tree_node y → x ≡ y
same_node IsDirectory IsDirectory same = refl
same_node IsDirectory (HasBytes bytes) same = cc
same_node (HasBytes bytes) IsDirectory same = cc
same_node (HasBytes bytes) (HasBytes others) same = let both : bytes ≡ others = cc in ap HasBytes both

-- what one content has at a path the other has there
abbrev Has : (List (List ℕ) → Option Node) → (List (List ℕ) → Option Node) → Type 0
Has a b = (path : List (List ℕ)) (node : TreeNode) → tree_content a path ≡ Some node → tree_content b path ≡ Some node

has : (a b : List (List ℕ) → Option Node) (tree : List TreeEntry) → IsTreeOf (tree_content a) tree → IsTreeOf (tree_content b) tree → Has a b
has a b tree first second path node stands = second.each (record { path = path; node = node }) (first.all path node stands)

same_at : (x y : Option Node) → ((node : TreeNode) → option_map tree_node x ≡ Some node → option_map tree_node y ≡ Some node)
    → ((node : TreeNode) → option_map tree_node y ≡ Some node → option_map tree_node x ≡ Some node) → x ≡ y
same_at None None on back = refl
same_at None (Some n) on back = let never : None ≡ Some (tree_node n) = back (tree_node n) refl in cc
same_at (Some n) None on back = let never : None ≡ Some (tree_node n) = on (tree_node n) refl in cc
same_at (Some n) (Some m) on back = ap Some (sym (same_node m n (same_Some (tree_node m) (tree_node n) (on (tree_node n) refl))))

pub tell-contents : TellContents
tell-contents a b tree first second path =
    same_at (a path) (b path) (λ node. has a b tree first second path node) (λ node. has b a tree second first path node)

pub one-tree : HasOneTree
one-tree a tree other first second = IsTreeOf-same (tree_content a) tree other first second
