-- A worked row: a tree of three paths, which is the tree of the state that it begins as, in every shape and mode.
use Rattle.std.specs.Prelude.{◌≡◌, true, List, [], ◌∷◌, ◌++◌, length, refl}
use Rattle.std.proofs.Common.{arith, ap, sym, ◌∙◌, inl, inr, codes}
use Rattle.posix_spec.specs.posix_types.declared.call.Mode.{Mode}
use Rattle.posix_spec.specs.posix_types.declared.reply.Shape.{Shape}
use Rattle.posix_spec.specs.posix_types.declared.tree.TreeEntry.{TreeEntry}
use Rattle.posix_spec.specs.posix_types.declared.tree.TreeNode.{TreeNode}
use Rattle.posix_spec.specs.posix_tables.Names.{bytes_before}
use Rattle.posix_spec.specs.posix_tables.Places.{printed}
use Rattle.posix_spec.specs.Tree.{start, tree}
use Rattle.posix_laws.specs.Begins.{IsTree, MayFollow}
use Rattle.list_laws.specs.Members.{In}
use Rattle.posix_laws.specs.TreeLaws.{tree-start}

abbrev root : TreeEntry
root = record { path = []; node = TreeNode.Directory }

abbrev directory_a : TreeEntry
directory_a = record { path = codes "a" ∷ []; node = TreeNode.Directory }

abbrev file_ab : TreeEntry
file_ab = record { path = codes "a" ∷ codes "b" ∷ []; node = TreeNode.File (codes "hi") }

-- `/`, `/a`, and `/a/b` with the bytes `hi`
abbrev pub three_paths : List TreeEntry
three_paths = root ∷ directory_a ∷ file_ab ∷ []

a_follows : MayFollow (root ∷ []) directory_a
a_follows = record { above = root; name = codes "a"; stands = inl refl; directory = refl; below = refl; last = last } where
  last : (other : TreeEntry) → In other (root ∷ []) → bytes_before (printed other.path) (printed directory_a.path) ≡ true
  last other (inl same) = ap (λ (o : TreeEntry). bytes_before (printed o.path) (printed directory_a.path)) (sym same)
  last other (inr none) = absurd none

b_follows : MayFollow (root ∷ directory_a ∷ []) file_ab
b_follows = record { above = directory_a; name = codes "b"; stands = inr (inl refl); directory = refl; below = refl; last = last } where
  last : (other : TreeEntry) → In other (root ∷ directory_a ∷ []) → bytes_before (printed other.path) (printed file_ab.path) ≡ true
  last other (inl same) = ap (λ (o : TreeEntry). bytes_before (printed o.path) (printed file_ab.path)) (sym same)
  last other (inr (inl same)) = ap (λ (o : TreeEntry). bytes_before (printed o.path) (printed file_ab.path)) (sym same)
  last other (inr (inr none)) = absurd none

pub IsTree-three_paths : IsTree three_paths
IsTree-three_paths = (refl, refl, (a_follows, (b_follows, tt)))

-- two paths in the other order are no tree
pub not_IsTree-swapped : IsTree (root ∷ file_ab ∷ directory_a ∷ []) → ⊥
not_IsTree-swapped is = by is.2.0.stands is.2.0.below where
  by : In is.2.0.above (root ∷ []) → file_ab.path ≡ is.2.0.above.path ++ is.2.0.name ∷ [] → ⊥
  by (inl same) below =
      let short : length file_ab.path ≡ length (root.path ++ is.2.0.name ∷ []) = ap length (below ∙ ap (λ (o : TreeEntry). o.path ++ is.2.0.name ∷ []) (sym same)) in
      omega (arith, short)
  by (inr none) below = none

pub tree-start-three_paths : (shape : Shape) (mode : Mode) → tree (start three_paths shape mode) ≡ three_paths
tree-start-three_paths shape mode = tree-start three_paths shape mode IsTree-three_paths
