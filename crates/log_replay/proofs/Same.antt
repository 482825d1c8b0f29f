-- Without nameless files the same stands at each path, and the tree of a content is one as the World speaks of it.
use Rattle.std.specs.Prelude.{◌≡◌, ◌⊎◌, ◌/◌, ℕ, List, [], ◌∷◌, map, Option, Some, None, option_map, option_and_then, refl}
use Rattle.std.specs.List.{range_with_len}
use Rattle.std.proofs.Common.{◌∙◌, sym, ap, inl, inr}
use Rattle.std.proofs.lemmas.Option.{same_Some}
use Rattle.world_image_laws.specs.pm_model.Words.{Words}
use Rattle.world_image_laws.specs.extent_model.Extents.{disk_at}
use Rattle.world_image_laws.specs.layout_model.declared.lines.Kind.TheVariants.{Directory, File}
use Rattle.world_image_laws.specs.layout_model.Names.{Rows, walk}
use Rattle.world_image_laws.specs.layout_model.TableLaws.{walk-step}
use Rattle.world_image_laws.specs.image_model.Content.{byte_in, found, HasBytes, IsDirectory, Node, node_by, node_of}
use Rattle.world_image_laws.specs.image_model.Volume.{inode, Volume}
use Rattle.k_split.specs.k_tables.ContentsTrees.{tree_node}
use Rattle.world_image_laws.specs.posix_types.declared.tree.TreeNode.{TreeNode}
use Rattle.world_image_laws.specs.world_model.Shown.{shown_as}
use Rattle.world_image_laws.specs.world_step_laws.Nameless.{count-nameless, IsNameless}
use Rattle.log_replay.specs.Laws.{ShowsTheSame, TreesAreOfContent}
use Rattle.log_replay.specs.Sheds.{IsKeptAt, IsShedAt, Sheds}

-- ---- trees

node-back : (o : Option Node) (node : TreeNode) → option_map tree_node o ≡ Some node → o ≡ Some (shown_as node)
node-back None node is = cc
node-back (Some IsDirectory) node is = ap (λ n. Some (shown_as n)) (same_Some TreeNode.Directory node is)
node-back (Some (HasBytes bytes)) node is = ap (λ n. Some (shown_as n)) (same_Some (TreeNode.File bytes) node is)

node-there : (o : Option Node) (node : TreeNode) → o ≡ Some (shown_as node) → option_map tree_node o ≡ Some node
node-there o TreeNode.Directory is = ap (option_map tree_node) is
node-there o (TreeNode.File bytes) is = ap (option_map tree_node) is

pub trees_are_of_content : TreesAreOfContent
trees_are_of_content content left is = record {
  rising = is.rising;
  each = λ e there. node-back (content e.path) e.node (is.each e there);
  all = λ path node stands. is.all path node (node-there (content path) node stands);
}

-- ---- nameless files

node_same : (v w : Volume) (f : Words) (ino : ℕ) → IsKeptAt v w ino → node_of w [] f ino ≡ node_of v [] f ino
unfolding node_of
node_same v w f ino kept =
    λ i. node_by (kept.line i).kind (map (λ k. byte_in f (disk_at (kept.map i) (k / 4096)) k) (range_with_len 0 (kept.line i).size))

-- a path leads to where it began, or to an inode that a row names
leads_to : (rows : Rows) (ino : ℕ) (path : List (List ℕ)) (end : ℕ) → walk rows ino path ≡ Some end → IsNameless rows end → end ≡ ino
unfolding walk
leads_to rows ino [] end is none = sym (same_Some ino end is)
leads_to rows ino (name ∷ path) end is none =
    let step = walk-step rows ino name path end is in
    let own = leads_to rows step.child path end step.rest none in
    absurd (none step.first.line step.first.at step.first.is (step.first.child_is ∙ sym own))

shown_at : (v w : Volume) (f : Words) (end : ℕ) → Sheds v w → (IsNameless v.names end → end ≡ 0) → (inode v 0).kind ≡ Directory → node_of w [] f end ≡ node_of v [] f end
shown_at v w f end sheds leads root = by (sheds.each end) where
  by : IsKeptAt v w end ⊎ IsShedAt v w end → node_of w [] f end ≡ node_of v [] f end
  by (inl kept) = node_same v w f end kept
  by (inr shed) =
      let first : end ≡ 0 = leads (count-nameless v.names end shed.was.nameless) in
      let never : File ≡ Directory = sym shed.was.file ∙ ap (λ n. (inode v n).kind) first ∙ root in
      cc

pub shows_the_same : ShowsTheSame
unfolding found
shows_the_same v w f path sheds root = ap (λ rows. option_and_then (node_of w [] f) (walk rows 0 path)) sheds.names ∙ by (walk v.names 0 path) refl where
  by : (o : Option ℕ) → walk v.names 0 path ≡ o → option_and_then (node_of w [] f) o ≡ option_and_then (node_of v [] f) o
  by None is = refl
  by (Some end) is = shown_at v w f end sheds (leads_to v.names 0 path end is) root
