-- A mounted device has a tree, and the state that begins with it has nothing open.
use Rattle.std.specs.Prelude.{◌≡◌, ℕ, Bool, true, false, cond, fold, List, [], ◌∷◌, Option, Some, None, option_map, refl}
use Rattle.std.specs.List.{filter_map, range_with_len}
use Rattle.std.proofs.Common.{arith, ap, ◌∙◌, sym, inl}
use Rattle.world_view_laws.specs.eof_laws.pm_model.CellLaws.{single-home}
use Rattle.world_view_laws.specs.eof_laws.pm_model.Cells.{cell}
use Rattle.world_view_laws.specs.eof_laws.pm_model.Images.{words_of}
use Rattle.world_view_laws.specs.eof_laws.pm_model.Words.{Words}
use Rattle.world_view_laws.specs.eof_laws.layout_model.declared.lines.Draft.{Draft}
use Rattle.world_view_laws.specs.eof_laws.layout_model.Journal.{journaled}
use Rattle.world_view_laws.specs.eof_laws.layout_model.Places.{Geometry}
use Rattle.world_view_laws.specs.eof_laws.image_model.Content.{HasBytes, IsDirectory, Node}
use Rattle.world_view_laws.specs.eof_laws.image_model.Live.{entry_in, is_live, live_entries}
use Rattle.world_view_laws.specs.eof_laws.image_model.Volume.{Volume}
use Rattle.world_view_laws.specs.eof_laws.k_tables.ContentsTrees.{tree_content, tree_node}
use Rattle.world_view_laws.specs.eof_laws.list_laws.Filters.{filter-In, filter_map-In, range-In}
use Rattle.world_view_laws.specs.eof_laws.list_laws.Members.{In}
use Rattle.world_view_laws.specs.eof_laws.posix_spec.State.{made, State}
use Rattle.world_view_laws.specs.eof_laws.posix_spec.Tree.{planted}
use Rattle.world_view_laws.specs.eof_laws.posix_laws.TreeOf.{IsTreeOf}
use Rattle.world_view_laws.specs.eof_laws.posix_types.declared.reply.Shape.{Shape}
use Rattle.world_view_laws.specs.eof_laws.posix_types.declared.tree.TreeEntry.{TreeEntry}
use Rattle.world_view_laws.specs.eof_laws.posix_types.declared.tree.TreeNode.{TreeNode}
use Rattle.world_view_laws.specs.eof_laws.posix_tables.Names.{is_root}
use Rattle.world_view_laws.specs.eof_laws.posix_tables.Places.{node_of}
use Rattle.world_view_laws.specs.world_image_laws.Images.{HasNoEntry}
use Rattle.world_view_laws.specs.live_model.world_image_laws.BeginningLaws.{IsShapeOf}
use Rattle.world_view_laws.specs.live_model.world_model.Shown.{IsTreeOfContent, shown_as}
use Rattle.round_laws.specs.StartsLaws.{HasNumbersOf, ShowsTree}

-- ---- nothing is live

no_members : (ds : List Draft) → ((d : Draft) → In d ds → ⊥) → ds ≡ []
no_members [] none = refl
no_members (d ∷ ds) none = absurd (none d (inl refl))

none_live : (v : Volume) (f : Words) → HasNoEntry v f → live_entries v f ≡ []
none_live v f none = no_members (live_entries v f) (λ d is.
    let valid = filter-In (is_live v) (filter_map (entry_in v f) (range_with_len 0 v.geometry.log)) d is in
    let from = filter_map-In (entry_in v f) (range_with_len 0 v.geometry.log) d valid.0 in
    let place = range-In 0 v.geometry.log from.0 from.1 in
    let never : None ≡ Some d = sym (none from.0 (omega (arith, place.1))) ∙ from.2 in
    cc)

pub shows_tree : ShowsTree
shows_tree g image k is = record {
  on = is.rest.on;
  home = λ i. single-home (cell k.cells i) (is.rest.single i);
  none = none_live k.volume (journaled (words_of k.cells)) is.no_entry;
}

-- ---- the tree of a content, as nodes of a tree or as what was found

shown_back : (o : Option Node) (node : TreeNode) → option_map tree_node o ≡ Some node → o ≡ Some (shown_as node)
shown_back None node is = cc
shown_back (Some IsDirectory) TreeNode.Directory is = refl
shown_back (Some IsDirectory) (TreeNode.File bytes) is = cc
shown_back (Some (HasBytes b)) TreeNode.Directory is = cc
shown_back (Some (HasBytes b)) (TreeNode.File bytes) is = ap (λ x. Some (HasBytes x)) (same_bytes is) where
  same_bytes : option_map tree_node (Some (HasBytes b)) ≡ Some (TreeNode.File bytes) → b ≡ bytes
  same_bytes same = cc

node_back : (node : TreeNode) → tree_node (shown_as node) ≡ node
node_back TreeNode.Directory = refl
node_back (TreeNode.File bytes) = refl

pub shown_tree : (c : List (List ℕ) → Option Node) (t : List TreeEntry) → IsTreeOf (tree_content c) t → IsTreeOfContent c t
shown_tree c t is = record {
  rising = is.rising;
  each = λ e there. shown_back (c e.path) e.node (is.each e there);
  all = λ path node there. is.all path node (ap (option_map tree_node) there ∙ ap (λ n. Some n) (node_back node));
}

-- ---- the state that a tree begins as has nothing open

planted_tables : (s : State) (e : TreeEntry) → (planted s e).tables ≡ s.tables
unfolding made
planted_tables s e = by (is_root e.path) where
  by : (b : Bool) → (cond b s (made s e.path (node_of e.node))).tables ≡ s.tables
  by true = refl
  by false = refl

pub fold_tables : (s : State) (es : List TreeEntry) → (fold planted s es).tables ≡ s.tables
fold_tables s [] = refl
fold_tables s (e ∷ es) = fold_tables (planted s e) es ∙ planted_tables s e

-- ---- its shape

pub shape_of : (g : Geometry) (shape : Shape) → HasNumbersOf g shape → IsShapeOf g shape
shape_of g shape is = record { blocks = is.data_blocks; nodes = omega (arith, is.nodes, is.in_range.least_inodes); names = is.names }
