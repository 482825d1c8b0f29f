-- A volume that stands for a state has the content of that state; and the content depends on which entries are live, not
-- on how they are listed.
use Rattle.std.specs.Prelude.{◌≡◌, ◌<◌, ℕ, ◌/◌, ◌==◌, ◌&&◌, Bool, List, [], ◌∷◌, length, map, filter, Option, Some, None, option_and_then, option_map, refl}
use Rattle.std.specs.List.{range_with_len}
use Rattle.std.proofs.Common.{arith, ap, ◌∙◌, sym, subst}
use Rattle.std.proofs.lemmas.List.{ext_get_or}
use Rattle.std.proofs.lemmas.List.FromFn.{get_or-map-range_with_len, length-map-range_with_len}
use Rattle.std.proofs.lemmas.Option.{same_Some}
use Rattle.name_laws.specs.pm_model.Words.{Words}
use Rattle.name_laws.specs.extent_model.Extents.{is_within}
use Rattle.name_laws.specs.layout_model.declared.lines.Draft.{Draft}
use Rattle.name_laws.specs.layout_model.declared.lines.Kind.{Kind}
use Rattle.name_laws.specs.layout_model.declared.lines.Kind.TheVariants.{Free, Directory, File, Staging}
use Rattle.name_laws.specs.layout_model.Names.{child_named}
use Rattle.name_laws.specs.layout_model.Names as lines
use Rattle.name_laws.specs.image_model.Content as shown
use Rattle.name_laws.specs.image_model.Content.{byte_in, bytes_of_file, disk_by, disk_of, entry_of_block, found, HasBytes, IsDirectory, node_by, size_by, size_of}
use Rattle.name_laws.specs.image_model.Volume.{inode, Volume}
use Rattle.crash_spec.specs.posix_laws.posix_types.declared.tree.TreeEntry.{TreeEntry}
use Rattle.crash_spec.specs.posix_laws.posix_types.declared.tree.TreeNode.{TreeNode}
use Rattle.crash_spec.specs.posix_laws.posix_tables.declared.nodes.Node.{Node}
use Rattle.crash_spec.specs.posix_laws.posix_tables.Names.{child_of}
use Rattle.crash_spec.specs.posix_laws.posix_tables.Nodes.{node_at}
use Rattle.crash_spec.specs.posix_laws.posix_tables.Places.{tree_node}
use Rattle.crash_spec.specs.posix_laws.posix_spec.State.{State}
use Rattle.crash_spec.specs.list_laws.Filters.{filter-both, filter-In, In-filter}
use Rattle.crash_spec.specs.posix_laws.Paths.{stands_at, walk_down}
use Rattle.crash_spec.specs.posix_laws.TreeOf.{IsTreeOf}
use Rattle.world_model.specs.Shown.{IsTreeOfContent, shown_as}
use Rattle.world_model.specs.Stands.{entries_of, FileStands, IsUsed, NodeStands, number, Stands}
use Rattle.world_model.specs.Latest.{latest-same_members, OneOrderEach, OneOrderEach-filter, SameMembers}
use Rattle.world_model.specs.TreeRules.{child_used}

-- The content by the live entries.

SameMembers-filter : (p : Draft → Bool) (xs ys : List Draft) → SameMembers xs ys → SameMembers (filter p xs) (filter p ys)
SameMembers-filter p xs ys same = record {
  on = λ d is. let its = filter-In p xs d is in In-filter p ys d (same.on d its.0) its.1;
  back = λ d is. let its = filter-In p ys d is in In-filter p xs d (same.back d its.0) its.1;
}

-- the test by which the entries of a file block are taken
abbrev covers_block : ℕ → ℕ → Draft → Bool
covers_block ino block d = (d.ino == ino) && is_within d.file_block d.count block

pub size-same : (v : Volume) (xs ys : List Draft) (ino : ℕ) → SameMembers xs ys → OneOrderEach (entries_of ino ys) → size_of v xs ino ≡ size_of v ys ino
size-same v xs ys ino same one =
    ap (λ o. size_by o (inode v ino).size) (latest-same_members (entries_of ino xs) (entries_of ino ys) (SameMembers-filter (λ (d : Draft). d.ino == ino) xs ys same) one)

one_order-block : (ys : List Draft) (ino block : ℕ) → OneOrderEach (entries_of ino ys) → OneOrderEach (filter (covers_block ino block) ys)
one_order-block ys ino block one =
    subst OneOrderEach (sym (filter-both (λ (d : Draft). d.ino == ino) (λ (d : Draft). is_within d.file_block d.count block) ys))
    (OneOrderEach-filter (λ (d : Draft). is_within d.file_block d.count block) (entries_of ino ys) one)

pub disk-same : (v : Volume) (xs ys : List Draft) (ino block : ℕ) → SameMembers xs ys → OneOrderEach (entries_of ino ys) → disk_of v xs ino block ≡ disk_of v ys ino block
disk-same v xs ys ino block same one =
    ap (λ o. disk_by v o ino block)
    (latest-same_members (filter (covers_block ino block) xs) (filter (covers_block ino block) ys) (SameMembers-filter (covers_block ino block) xs ys same) (one_order-block ys ino block one))

-- the bytes of a file, where length and disk blocks are the same
bytes-same : (v : Volume) (xs ys : List Draft) (f : Words) (ino : ℕ) → SameMembers xs ys → OneOrderEach (entries_of ino ys) → bytes_of_file v xs f ino ≡ bytes_of_file v ys f ino
bytes-same v xs ys f ino same one =
    λ t. map (λ i. byte_in f (disk-same v xs ys ino (i / 4096) same one t) i) (range_with_len 0 (size-same v xs ys ino same one t))

node-same : (v : Volume) (xs ys : List Draft) (f : Words) (ino : ℕ) → SameMembers xs ys → OneOrderEach (entries_of ino ys) → shown.node_of v xs f ino ≡ shown.node_of v ys f ino
unfolding shown.node_of
node-same v xs ys f ino same one = ap (node_by (inode v ino).kind) (bytes-same v xs ys f ino same one)

-- Live entries listed in another order give the same content.
pub found-same_members : (v : Volume) (xs ys : List Draft) (f : Words) → SameMembers xs ys → ((ino : ℕ) → OneOrderEach (entries_of ino ys)) → (path : List (List ℕ)) → found v xs f path ≡ found v ys f path
unfolding found
found-same_members v xs ys f same one path = λ t. option_and_then (λ ino. node-same v xs ys f ino same (one ino) t) (lines.walk v.names 0 path)

-- The content of a volume that stands.

-- names lead alike in the volume and in the state
record LeadsAlike (v : Volume) (numbers : List ℕ) (s : State) (ino : ℕ) (path : List (List ℕ)) : Type 0 where
  same : option_map (number numbers) (lines.walk v.names ino path) ≡ walk_down s.entries (number numbers ino) path
  used : (end : ℕ) → lines.walk v.names ino path ≡ Some end → IsUsed v end

leads_alike : (v : Volume) (numbers : List ℕ) (s : State) → (live : List Draft) (f : Words) → Stands v live f numbers s → (ino : ℕ) (path : List (List ℕ)) → IsUsed v ino → LeadsAlike v numbers s ino path
unfolding lines.walk walk_down
leads_alike v numbers s live f stands ino [] used = record { same = refl; used = λ end is. subst (IsUsed v) (same_Some ino end is) used }
leads_alike v numbers s live f stands ino (name ∷ names) used =
    by (child_named v.names ino name) refl (stands.names.names ino name used) (λ c is_used. leads_alike v numbers s live f stands c names is_used) where
      by : (o : Option ℕ) → child_named v.names ino name ≡ o → option_map (number numbers) o ≡ child_of s.entries (number numbers ino) name
          → ((c : ℕ) → IsUsed v c → LeadsAlike v numbers s c names) → LeadsAlike v numbers s ino (name ∷ names)
      by None named same rest = record {
        same =
            ap (λ o. option_map (number numbers) (option_and_then (λ child. lines.walk v.names child names) o)) named
            ∙ ap (λ o. option_and_then (λ child. walk_down s.entries child names) o) same;
        used = λ end is. let never : None ≡ Some end = sym (ap (λ o. option_and_then (λ child. lines.walk v.names child names) o) named) ∙ is in cc;
      }
      by (Some c) named same rest =
          let its = rest c (child_used v stands.sane ino name c named) in
          record {
            same =
                ap (λ o. option_map (number numbers) (option_and_then (λ child. lines.walk v.names child names) o)) named
                ∙ (its.same ∙ ap (λ o. option_and_then (λ child. walk_down s.entries child names) o) same);
            used = λ end is. its.used end (sym (ap (λ o. option_and_then (λ child. lines.walk v.names child names) o) named) ∙ is);
          }

-- the bytes of a file that stands
pub bytes-FileStands : (v : Volume) (live : List Draft) (f : Words) (ino : ℕ) (bytes : List ℕ) → FileStands v live f ino bytes → bytes_of_file v live f ino ≡ bytes
bytes-FileStands v live f ino bytes stands =
    let byte : ℕ → ℕ = λ i. byte_in f (disk_of v live ino (i / 4096)) i in
    let long : length (bytes_of_file v live f ino) ≡ size_of v live ino = length-map-range_with_len byte 0 (size_of v live ino) in
    ext_get_or 0 (bytes_of_file v live f ino) bytes (long ∙ stands.size)
    (λ i below.
    let within : i < size_of v live ino = subst (λ n. i < n) long below in
    get_or-map-range_with_len byte 0 (size_of v live ino) i i 0 within (omega arith) ∙ stands.each i (subst (λ n. i < n) stands.size within))

node_stands : (v : Volume) (live : List Draft) (f : Words) (ino : ℕ) (kind : Kind) (node : Node) → NodeStands v live f ino kind node
    → node_by kind (bytes_of_file v live f ino) ≡ Some (shown_as (tree_node node))
node_stands v live f ino Free node stands = absurd stands
node_stands v live f ino Staging node stands = absurd stands
node_stands v live f ino Directory Node.Gone stands = absurd stands
node_stands v live f ino Directory Node.Directory stands = refl
node_stands v live f ino Directory (Node.File file) stands = absurd stands
node_stands v live f ino File Node.Gone stands = absurd stands
node_stands v live f ino File Node.Directory stands = absurd stands
node_stands v live f ino File (Node.File file) stands = ap (λ bytes. Some (HasBytes bytes)) (bytes-FileStands v live f ino file.bytes stands)

node_stands_at : (v : Volume) (live : List Draft) (f : Words) (numbers : List ℕ) (s : State) → Stands v live f numbers s → (ino : ℕ) → IsUsed v ino
    → shown.node_of v live f ino ≡ Some (shown_as (tree_node (node_at s.nodes (number numbers ino))))
unfolding shown.node_of
node_stands_at v live f numbers s stands ino used = node_stands v live f ino (inode v ino).kind (node_at s.nodes (number numbers ino)) (stands.nodes.each ino used)

-- THE CONTENT of a volume that stands for a state is what stands at the paths of that state.
pub found-Stands : (v : Volume) (live : List Draft) (f : Words) (numbers : List ℕ) (s : State) → Stands v live f numbers s → (path : List (List ℕ)) → found v live f path ≡ option_map shown_as (stands_at s path)
unfolding found
found-Stands v live f numbers s stands path =
    by (lines.walk v.names 0 path) alike.same alike.used
    ∙ ap (λ n. option_map shown_as (option_map (λ m. tree_node (node_at s.nodes m)) (walk_down s.entries n path))) stands.names.root where
      alike : LeadsAlike v numbers s 0 path
      alike = leads_alike v numbers s live f stands 0 path stands.names.root_used

      by : (o : Option ℕ) → option_map (number numbers) o ≡ walk_down s.entries (number numbers 0) path → ((end : ℕ) → o ≡ Some end → IsUsed v end)
          → option_and_then (shown.node_of v live f) o ≡ option_map shown_as (option_map (λ m. tree_node (node_at s.nodes m)) (walk_down s.entries (number numbers 0) path))
      by None same used = ap (λ o. option_map shown_as (option_map (λ m. tree_node (node_at s.nodes m)) o)) same
      by (Some end) same used =
          node_stands_at v live f numbers s stands end (used end refl) ∙ ap (λ o. option_map shown_as (option_map (λ m. tree_node (node_at s.nodes m)) o)) same

-- So its tree is the tree of the state.

shown_again : (a b : TreeNode) → shown_as a ≡ shown_as b → a ≡ b
shown_again TreeNode.Directory TreeNode.Directory same = refl
shown_again TreeNode.Directory (TreeNode.File bytes) same = cc
shown_again (TreeNode.File bytes) TreeNode.Directory same = cc
shown_again (TreeNode.File bytes) (TreeNode.File others) same = let both : bytes ≡ others = cc in ap TreeNode.File both

shown_once : (o : Option TreeNode) (node : TreeNode) → option_map shown_as o ≡ Some (shown_as node) → o ≡ Some node
shown_once None node same = cc
shown_once (Some a) node same = ap Some (shown_again a node (same_Some (shown_as a) (shown_as node) same))

pub IsTreeOf-content : (content : List (List ℕ) → Option shown.Node) (s : State) (left : List TreeEntry) → ((path : List (List ℕ)) → content path ≡ option_map shown_as (stands_at s path))
    → IsTreeOfContent content left → IsTreeOf (stands_at s) left
IsTreeOf-content content s left agree is = record {
  rising = is.rising;
  each = λ e there. shown_once (stands_at s e.path) e.node (sym (agree e.path) ∙ is.each e there);
  all = λ path node stands. is.all path node (agree path ∙ ap (λ o. option_map shown_as o) stands);
}

pub IsTreeOfContent-state : (content : List (List ℕ) → Option shown.Node) (s : State) (left : List TreeEntry) → ((path : List (List ℕ)) → content path ≡ option_map shown_as (stands_at s path))
    → IsTreeOf (stands_at s) left → IsTreeOfContent content left
IsTreeOfContent-state content s left agree is = record {
  rising = is.rising;
  each = λ e there. agree e.path ∙ ap (λ o. option_map shown_as o) (is.each e there);
  all = λ path node stands. is.all path node (shown_once (stands_at s path) node (sym (agree path) ∙ stands));
}
