-- A node without a name is in no tree: so the trees within unlink, rename and close are those of the call's end.
use Rattle.std.specs.Prelude.{◌≡◌, ◌≢◌, ◌||◌, ◌==◌, ℕ, zero, suc, Bool, true, false, not, List, [], ◌∷◌, map, Option, Some, None, is_some, unwrap_or, slice_set, if◌then◌else◌, refl}
use Rattle.std.specs.Option.{option_map_or}
use Rattle.std.proofs.Common.{ap, ◌∙◌, sym, inl, inr}
use Rattle.std.proofs.lemmas.Bool.{eq-eqb}
use Rattle.std.proofs.lemmas.List.{get_or-set_other}
use Rattle.world_step_laws.specs.world_model.posix_types.declared.item.Outcome.{Outcome}
use Rattle.world_step_laws.specs.world_model.posix_types.declared.reply.Errno.{Errno}
use Rattle.world_step_laws.specs.world_model.posix_types.declared.reply.Reply.{Reply}
use Rattle.world_step_laws.specs.world_model.posix_types.declared.tree.TreeNode.{TreeNode}
use Rattle.world_step_laws.specs.world_model.posix_tables.declared.nodes.DirEntry.{DirEntry}
use Rattle.world_step_laws.specs.world_model.posix_tables.declared.nodes.Node.{Node}
use Rattle.world_step_laws.specs.world_model.posix_tables.declared.places.Place.{Place}
use Rattle.world_step_laws.specs.world_model.posix_tables.NameRows.{too_long_row, unlink_rows, walk_row}
use Rattle.world_step_laws.specs.world_model.posix_tables.Names.{directory_stands, exists_at, file_stands, is_named, is_root, node_at_path, number_at}
use Rattle.world_step_laws.specs.world_model.posix_tables.Nodes.{is_directory, node_at, published_node}
use Rattle.world_step_laws.specs.world_model.posix_tables.Open.{closed, is_open}
use Rattle.world_step_laws.specs.world_model.posix_tables.Outcomes.{answer, first, row}
use Rattle.world_step_laws.specs.world_model.posix_tables.Places.{entry_place, place_of, places, tree_entry, tree_node}
use Rattle.world_step_laws.specs.world_model.posix_spec.FileRows.{close_rows, file_number}
use Rattle.world_step_laws.specs.world_model.posix_spec.State.{alone, space, State, swept, unnamed, with_node, with_published}
use Rattle.world_step_laws.specs.world_model.posix_spec.Step.{close_done, rename_done, renamed, stepped, unlink_done}
use Rattle.world_step_laws.specs.world_model.posix_spec.Tree.{tree}
use Rattle.world_step_laws.specs.world_model.list_laws.Members.{In}
use Rattle.world_step_laws.specs.world_model.posix_laws.TreeLaws.{put_all-In}
use Rattle.world_image_laws.specs.ImagesLaws.{HasTreeOfClose, HasTreeOfRename, HasTreeOfUnlink}

-- an entry of a list names its child
named_entry : (es : List DirEntry) (e : DirEntry) (n : ℕ) → In e es → e.child ≡ n → is_named es n ≡ true
named_entry [] e n is same = absurd is
named_entry (x ∷ xs) e n (inl one) same = ap (λ b. b || is_named xs n) (eq-eqb x.child n (ap (λ (d : DirEntry). d.child) one ∙ same))
named_entry (x ∷ xs) e n (inr behind) same = or_true (x.child == n) (is_named xs n) (named_entry xs e n behind same) where
  or_true : (a b : Bool) → b ≡ true → (a || b) ≡ true
  or_true true b is = refl
  or_true false b is = is

-- the place of an entry is that of its child
entry_place-node : (entries : List DirEntry) (e : DirEntry) → (entry_place entries e).node ≡ e.child
unfolding entry_place
entry_place-node entries e = refl

-- no place is of a node without a name
place-other : (entries : List DirEntry) (n : ℕ) (z : Place) → n ≢ 0 → is_named entries n ≡ false → In z (places entries) → z.node ≢ n
unfolding places
place-other entries n z other none is same = elim (put_all-In (entry_place entries) (place_of [] 0 ∷ []) entries z is) [
  | inl first ↦ elim first [
    | inl root ↦ other (sym same ∙ ap (λ (p : Place). p.node) (sym root))
    | inr never ↦ never
  ]
  | inr entry ↦
      let named : is_named entries n ≡ true =
      named_entry entries entry.0 n entry.1 (sym (entry_place-node entries entry.0) ∙ (ap (λ (p : Place). p.node) entry.2 ∙ same))
      in
      let never : true ≡ false = sym named ∙ none in
      cc
]

map-agree_In : {X Y : Type 0} (g h : X → Y) (xs : List X) → ((x : X) → In x xs → g x ≡ h x) → map g xs ≡ map h xs
map-agree_In g h [] same = refl
map-agree_In g h (x ∷ xs) same = (λ i. same x (inl refl) i ∷ map-agree_In g h xs (λ y is. same y (inr is)) i)

-- Its node may be any.
pub tree-unnamed : (s : State) (n : ℕ) (node : Node) → n ≢ 0 → is_named s.entries n ≡ false → tree (with_node s n node) ≡ tree s
tree-unnamed s n node other none =
    map-agree_In (tree_entry (slice_set s.nodes n node)) (tree_entry s.nodes) (places s.entries)
    (λ z is. ap (λ (x : Node). record { path = z.path; node = tree_node x }) (get_or-set_other s.nodes n z.node node Node.Gone (place-other s.entries n z other none is)))

-- So a file that is swept was in no tree.
pub tree-swept : (s : State) (n : ℕ) → n ≢ 0 → tree (swept alone s n) ≡ tree s
unfolding swept
tree-swept s n other = by (is_named s.entries n) refl (is_open s.tables n) where
  by : (named : Bool) → is_named s.entries n ≡ named → (open_there : Bool) → tree (if named || open_there then s else with_node s n Node.Gone) ≡ tree s
  by true is open_there = refl
  by false is true = refl
  by false is false = tree-unnamed s n Node.Gone other is

-- ---- trees of calls

-- where something stands that is no directory, it is not the root
not_root : (test : ℕ → Bool) (o : Option ℕ) → test 0 ≡ true → is_some o ≡ true → option_map_or test o false ≡ false → unwrap_or o 0 ≢ 0
not_root test None root there plain same = cc
not_root test (Some n) root there plain same =
    let never : true ≡ false = sym root ∙ (ap test (sym same) ∙ plain) in
    cc

-- what the rows of an `unlink` say where none fits
last_two : (a b c : Option Outcome) (x y : Bool) (o q : Outcome) → first (a ∷ b ∷ c ∷ (if x then Some o else None) ∷ (if y then Some q else None) ∷ []) ≡ None → (x ≡ false) × (y ≡ false)
last_two (Some r) b c x y o q none = cc
last_two None (Some r) c x y o q none = cc
last_two None None (Some r) x y o q none = cc
last_two None None None true y o q none = cc
last_two None None None false true o q none = cc
last_two None None None false false o q none = (refl, refl)

is_there : (x : Bool) → not x ≡ false → x ≡ true
is_there true is = refl
is_there false is = cc

unlinks : (s : State) (p : List (List ℕ)) → first (unlink_rows (space s) p) ≡ None → (exists_at (space s) p ≡ true) × (directory_stands (space s) p ≡ false)
unfolding unlink_rows
unlinks s p none =
    let parts =
    last_two (row (is_root p) Errno.EPERM) (too_long_row (space s) p) (walk_row (space s) p) (not (exists_at (space s) p)) (directory_stands (space s) p) (answer (Reply.Error Errno.ENOENT)) (answer (Reply.Error Errno.EPERM)) none
    in
    (is_there (exists_at (space s) p) parts.0, parts.1)

-- `unlink`: once the name is gone, the tree is that of the call's end
pub tree_unlink : HasTreeOfUnlink
unfolding unlink_done
tree_unlink s who p root none =
    let at = unlinks s p none in
    ap (λ o. tree (stepped s o (unlink_done alone s p)).state) none
    ∙ tree-swept (unnamed s p) (number_at (space s) p) (not_root (is_directory s.nodes) (node_at_path (space s) p) root at.0 at.1)

-- `rename` over a file, or to where nothing stands
stands_plain : (test : ℕ → Bool) (o : Option ℕ) → test 0 ≡ true → option_map_or (λ n. not (test n)) o false ≡ true → unwrap_or o 0 ≢ 0
stands_plain test None root there same = cc
stands_plain test (Some n) root there same =
    let never : true ≡ false = sym there ∙ (ap (λ k. not (test k)) same ∙ ap not root) in
    cc

pub tree_rename : HasTreeOfRename
unfolding rename_done renamed
tree_rename s who p q root none plain =
    ap (λ o. tree (stepped s o (rename_done alone s p q)).state) none
    ∙ (ap (λ b. tree (if b then with_node (renamed s p q) (number_at (space s) q) Node.Gone else if file_stands (space s) q then swept alone (renamed s p q) (number_at (space s) q) else renamed s p q)) plain
    ∙ by (file_stands (space s) q) refl) where
      by : (b : Bool) → file_stands (space s) q ≡ b → tree (if b then swept alone (renamed s p q) (number_at (space s) q) else renamed s p q) ≡ tree (renamed s p q)
      by true is = tree-swept (renamed s p q) (number_at (space s) q) (stands_plain (is_directory s.nodes) (node_at_path (space s) q) root is)
      by false is = refl

-- `close`: published lengths are in no tree
published_shown : (nodes : List Node) (n k : ℕ) → tree_node (node_at (slice_set nodes n (published_node (node_at nodes n))) k) ≡ tree_node (node_at nodes k)
published_shown [] n k = refl
published_shown (x ∷ xs) zero zero = own x where
  own : (node : Node) → tree_node (published_node node) ≡ tree_node node
  own Node.Gone = refl
  own Node.Directory = refl
  own (Node.File file) = refl
published_shown (x ∷ xs) zero (suc k) = refl
published_shown (x ∷ xs) (suc n) zero = refl
published_shown (x ∷ xs) (suc n) (suc k) = published_shown xs n k

tree-published : (s : State) (n : ℕ) → tree (with_published s n) ≡ tree s
unfolding with_published
tree-published s n =
    map-agree_In (tree_entry (slice_set s.nodes n (published_node (node_at s.nodes n)))) (tree_entry s.nodes) (places s.entries)
    (λ z is. ap (λ (x : TreeNode). record { path = z.path; node = x }) (published_shown s.nodes n z.node))

pub tree_close : HasTreeOfClose
unfolding close_done with_published
tree_close s who h other = by (first (close_rows s.tables who h)) where
  left : State
  left = record (with_published s (file_number s.tables who h)) { tables = closed s.tables who h }

  by : (o : Option Outcome) → tree (stepped s o (close_done alone s who h)).state ≡ tree s
  by (Some outcome) = refl
  by None = tree-swept left (file_number s.tables who h) other ∙ tree-published s (file_number s.tables who h)
