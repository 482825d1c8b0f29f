-- A mounted volume: each file has a name. Its content has a tree with a path for each inode in use.
use Rattle.std.specs.Prelude.{◌≡◌, ◌≢◌, ◌≤◌, ◌==◌, ℕ, suc, Bool, true, false, cond, List, [], ◌∷◌, ◌++◌, length, flat_map, Option, Some, None, option_and_then, refl}
use Rattle.std.proofs.Common.{arith, ap, ◌∙◌, sym, subst, inl, inr}
use Rattle.std.proofs.lemmas.Bool.{cases_eq}
use Rattle.std.proofs.lemmas.Bool.Decides.{nat_tests}
use Rattle.std.proofs.lemmas.Option.{same_Some}
use Rattle.world_step_laws.specs.pm_model.Words.{Words}
use Rattle.world_step_laws.specs.layout_model.declared.lines.Draft.{Draft}
use Rattle.world_step_laws.specs.layout_model.declared.lines.Kind.{Kind}
use Rattle.world_step_laws.specs.layout_model.declared.lines.Kind.TheVariants.{Free, Directory, File, Staging}
use Rattle.world_step_laws.specs.layout_model.Lines.{is_name, NameRow}
use Rattle.world_step_laws.specs.layout_model.Names.{child_named, is_child, names_of, row, Rows, walk}
use Rattle.world_step_laws.specs.layout_model.TableLaws.{child_named-at, is_child-parts, walk-append, walk-one, walk-up}
use Rattle.world_step_laws.specs.image_model.Content as shown
use Rattle.world_step_laws.specs.image_model.Content.{bytes_of_file, found, HasBytes, IsDirectory, node_by, node_of}
use Rattle.world_step_laws.specs.image_model.Live.{is_directory}
use Rattle.world_step_laws.specs.image_model.Volume.{inode, Volume}
use Rattle.world_step_laws.specs.name_laws.k_split_model.Spaces.{is_directory_in}
use Rattle.world_step_laws.specs.name_laws.Forests.{IsForest}
use Rattle.world_step_laws.specs.name_laws.KeptLaws.{kept-forest, kept-keyed, kept-placed}
use Rattle.world_step_laws.specs.name_laws.RowLaws.{row-below}
use Rattle.world_step_laws.specs.volume_laws.Lists.{count_by-some}
use Rattle.world_step_laws.specs.name_laws.TreeLaws.{one-path}
use Rattle.world_step_laws.specs.posix_types.declared.tree.TreeNode.{TreeNode}
use Rattle.world_step_laws.specs.posix_tables.Names.{bytes_before}
use Rattle.world_step_laws.specs.posix_tables.Places.{printed}
use Rattle.world_step_laws.specs.posix_laws.Order.{not_before_itself}
use Rattle.world_step_laws.specs.posix_laws.Paths.{by_last, IsFilled}
use Rattle.world_step_laws.specs.world_model.Shown.{shown_as}
use Rattle.world_step_laws.specs.world_model.Stands.{is_used, IsSane, IsUsed}
use Rattle.world_step_laws.specs.world_model.TreeRules.{all_lines, child_used, one_name}

-- What a mount leaves: a sane volume in which each file has a name.
pub record IsMounted (v : Volume) : Type 0 where
  pub sane : IsSane v
  pub root : (inode v 0).kind ≡ Directory
  pub named : (ino : ℕ) → (inode v ino).kind ≡ File → 1 ≤ names_of v.names ino

forest : (v : Volume) → IsSane v → IsForest (is_directory_in v.inodes) v.names
forest v sane = kept-forest v sane.kept (all_lines v sane)

-- ---- paths of inodes

-- a path with one more name
pub walk_more : (rows : Rows) (q : List (List ℕ)) (x : List ℕ) (p c : ℕ) → walk rows 0 q ≡ Some p → child_named rows p x ≡ Some c → walk rows 0 (q ++ x ∷ []) ≡ Some c
walk_more rows q x p c led named = walk-append rows 0 q (x ∷ []) ∙ (ap (option_and_then (λ n. walk rows n (x ∷ []))) led ∙ walk-one rows p x c named)

pub record LastStep (rows : Rows) (q : List (List ℕ)) (x : List ℕ) (c : ℕ) : Type 0 where
  pub above : ℕ
  pub led : walk rows 0 q ≡ Some above
  pub named : child_named rows above x ≡ Some c

pub last_step : (rows : Rows) (q : List (List ℕ)) (x : List ℕ) (c : ℕ) → walk rows 0 (q ++ x ∷ []) ≡ Some c → LastStep rows q x c
unfolding walk
last_step rows q x c led = by (walk rows 0 q) refl (sym (walk-append rows 0 q (x ∷ [])) ∙ led) where
  one : (p : ℕ) (o : Option ℕ) → child_named rows p x ≡ o → option_and_then (λ child. walk rows child []) o ≡ Some c → child_named rows p x ≡ Some c
  one p None named is = cc
  one p (Some d) named is = named ∙ is

  by : (o : Option ℕ) → walk rows 0 q ≡ o → option_and_then (λ n. walk rows n (x ∷ [])) o ≡ Some c → LastStep rows q x c
  by None there is = cc
  by (Some p) there is = record { above = p; led = there; named = one p (child_named rows p x) refl is }

row_path : (v : Volume) → IsMounted v → (line : ℕ) (r : NameRow) → row v.names line ≡ Some r → (path : List (List ℕ)) × (walk v.names 0 path ≡ Some r.child)
row_path v m line r is =
    let steps = (kept-placed v line r m.sane.kept (all_lines v m.sane) is).steps in
    let keyed = kept-keyed v m.sane.kept (all_lines v m.sane) in
    let down = walk-up v.names steps.0 r.parent 0 keyed steps.2 in
    (down.0 ++ r.name ∷ [], walk_more v.names down.0 r.name r.parent r.child down.2 (child_named-at v.names line r keyed (row-below v.names line r is) is))

has_name : (v : Volume) → IsMounted v → (ino : ℕ) (kind : Kind) → (inode v ino).kind ≡ kind → is_used kind ≡ true → ino ≢ 0 → 1 ≤ names_of v.names ino
has_name v m ino Free is used other = cc
has_name v m ino Staging is used other = cc
has_name v m ino File is used other = m.named ino is
has_name v m ino Directory is used other = m.sane.kept.directories.each ino (omega (arith, other)) (ap is_directory is)

-- EACH INODE IN USE has a path.
pub path_of_used : (v : Volume) → IsMounted v → (ino : ℕ) → IsUsed v ino → (path : List (List ℕ)) × (walk v.names 0 path ≡ Some ino)
unfolding walk
path_of_used v m ino used = elim (cases_eq ino 0) [
  | inl root ↦ ([], ap (λ (n : ℕ). Some n) (sym root))
  | inr other ↦
      let line = count_by-some (is_child ino) v.names None (has_name v m ino (inode v ino).kind refl used other) in
      let r = is_child-parts ino (row v.names line.0) line.2 in
      let path = row_path v m line.0 r.0 r.1 in
      (path.0, path.1 ∙ ap (λ (n : ℕ). Some n) r.2)
]

-- and a path leads to one in use
pub led_used : (v : Volume) → IsMounted v → (path : List (List ℕ)) (c : ℕ) → walk v.names 0 path ≡ Some c → IsUsed v c
unfolding walk
led_used v m path c led = elim (by_last path) [
  | inl root ↦
      let same : Some 0 ≡ Some c = ap (walk v.names 0) (sym root) ∙ led in
      subst (IsUsed v) (same_Some 0 c same) (ap is_used m.root)
  | inr more ↦
      let last = last_step v.names more.0 more.1 c (ap (walk v.names 0) (sym more.2) ∙ led) in
      child_used v m.sane last.above more.1 c last.named
]

-- a directory has one path,
pub one_path : (v : Volume) → IsMounted v → (p q : List (List ℕ)) (c : ℕ) → is_directory (inode v c).kind ≡ true → walk v.names 0 p ≡ Some c → walk v.names 0 q ≡ Some c → p ≡ q
one_path v m p q c directory first second =
    one-path (is_directory_in v.inodes) v.names 0 p q c (forest v m.sane) ((forest v m.sane).one_name c directory) first second

-- and so has a file, while no node has two names
pub only_path : (v : Volume) → IsMounted v → (p q : List (List ℕ)) (c : ℕ) → walk v.names 0 p ≡ Some c → walk v.names 0 q ≡ Some c → p ≡ q
only_path v m p q c first second = one-path (is_directory_in v.inodes) v.names 0 p q c (forest v m.sane) (one_name v m.sane c) first second

-- ---- the content

-- what stands at a path that leads to an inode in use
pub record Shows (v : Volume) (live : List Draft) (f : Words) (path : List (List ℕ)) (c : ℕ) : Type 0 where
  pub node : TreeNode
  pub found_is : found v live f path ≡ Some (shown_as node)
  pub by_kind : node_by (inode v c).kind (bytes_of_file v live f c) ≡ Some (shown_as node)

pub shows : (v : Volume) (live : List Draft) (f : Words) (path : List (List ℕ)) (c : ℕ) → IsUsed v c → walk v.names 0 path ≡ Some c → Shows v live f path c
unfolding found node_of
shows v live f path c used led = by (inode v c).kind refl used where
  by : (kind : Kind) → (inode v c).kind ≡ kind → is_used kind ≡ true → Shows v live f path c
  by Free is there = cc
  by Staging is there = cc
  by Directory is there =
      let at = ap (λ k. node_by k (bytes_of_file v live f c)) is in
      record { node = TreeNode.Directory; found_is = ap (option_and_then (node_of v live f)) led ∙ at; by_kind = at }
  by File is there =
      let at = ap (λ k. node_by k (bytes_of_file v live f c)) is in
      record { node = TreeNode.File (bytes_of_file v live f c); found_is = ap (option_and_then (node_of v live f)) led ∙ at; by_kind = at }

pub found_at : (v : Volume) (live : List Draft) (f : Words) (path : List (List ℕ)) (n : shown.Node) → found v live f path ≡ Some n
    → (c : ℕ) × (walk v.names 0 path ≡ Some c) × (node_by (inode v c).kind (bytes_of_file v live f c) ≡ Some n)
unfolding found node_of
found_at v live f path n is = by (walk v.names 0 path) refl is where
  by : (o : Option ℕ) → walk v.names 0 path ≡ o → option_and_then (node_of v live f) o ≡ Some n → (c : ℕ) × (walk v.names 0 path ≡ Some c) × (node_by (inode v c).kind (bytes_of_file v live f c) ≡ Some n)
  by None led at = cc
  by (Some c) led at = (c, led, at)

pub same_shown : (a b : TreeNode) → shown_as a ≡ shown_as b → a ≡ b
same_shown TreeNode.Directory TreeNode.Directory same = refl
same_shown TreeNode.Directory (TreeNode.File y) same = cc
same_shown (TreeNode.File x) TreeNode.Directory same = cc
same_shown (TreeNode.File x) (TreeNode.File y) same = cc

pub directory_shown : (kind : Kind) (bytes : List ℕ) → is_directory kind ≡ true → node_by kind bytes ≡ Some IsDirectory
directory_shown Free bytes is = cc
directory_shown Directory bytes is = refl
directory_shown File bytes is = cc
directory_shown Staging bytes is = cc

-- ---- the printed paths

pub printed_more : (n : List ℕ) (ns : List (List ℕ)) → printed (n ∷ ns) ≡ flat_map (λ (name : List ℕ). 47 ∷ name) (n ∷ ns)
printed_more n ns = ap (λ (b : Bool). cond b (47 ∷ []) (flat_map (λ (name : List ℕ). 47 ∷ name) (n ∷ ns))) (later (length ns)) where
  later : (k : ℕ) → (suc k == 0) ≡ false
  later k = grind (arith, nat_tests)

never_less : (xs : List ℕ) → bytes_before xs [] ≡ true → ⊥
never_less [] is = cc
never_less (x ∷ xs) is = cc

pub nothing_before_root : (p : List (List ℕ)) → bytes_before (printed p) (printed []) ≡ true → ⊥
nothing_before_root [] is = not_before_itself (printed []) is
nothing_before_root (n ∷ ns) is = never_less (n ++ flat_map (λ (name : List ℕ). 47 ∷ name) ns) (ap (λ t. bytes_before t (47 ∷ [])) (sym (printed_more n ns)) ∙ is)

-- a name has a byte
pub filled_name : (name : List ℕ) → is_name name ≡ true → IsFilled name
filled_name [] is = cc
filled_name (b ∷ bs) is = tt
