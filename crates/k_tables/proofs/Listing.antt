-- A list of places with what stands at them is the tree of a content.
use Rattle.std.proofs.Common.{◌≡◌, ◌≢◌, ◌⊎◌, ℕ, suc, ◌+◌, ◌<◌, ◌≤◌, Bool, true, false, cond, List, [], ◌∷◌, length, get_or, map, All, Option, Some, None, refl, sym, ◌∙◌, ap, subst, arith, inl, inr}
use Rattle.std.specs.Prelude.{not, ◌&&◌, ◌==◌, nat_le, count_by, is_some, option_map, option_and_then}
use Rattle.std.specs.List.{list_all}
use Rattle.std.proofs.lemmas.Bool.{and_parts, cases_Bool, cases_lt}
use Rattle.std.proofs.lemmas.Bool.Decides.{nat_tests, Decides-eqb}
use Rattle.std.proofs.lemmas.List.{get_or_past}
use Rattle.std.proofs.lemmas.List.Sums.{sum_by-cons}
use Rattle.std.proofs.lemmas.Option.{same_Some}
use Rattle.pm_lines.specs.pm_model.declared.Cell.{Cell}
use Rattle.pm_lines.specs.pm_model.Words.{Words}
use Rattle.extent_map.specs.extent_model.declared.extent_words.Extent.{Extent}
use Rattle.layout_model.specs.declared.lines.Inode.{Inode}
use Rattle.layout_model.specs.declared.lines.Kind.{Kind}
use Rattle.layout_model.specs.declared.lines.Kind.TheVariants.{Free, Directory, File, Staging}
use Rattle.layout_model.specs.Lines.{NameRow, is_dots, is_name, is_name_byte, line_name_bytes}
use Rattle.layout_model.specs.Names.{Rows, row, walk}
use Rattle.layout_model.specs.TableLaws.{walk-step}
use Rattle.name_laws.specs.image_model.Content as content
use Rattle.name_laws.specs.image_model.Content.{found, node_of}
use Rattle.name_laws.specs.image_model.Live.{is_directory, is_file}
use Rattle.name_laws.specs.image_model.Volume.{Volume, free_inode, inode, extents}
use Rattle.posix_types.specs.declared.tree.TreeEntry.{TreeEntry}
use Rattle.posix_types.specs.declared.tree.TreeNode.{TreeNode}
use Rattle.posix_laws.specs.posix_tables.Names.{bytes_before, longest_path}
use Rattle.posix_laws.specs.posix_tables.Places.{printed}
use Rattle.posix_laws.specs.list_laws.Filters.{In-map, map-In}
use Rattle.posix_laws.specs.list_laws.Members.{In}
use Rattle.posix_laws.specs.Order.{RisingBy, before_or_after, before_trans}
use Rattle.posix_laws.specs.Paths.{ArePlainNames, HasNoSlash, IsFilled, IsPlainName, printed_same}
use Rattle.posix_laws.specs.TreeOf.{IsTreeOf, Rising-map}
use Rattle.k_tables.specs.declared.tables.trees.TreePlace.{TreePlace}
use Rattle.k_tables.specs.TablesTrees.{has_path, is_at, IsStanding, IsTree}
use Rattle.k_tables.proofs.PathLists.{same_path-eq, same_path-self}
use Rattle.k_tables.specs.Files.{first_bytes}
use Rattle.k_tables.specs.ContentsTrees.{entry_in, HasTables, HasTree, inode_in, IsNode, map_in, node_in, tree_content, tree_node}
use Rattle.k_tables.specs.ContentsTrees as own

-- ---- lists

-- a fact of each element is one of each member
All-In : {X : Type 0} (P : X → Type 0) (xs : List X) (x : X) → All P xs → In x xs → P x
All-In P [] x all is = absurd is
All-In P (y ∷ ys) x all (inl same) = subst P same (all 0 y (omega arith))
All-In P (y ∷ ys) x all (inr behind) = All-In P ys x (λ k d below. all (suc k) d (omega arith)) behind

abbrev one_if : Bool → ℕ
one_if b = cond b 1 0

count-none : {X : Type 0} (p : X → Bool) (xs : List X) (x : X) → In x xs → p x ≡ true → 1 ≤ count_by p xs
count-none {X} p [] x is passes = absurd is
count-none {X} p (y ∷ ys) x (inl same) passes =
    let one : one_if (p y) ≡ 1 = ap one_if (ap p same ∙ passes) in
    omega (arith, sum_by-cons (λ (z : X). cond (p z) 1 0) y ys, one)
count-none {X} p (y ∷ ys) x (inr behind) passes =
    omega (arith, sum_by-cons (λ (z : X). cond (p z) 1 0) y ys, count-none p ys x behind passes)

-- where one is counted, it is a member
count-some : {X : Type 0} (p : X → Bool) (xs : List X) → 1 ≤ count_by p xs → (x : X) × In x xs × (p x ≡ true)
count-some {X} p [] some = absurd (omega arith)
count-some {X} p (y ∷ ys) some = elim (cases_Bool (p y)) [
  | inl here ↦ (y, inl refl, here)
  | inr away ↦
      let none : one_if (p y) ≡ 0 = ap one_if away in
      let rest = count-some p ys (omega (arith, sum_by-cons (λ (z : X). cond (p z) 1 0) y ys, none, some)) in
      (rest.0, inr rest.1, rest.2)
]

-- ---- rising texts

abbrev one_at : List (List ℕ) → TreePlace → ℕ
one_at path place = cond (is_at path place) 1 0

-- no two places have the same path
abbrev HaveOwnPaths : List TreePlace → Type 0
HaveOwnPaths places = (path : List (List ℕ)) → count_by (is_at path) places ≤ 1

own-tail : (place : TreePlace) (places : List TreePlace) → HaveOwnPaths (place ∷ places) → HaveOwnPaths places
own-tail place places once path =
    omega (arith, sum_by-cons (λ (z : TreePlace). cond (is_at path z) 1 0) place places, once path)

-- nor have those behind a place its path
own-head : (place other : TreePlace) (places : List TreePlace) → HaveOwnPaths (place ∷ places) → In other places → place.path ≢ other.path
own-head place other places once is same =
    let here : one_at place.path place ≡ 1 = ap (λ b. cond b 1 0) (same_path-self place.path) in
    let there : is_at place.path other ≡ true = ap (λ p. is_at p other) same ∙ same_path-self other.path in
    omega (
      arith,
      sum_by-cons (λ (z : TreePlace). cond (is_at place.path z) 1 0) place places,
      once place.path,
      here,
      count-none (is_at place.path) places other is there,
    )

-- the text of a place is its own
abbrev AreTexts : List TreePlace → Type 0
AreTexts places = (x y : TreePlace) → In x places → In y places → x.text ≡ y.text → x.path ≡ y.path

abbrev DoNotFall : List TreePlace → Type 0
DoNotFall places = (k : ℕ) (d : TreePlace) → k + 1 < length places → bytes_before (get_or places (k + 1) d).text (get_or places k d).text ≡ false

rising-more : (x y : TreePlace) (ys : List TreePlace) → bytes_before x.text y.text ≡ true → RisingBy (λ (p : TreePlace). p.text) (y ∷ ys)
    → RisingBy (λ (p : TreePlace). p.text) (x ∷ y ∷ ys)
rising-more x y ys next rest = (head, rest)
  where
    head : (z : TreePlace) → In z (y ∷ ys) → bytes_before x.text z.text ≡ true
    head z (inl same) = subst (λ (p : TreePlace). bytes_before x.text p.text ≡ true) same next
    head z (inr behind) = before_trans x.text y.text z.text next (rest.0 z behind)

rising-sorted : (places : List TreePlace) → AreTexts places → HaveOwnPaths places → DoNotFall places → RisingBy (λ (p : TreePlace). p.text) places
rising-sorted [] texts once sorted = tt
rising-sorted (x ∷ []) texts once sorted = (λ y is. absurd is, tt)
rising-sorted (x ∷ y ∷ ys) texts once sorted =
    rising-more x y ys
    (before_or_after y.text x.text
    (λ same. own-head x y (y ∷ ys) once (inl refl) (texts x y (inl refl) (inr (inl refl)) same)) (sorted 0 x (omega arith)))
    (rising-sorted (y ∷ ys) (λ a b a_is b_is. texts a b (inr a_is) (inr b_is)) (own-tail x (y ∷ ys) once)
    (λ k d below.
    let next : suc k + 1 ≡ suc (k + 1) = omega arith in
    subst (λ n. bytes_before (get_or (x ∷ y ∷ ys) n d).text (get_or (y ∷ ys) k d).text ≡ false) next (sorted (suc k) d (omega arith))))

-- ---- names and nodes

no_slash : (name : List ℕ) → list_all is_name_byte name ≡ true → HasNoSlash name
no_slash [] all = tt
no_slash (b ∷ bs) all =
    let parts = and_parts (is_name_byte b) (list_all is_name_byte bs) all in
    let printable = and_parts (nat_le 33 b && nat_le b 126) (not (b == 47)) parts.0 in
    (λ is. let never : true ≡ false = sym printable.1 ∙ ap not ((Decides-eqb b 47).1 is) in cc, no_slash bs parts.1)

filled : (name : List ℕ) → nat_le 1 (length name) ≡ true → IsFilled name
filled [] long = let never : true ≡ false = sym long in cc
filled (b ∷ bs) long = tt

plain : (name : List ℕ) → is_name name ≡ true → IsPlainName name
plain name is =
    let first = and_parts (list_all is_name_byte name && nat_le 1 (length name) && nat_le (length name) line_name_bytes) (not (is_dots name)) is in
    let second = and_parts (list_all is_name_byte name && nat_le 1 (length name)) (nat_le (length name) line_name_bytes) first.0 in
    let third = and_parts (list_all is_name_byte name) (nat_le 1 (length name)) second.0 in
    record { filled = filled name third.1; no_slash = no_slash name third.0 }

-- a path that leads somewhere has the names of lines
plain-path : (rows : Rows) (ino : ℕ) (path : List (List ℕ)) (end : ℕ) → ((k : ℕ) (r : NameRow) → row rows k ≡ Some r → is_name r.name ≡ true)
    → walk rows ino path ≡ Some end → ArePlainNames path
plain-path rows ino [] end spelled leads = tt
plain-path rows ino (name ∷ names) end spelled leads =
    let step = walk-step rows ino name names end leads in (
      subst IsPlainName step.first.name_is (plain step.first.at.name (spelled step.first.line step.first.at step.first.is)),
      plain-path rows step.child names end spelled step.rest,
    )

-- and ends at a directory or a file
node-path : (inodes : List Inode) (rows : Rows) (ino : ℕ) (path : List (List ℕ)) (end : ℕ)
    → ((k : ℕ) (r : NameRow) → row rows k ≡ Some r → IsNode inodes r.child) → IsNode inodes ino → walk rows ino path ≡ Some end → IsNode inodes end
unfolding walk
node-path inodes rows ino [] end children node leads = subst (IsNode inodes) (same_Some ino end leads) node
node-path inodes rows ino (name ∷ names) end children node leads =
    let step = walk-step rows ino name names end leads in
    node-path inodes rows step.child names end children
    (subst (IsNode inodes) step.first.child_is (children step.first.line step.first.at step.first.is)) step.rest

-- such an inode has a line
pub node-within : (inodes : List Inode) (ino : ℕ) → IsNode inodes ino → ino < length inodes
node-within inodes ino node = elim (cases_lt ino (length inodes)) [
  | inl below ↦ below
  | inr past ↦
      let free : inode_in inodes ino ≡ free_inode = get_or_past inodes ino free_inode past in
      elim node [
        | inl directory ↦ let is : false ≡ true = ap (λ (x : Inode). is_directory x.kind) (sym free) ∙ directory in absurd (cc)
        | inr file ↦ let is : false ≡ true = ap (λ (x : Inode). is_file x.kind) (sym free) ∙ file in absurd (cc)
      ]
]

-- ---- what stands at a path

shown-kind : (kind : Kind) (bytes : List ℕ) → (is_directory kind ≡ true) ⊎ (is_file kind ≡ true)
    → option_map tree_node (content.node_by kind bytes) ≡ Some (own.node_by kind bytes)
shown-kind Free bytes (inl is) = cc
shown-kind Free bytes (inr is) = cc
shown-kind Directory bytes is = refl
shown-kind File bytes is = refl
shown-kind Staging bytes (inl is) = cc
shown-kind Staging bytes (inr is) = cc

shown-node : (v : Volume) (f : Words) (ino : ℕ) → IsNode v.inodes ino
    → option_map tree_node (node_of v [] f ino) ≡ Some (node_in (inode_in v.inodes ino) (map_in v.maps ino) f)
unfolding node_of
shown-node v f ino node = shown-kind (inode v ino).kind (first_bytes (extents v ino) f (inode v ino).size) node

at-end : (v : Volume) (f : Words) (path : List (List ℕ)) (o : Option ℕ) → walk v.names 0 path ≡ o
    → tree_content (found v [] f) path ≡ option_map tree_node (option_and_then (node_of v [] f) o)
unfolding found
at-end v f path o is = ap (λ p. option_map tree_node (option_and_then (node_of v [] f) p)) is

-- a path leads to what its inode is
shown-path : (v : Volume) (f : Words) (path : List (List ℕ)) (ino : ℕ) → walk v.names 0 path ≡ Some ino → IsNode v.inodes ino
    → tree_content (found v [] f) path ≡ Some (node_in (inode_in v.inodes ino) (map_in v.maps ino) f)
shown-path v f path ino leads node = at-end v f path (Some ino) leads ∙ shown-node v f ino node

none-some : (o : Option TreeNode) (node : TreeNode) → o ≡ None → o ≡ Some node → ⊥
none-some o node none some = cc

-- ---- the tree

module _ (v : Volume) (d : List Cell) (f : Words) (places : List TreePlace) (has : HasTree v.inodes v.names v.maps d) (tree : IsTree v.names places) where
  standing : (place : TreePlace) → In place places → IsStanding v.names place
  standing place is = All-In (IsStanding v.names) places place tree.each is

  node-at : (path : List (List ℕ)) (ino : ℕ) → walk v.names 0 path ≡ Some ino → IsNode v.inodes ino
  node-at path ino leads = node-path v.inodes v.names 0 path ino has.children has.root leads

  plain-at : (place : TreePlace) → In place places → ArePlainNames place.path
  plain-at place is = plain-path v.names 0 place.path place.ino has.spelled (standing place is).leads

  texts : AreTexts places
  texts x y x_is y_is same =
      printed_same x.path y.path (plain-at x x_is) (plain-at y y_is)
      (sym (standing x x_is).text ∙ same ∙ (standing y y_is).text)

  few : (b : Bool) → cond b 1 0 ≤ 1
  few true = omega arith
  few false = omega arith

  once : HaveOwnPaths places
  once path = omega (arith, tree.once path, few (nat_le (length path) longest_path && has_path v.names path))

  rising : RisingBy (λ (e : TreeEntry). printed e.path) (map (entry_in v.inodes v.maps f) places)
  rising =
      Rising-map (λ (p : TreePlace). p.text) (λ (e : TreeEntry). printed e.path) (entry_in v.inodes v.maps f) places
      (rising-sorted places texts once (λ k x below. tree.sorted k x (omega arith) below))
      (λ p is. sym (standing p is).text)

  each : (e : TreeEntry) → In e (map (entry_in v.inodes v.maps f) places) → tree_content (found v [] f) e.path ≡ Some e.node
  each e is =
      let from = map-In (entry_in v.inodes v.maps f) places e is in
      let leads = (standing from.0 from.1).leads in
      subst (λ (x : TreeEntry). tree_content (found v [] f) x.path ≡ Some x.node) from.2
      (shown-path v f from.0.path from.0.ino leads (node-at from.0.path from.0.ino leads))

  counted : (path : List (List ℕ)) (ino : ℕ) → walk v.names 0 path ≡ Some ino → count_by (is_at path) places ≡ 1
  counted path ino leads =
      let has_one : has_path v.names path ≡ true = ap (λ (o : Option ℕ). is_some o) leads in
      let short : nat_le (length path) longest_path ≡ true = (let at = has.short path ino leads in grind (arith, nat_tests)) in
      tree.once path ∙ (λ i. cond (short i && has_one i) 1 0)

  led : (path : List (List ℕ)) (ino : ℕ) → walk v.names 0 path ≡ Some ino
      → In (record { path = path; node = node_in (inode_in v.inodes ino) (map_in v.maps ino) f }) (map (entry_in v.inodes v.maps f) places)
  led path ino leads =
      let at = count-some (is_at path) places (omega (arith, counted path ino leads)) in
      let same : at.0.path ≡ path = same_path-eq at.0.path path at.2 in
      let one : at.0.ino ≡ ino = same_Some at.0.ino ino (sym (standing at.0 at.1).leads ∙ ap (walk v.names 0) same ∙ leads) in
      subst (λ (e : TreeEntry). In e (map (entry_in v.inodes v.maps f) places))
      (λ i. record { path = same i; node = node_in (inode_in v.inodes (one i)) (map_in v.maps (one i)) f })
      (In-map (entry_in v.inodes v.maps f) places at.0 at.1)

  every : (path : List (List ℕ)) (node : TreeNode) → tree_content (found v [] f) path ≡ Some node
      → In (record { path = path; node = node }) (map (entry_in v.inodes v.maps f) places)
  every path node stands = by (walk v.names 0 path) refl
    where
      by : (o : Option ℕ) → walk v.names 0 path ≡ o → In (record { path = path; node = node }) (map (entry_in v.inodes v.maps f) places)
      by None leads =
          absurd (none-some (tree_content (found v [] f) path) node (at-end v f path None leads) stands)
      by (Some ino) leads =
          let same : node_in (inode_in v.inodes ino) (map_in v.maps ino) f ≡ node =
          same_Some (node_in (inode_in v.inodes ino) (map_in v.maps ino) f) node
          (sym (shown-path v f path ino leads (node-at path ino leads)) ∙ stands) in
          subst (λ (n : TreeNode). In (record { path = path; node = n }) (map (entry_in v.inodes v.maps f) places)) same (led path ino leads)

  pub listed : IsTreeOf (tree_content (found v [] f)) (map (entry_in v.inodes v.maps f) places)
  listed = record { rising = rising; each = each; all = every }

-- the places of a tree whose tables are those of a volume
pub tree-listed : (v : Volume) (d : List Cell) (f : Words) (inodes : List Inode) (rows : Rows) (maps : List (List Extent)) (places : List TreePlace)
    (entries : List TreeEntry) → HasTree inodes rows maps d → IsTree rows places → HasTables inodes rows maps v
    → entries ≡ map (entry_in inodes maps f) places → IsTreeOf (tree_content (found v [] f)) entries
tree-listed v d f inodes rows maps places entries has tree same are =
    let inodes_is : inodes ≡ v.inodes = sym same.same_inodes in
    let rows_is : rows ≡ v.names = sym same.same_names in
    let maps_is : maps ≡ v.maps = sym same.same_maps in
    let has_all : HasTree v.inodes v.names v.maps d =
    subst (λ i. HasTree i v.names v.maps d) inodes_is (subst (λ r. HasTree inodes r v.maps d) rows_is (subst (λ m. HasTree inodes rows m d) maps_is has)) in
    subst (IsTreeOf (tree_content (found v [] f))) (sym (are ∙ (λ i. map (entry_in (inodes_is i) (maps_is i) f) places)))
    (listed v d f places has_all (subst (λ r. IsTree r places) rows_is tree))

-- an inode that a place leads to has a line
pub place-within : (inodes : List Inode) (rows : Rows) (maps : List (List Extent)) (d : List Cell) (places : List TreePlace) (k : ℕ) (place : TreePlace)
    → HasTree inodes rows maps d → IsTree rows places → k < length places → place ≡ get_or places k place → place.ino < length inodes
place-within inodes rows maps d places k place has tree below is =
    let stands : IsStanding rows place = subst (IsStanding rows) (sym is) (tree.each k place below) in
    node-within inodes place.ino (node-path inodes rows 0 place.path place.ino has.children has.root stands.leads)
