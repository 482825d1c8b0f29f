-- How a state begins with a tree: node by node the entries of the tree, by their places, and paths that lead to them.
use Rattle.std.specs.Prelude.{◌≡◌, ◌≢◌, ◌⊎◌, ◌≤◌, ℕ, zero, suc, ◌+◌, ◌-◌, ◌==◌, Bool, true, false, cond, List, [], ◌∷◌, ◌++◌, length, find, fold, insert, map, take, Option, Some, None, option_map, Ok, Err, slice_get, slice_index_or, refl}
use Rattle.std.proofs.Common.{arith, ap, ◌∙◌, sym, subst, inl, inr, append_assoc}
use Rattle.std.proofs.Math.Nat.{le_refl}
use Rattle.std.proofs.Math.Seq.{take-append_seam}
use Rattle.std.proofs.lemmas.List.{append-nil, length-append, length-map, map-append}
use Rattle.std.proofs.lemmas.Option.{get_or_from_slice_get, slice_get-map, slice_get_within}
use Rattle.std.proofs.lemmas.Bool.Decides.{nat_tests}
use Rattle.posix_spec.specs.posix_types.declared.call.Mode.{Mode}
use Rattle.posix_spec.specs.posix_types.declared.reply.Errno.{Errno}
use Rattle.posix_spec.specs.posix_types.declared.reply.Shape.{Shape}
use Rattle.posix_spec.specs.posix_types.declared.tree.TreeEntry.{TreeEntry}
use Rattle.posix_spec.specs.posix_types.declared.tree.TreeNode.{TreeNode}
use Rattle.posix_spec.specs.posix_tables.declared.nodes.DirEntry.{DirEntry}
use Rattle.posix_spec.specs.posix_tables.declared.nodes.Node.{Node}
use Rattle.posix_spec.specs.posix_tables.Lookups.{entry_of}
use Rattle.posix_spec.specs.posix_tables.Names.{bytes_before, child_of, directory_path, downward, is_entry, is_root, last_name, parent_at, walk, walk_from, with_entry}
use Rattle.posix_spec.specs.posix_tables.Nodes.{is_directory, node_at}
use Rattle.posix_spec.specs.posix_tables.Places.{node_of, printed}
use Rattle.posix_spec.specs.State.{made, space, State}
use Rattle.posix_spec.specs.Tree.{bare, planted, start}
use Rattle.posix_laws.specs.DistinctLaws.{own_entry}
use Rattle.list_laws.specs.Members.{find-In, find-none, In, In-insert, insert-In, length-inserted, slice_get-front, slice_get-In, slice_get-last, slice_get-push}
use Rattle.posix_laws.specs.Order.{Rising-push, rising_place, RisingBy}

-- Trees.

-- An entry of a tree may follow those of a front: it stands below a directory of the front, and its printed path comes after
-- all of theirs.
pub record MayFollow (front : List TreeEntry) (e : TreeEntry) : Type 0 where
  pub above : TreeEntry
  pub name : List ℕ
  pub stands : In above front
  pub directory : above.node ≡ TreeNode.Directory
  pub below : e.path ≡ above.path ++ name ∷ []
  pub last : (other : TreeEntry) → In other front → bytes_before (printed other.path) (printed e.path) ≡ true

abbrev pub Follow : List TreeEntry → List TreeEntry → Type 0
Follow front [] = Unit {0}
Follow front (e ∷ es) = MayFollow front e × Follow (front ++ e ∷ []) es

-- The root first, a directory, and each path once, in byte order, below a directory that stands before it.
abbrev pub IsTree : List TreeEntry → Type 0
IsTree [] = ⊥
IsTree (root ∷ rest) = (root.path ≡ []) × (root.node ≡ TreeNode.Directory) × Follow (root ∷ []) rest

-- Begun states.

-- an entry of a directory leads from the place of a directory of the front to the place of an entry one name below it
pub record IsEntryOf (front : List TreeEntry) (e : DirEntry) : Type 0 where
  pub own : TreeEntry
  pub above : TreeEntry
  pub own_is : slice_get front e.child ≡ Some own
  pub above_is : slice_get front e.parent ≡ Some above
  pub directory : above.node ≡ TreeNode.Directory
  pub path : own.path ≡ above.path ++ e.name ∷ []

-- no two entries have one child
abbrev pub HaveOwnChildren : List DirEntry → Type 0
HaveOwnChildren [] = Unit {0}
HaveOwnChildren (e ∷ es) = ((other : DirEntry) → In other es → other.child ≢ e.child) × HaveOwnChildren es

-- the entries of a front of a tree stand in these nodes and directory entries
pub record AreBegun (front : List TreeEntry) (nodes : List Node) (entries : List DirEntry) : Type 0 where
  pub nodes_are : nodes ≡ map (λ e. node_of e.node) front
  pub root : TreeEntry
  pub root_is : slice_get front 0 ≡ Some root
  pub root_path : root.path ≡ []
  pub rising : RisingBy (λ (e : TreeEntry). printed e.path) front
  pub each : (e : DirEntry) → In e entries → IsEntryOf front e
  pub all : (n : ℕ) (own : TreeEntry) → slice_get front n ≡ Some own → (n ≡ 0) ⊎ ((e : DirEntry) × In e entries × (e.child ≡ n))
  pub own_children : HaveOwnChildren entries
  pub deep : (n : ℕ) (own : TreeEntry) → slice_get front n ≡ Some own → length own.path ≤ n
  pub count : length entries + 1 ≡ length front

-- one element at one place
pub one_element : {X : Type 0} (xs : List X) (m n : ℕ) (a b : X) → slice_get xs m ≡ Some a → slice_get xs n ≡ Some b → m ≡ n → a ≡ b
one_element xs m n a b first second same =
    let both : Some a ≡ Some b = sym first ∙ (ap (slice_get xs) same ∙ second) in
    cc

-- one path at one place
one_place : (front : List TreeEntry) (nodes : List Node) (entries : List DirEntry) → AreBegun front nodes entries → (m n : ℕ) (a b : TreeEntry)
    → slice_get front m ≡ Some a → slice_get front n ≡ Some b → a.path ≡ b.path → m ≡ n
one_place front nodes entries begun m n a b first second same =
    rising_place (λ (e : TreeEntry). printed e.path) front begun.rising m n a b first second (ap printed same)

-- the node at a place
pub node_at-begun : (front : List TreeEntry) (nodes : List Node) (entries : List DirEntry) → AreBegun front nodes entries → (n : ℕ) (own : TreeEntry)
    → slice_get front n ≡ Some own → node_at nodes n ≡ node_of own.node
node_at-begun front nodes entries begun n own is =
    get_or_from_slice_get nodes n (node_of own.node) Node.Gone
    (ap (λ xs. slice_get xs n) begun.nodes_are ∙ (slice_get-map (λ (e : TreeEntry). node_of e.node) front n ∙ ap (λ o. option_map (λ (e : TreeEntry). node_of e.node) o) is))

directory_at : (front : List TreeEntry) (nodes : List Node) (entries : List DirEntry) → AreBegun front nodes entries → (n : ℕ) (own : TreeEntry)
    → slice_get front n ≡ Some own → own.node ≡ TreeNode.Directory → is_directory nodes n ≡ true
directory_at front nodes entries begun n own is directory =
    let at_n : node_at nodes n ≡ Node.Directory = node_at-begun front nodes entries begun n own is ∙ ap node_of directory in
    rw at_n refl

-- an entry's name leads to its child
child_of-begun : (front : List TreeEntry) (nodes : List Node) (entries : List DirEntry) → AreBegun front nodes entries → (e : DirEntry) → In e entries
    → child_of entries e.parent e.name ≡ Some e.child
child_of-begun front nodes entries begun e is = by (find (is_entry e.parent e.name) entries) refl where
  same_child : (other : DirEntry) → In other entries × (is_entry e.parent e.name other ≡ true) → other.child ≡ e.child
  same_child other (there, passes) =
      let names = entry_of e.parent e.name other passes in
      let mine = begun.each e is in
      let its = begun.each other there in
      let above : its.above ≡ mine.above = one_element front other.parent e.parent its.above mine.above its.above_is mine.above_is names.0 in
      let path : its.own.path ≡ mine.own.path = its.path ∙ (ap (λ (a : TreeEntry). a.path ++ other.name ∷ []) above ∙ (ap (λ x. mine.above.path ++ x ∷ []) names.1 ∙ sym mine.path)) in
      one_place front nodes entries begun other.child e.child its.own mine.own its.own_is mine.own_is path

  by : (o : Option DirEntry) → find (is_entry e.parent e.name) entries ≡ o → child_of entries e.parent e.name ≡ Some e.child
  by None none = absurd (find-none (is_entry e.parent e.name) entries e none is (own_entry e e.parent e.name refl refl))
  by (Some other) found = ap (λ o. option_map (λ (x : DirEntry). x.child) o) found ∙ ap Some (same_child other (find-In (is_entry e.parent e.name) entries other found))

-- a walk with one more name
walk_from-last : (directory : ℕ → Bool) (entries : List DirEntry) (from : ℕ) (names : List (List ℕ)) (name : List ℕ) (n : ℕ) → walk_from directory entries from names ≡ Ok n
    → walk_from directory entries from (names ++ name ∷ []) ≡ downward directory (child_of entries n name) (λ node. Ok node)
walk_from-last directory entries from [] name n led =
    let same : from ≡ n = cc in
    ap (λ m. downward directory (child_of entries m name) (λ node. Ok node)) same
walk_from-last directory entries from (first ∷ names) name n led =
    by (child_of entries from first) led (λ node. walk_from-last directory entries node names name n) where
      onward : (node : ℕ) (b : Bool)
          → (walk_from directory entries node names ≡ Ok n → walk_from directory entries node (names ++ name ∷ []) ≡ downward directory (child_of entries n name) (λ m. Ok m))
          → cond b (walk_from directory entries node names) (Err Errno.ENOTDIR) ≡ Ok n
          → cond b (walk_from directory entries node (names ++ name ∷ [])) (Err Errno.ENOTDIR) ≡ downward directory (child_of entries n name) (λ m. Ok m)
      onward node true rest is = rest is
      onward node false rest is = cc

      by : (o : Option ℕ) → downward directory o (λ node. walk_from directory entries node names) ≡ Ok n
          → ((node : ℕ) → walk_from directory entries node names ≡ Ok n → walk_from directory entries node (names ++ name ∷ []) ≡ downward directory (child_of entries n name) (λ m. Ok m))
          → downward directory o (λ node. walk_from directory entries node (names ++ name ∷ [])) ≡ downward directory (child_of entries n name) (λ m. Ok m)
      by None is rest = cc
      by (Some node) is rest = onward node (directory node) (rest node) is

-- the length of a path with one more name
length-below : (above : List (List ℕ)) (name : List ℕ) → length (above ++ name ∷ []) ≡ length above + 1
length-below above name = length-append above (name ∷ [])

-- the path at the place of an entry's child
pub path_below : (front : List TreeEntry) (nodes : List Node) (entries : List DirEntry) (begun : AreBegun front nodes entries) (d : ℕ) (own : TreeEntry) (e : DirEntry) (there : In e entries)
    → slice_get front d ≡ Some own → e.child ≡ d → own.path ≡ (begun.each e there).above.path ++ e.name ∷ []
path_below front nodes entries begun d own e there is child =
    let its = begun.each e there in
    ap (λ (x : TreeEntry). x.path) (one_element front d e.child own its.own is its.own_is (sym child)) ∙ its.path

-- the path at the place of the root
pub path_first : (front : List TreeEntry) (nodes : List Node) (entries : List DirEntry) → AreBegun front nodes entries → (d : ℕ) (own : TreeEntry)
    → slice_get front d ≡ Some own → d ≡ 0 → own.path ≡ []
path_first front nodes entries begun d own is zeroth =
    ap (λ (e : TreeEntry). e.path) (one_element front d 0 own begun.root is begun.root_is zeroth) ∙ begun.root_path

walk_first : (front : List TreeEntry) (nodes : List Node) (entries : List DirEntry) → AreBegun front nodes entries → (d : ℕ) (own : TreeEntry)
    → slice_get front d ≡ Some own → d ≡ 0 → walk_from (is_directory nodes) entries 0 own.path ≡ Ok d
walk_first front nodes entries begun d own is zeroth =
    ap (walk_from (is_directory nodes) entries 0) (path_first front nodes entries begun d own is zeroth) ∙ ap Ok (sym zeroth)

walk_below : (front : List TreeEntry) (nodes : List Node) (entries : List DirEntry) (begun : AreBegun front nodes entries) (d : ℕ) (own : TreeEntry) (e : DirEntry) (there : In e entries)
    → slice_get front d ≡ Some own → own.node ≡ TreeNode.Directory → e.child ≡ d
    → walk_from (is_directory nodes) entries 0 (begun.each e there).above.path ≡ Ok e.parent → walk_from (is_directory nodes) entries 0 own.path ≡ Ok d
walk_below front nodes entries begun d own e there is directory child led =
    ap (walk_from (is_directory nodes) entries 0) (path_below front nodes entries begun d own e there is child)
    ∙ (walk_from-last (is_directory nodes) entries 0 (begun.each e there).above.path e.name e.parent led
    ∙ (ap (λ o. downward (is_directory nodes) o (λ node. Ok node)) (child_of-begun front nodes entries begun e there ∙ ap Some child)
    ∙ ap (λ b. cond b (Ok d) (Err Errno.ENOTDIR)) (directory_at front nodes entries begun d own is directory)))

pub shorter_above : (path above : List (List ℕ)) (name : List ℕ) (most : ℕ) → path ≡ above ++ name ∷ [] → length path ≤ suc most → length above ≤ most
shorter_above path above name most is within = omega (arith, ap length is, length-below above name, within)

pub never_below : (path above : List (List ℕ)) (name : List ℕ) → path ≡ above ++ name ∷ [] → length path ≤ 0 → ⊥
never_below path above name is within = omega (arith, ap length is, length-below above name, within)

-- The path of a directory leads to its place.
pub walk_from-begun : (front : List TreeEntry) (nodes : List Node) (entries : List DirEntry) → AreBegun front nodes entries → (most d : ℕ) (own : TreeEntry)
    → slice_get front d ≡ Some own → own.node ≡ TreeNode.Directory → length own.path ≤ most → walk_from (is_directory nodes) entries 0 own.path ≡ Ok d
walk_from-begun front nodes entries begun zero d own is directory within =
    elim (begun.all d own is) [
      | inl zeroth ↦ walk_first front nodes entries begun d own is zeroth
      | inr entry ↦ absurd (never_below own.path _ _ (path_below front nodes entries begun d own entry.0 entry.1 is entry.2) within)
    ]
walk_from-begun front nodes entries begun (suc most) d own is directory within =
    elim (begun.all d own is) [
      | inl zeroth ↦ walk_first front nodes entries begun d own is zeroth
      | inr entry ↦
          let its = begun.each entry.0 entry.1 in
          let path = path_below front nodes entries begun d own entry.0 entry.1 is entry.2 in
          walk_below front nodes entries begun d own entry.0 entry.1 is directory entry.2
          (walk_from-begun front nodes entries begun most entry.0.parent its.above its.above_is its.directory (shorter_above own.path its.above.path entry.0.name most path within))
    ]

-- One more entry.

last_name-below : (above : List (List ℕ)) (name : List ℕ) → last_name (above ++ name ∷ []) ≡ name
last_name-below above name =
    let at_end : length (above ++ name ∷ []) - 1 ≡ length above = omega (arith, length-below above name) in
    ap (λ n. slice_index_or (above ++ name ∷ []) n []) at_end
    ∙ get_or_from_slice_get (above ++ name ∷ []) (length above) name [] (slice_get-last above name)

directory_path-below : (above : List (List ℕ)) (name : List ℕ) → directory_path (above ++ name ∷ []) ≡ above
directory_path-below above name =
    let at_end : length (above ++ name ∷ []) - 1 ≡ length above = omega (arith, length-below above name) in
    ap (λ n. take n (above ++ name ∷ [])) at_end ∙ take-append_seam above (name ∷ [])

is_root-below : (above : List (List ℕ)) (name : List ℕ) → is_root (above ++ name ∷ []) ≡ false
is_root-below above name = by _ refl where
  longer : (n : ℕ) → n ≡ length above + 1 → (n == 0) ≡ false
  longer n is = grind (arith, nat_tests)

  by : (n : ℕ) → length (above ++ name ∷ []) ≡ n → is_root (above ++ name ∷ []) ≡ false
  by n is = longer (length (above ++ name ∷ [])) (length-below above name)

own_children-inserted : (entries : List DirEntry) (i : ℕ) (x : DirEntry) → HaveOwnChildren entries → ((e : DirEntry) → In e entries → e.child ≢ x.child) → HaveOwnChildren (insert entries i x)
own_children-inserted entries zero x own new = (new, own)
own_children-inserted [] (suc i) x own new = (λ other is. absurd is, tt)
own_children-inserted (y ∷ ys) (suc i) x own new = (head, own_children-inserted ys i x own.1 (λ e is. new e (inr is))) where
  head : (other : DirEntry) → In other (insert ys i x) → other.child ≢ y.child
  head other is same = elim (In-insert ys i x other is) [
    | inl one ↦ new y (inl refl) (sym same ∙ sym (ap (λ (e : DirEntry). e.child) one))
    | inr behind ↦ own.0 other behind same
  ]

-- with one more entry of the tree, and its node and directory entry
begun_more : (front : List TreeEntry) (nodes : List Node) (entries : List DirEntry) (e above : TreeEntry) (d i : ℕ) (name : List ℕ) → AreBegun front nodes entries
    → slice_get front d ≡ Some above → above.node ≡ TreeNode.Directory → e.path ≡ above.path ++ name ∷ []
    → ((other : TreeEntry) → In other front → bytes_before (printed other.path) (printed e.path) ≡ true)
    → AreBegun (front ++ e ∷ []) (nodes ++ node_of e.node ∷ []) (insert entries i (record { parent = d; name = name; child = length front }))
begun_more front nodes entries e above d i name begun stands directory below last = record {
  nodes_are = ap (λ xs. xs ++ node_of e.node ∷ []) begun.nodes_are ∙ sym (map-append (λ (x : TreeEntry). node_of x.node) front (e ∷ []));
  root = begun.root;
  root_is = slice_get-front front (e ∷ []) 0 begun.root begun.root_is;
  root_path = begun.root_path;
  rising = Rising-push (λ (x : TreeEntry). printed x.path) front e begun.rising last;
  each = each;
  all = all;
  own_children = own_children-inserted entries i new begun.own_children other_child;
  deep = deep;
  count = omega (arith, length-inserted entries i new, length-append front (e ∷ []), begun.count);
} where
  new : DirEntry
  new = record { parent = d; name = name; child = length front }

  of_new : IsEntryOf (front ++ e ∷ []) new
  of_new = record {
    own = e;
    above = above;
    own_is = slice_get-last front e;
    above_is = slice_get-front front (e ∷ []) d above stands;
    directory = directory;
    path = below;
  }

  of_old : (x : DirEntry) → IsEntryOf front x → IsEntryOf (front ++ e ∷ []) x
  of_old x its = record {
    own = its.own;
    above = its.above;
    own_is = slice_get-front front (e ∷ []) x.child its.own its.own_is;
    above_is = slice_get-front front (e ∷ []) x.parent its.above its.above_is;
    directory = its.directory;
    path = its.path;
  }

  each : (x : DirEntry) → In x (insert entries i new) → IsEntryOf (front ++ e ∷ []) x
  each x is = elim (In-insert entries i new x is) [ inl one ↦ subst (IsEntryOf (front ++ e ∷ [])) one of_new | inr old ↦ of_old x (begun.each x old) ]

  all : (n : ℕ) (own : TreeEntry) → slice_get (front ++ e ∷ []) n ≡ Some own → (n ≡ 0) ⊎ ((x : DirEntry) × In x (insert entries i new) × (x.child ≡ n))
  all n own is = elim (slice_get-push front e n own is) [
    | inl old ↦ elim (begun.all n own old) [ inl zeroth ↦ inl zeroth | inr entry ↦ inr (entry.0, insert-In entries i new entry.0 (inr entry.1), entry.2) ]
    | inr end ↦ inr (new, insert-In entries i new new (inl refl), sym end.0)
  ]

  other_child : (x : DirEntry) → In x entries → x.child ≢ length front
  other_child x is same = omega (arith, slice_get_within front x.child (begun.each x is).own (begun.each x is).own_is, same)

  deep : (n : ℕ) (own : TreeEntry) → slice_get (front ++ e ∷ []) n ≡ Some own → length own.path ≤ n
  deep n own is = elim (slice_get-push front e n own is) [
    | inl old ↦ begun.deep n own old
    | inr end ↦
        let path : own.path ≡ above.path ++ name ∷ [] = ap (λ (x : TreeEntry). x.path) (sym end.1) ∙ below in
        omega (arith, ap length path, length-below above.path name, begun.deep d above stands, slice_get_within front d above stands, end.0)
  ]

-- the directory of a path that is one name below one of the front
parent_at-begun : (s : State) (path : List (List ℕ)) (d : ℕ) → walk_from (is_directory s.nodes) s.entries 0 (directory_path path) ≡ Ok d → parent_at (space s) path ≡ d
unfolding walk
parent_at-begun s path d led = rw led refl

begun_made : (front : List TreeEntry) (e : TreeEntry) (s : State) → AreBegun front s.nodes s.entries → MayFollow front e
    → AreBegun (front ++ e ∷ []) (made s e.path (node_of e.node)).nodes (made s e.path (node_of e.node)).entries
unfolding made with_entry
begun_made front e s begun follows =
    let place = slice_get-In front follows.above follows.stands in
    let above_walk = walk_from-begun front s.nodes s.entries begun (length follows.above.path) place.0 follows.above place.1 follows.directory (le_refl (length follows.above.path)) in
    let directory_is : directory_path e.path ≡ follows.above.path = ap directory_path follows.below ∙ directory_path-below follows.above.path follows.name in
    let parent_is : parent_at (space s) e.path ≡ place.0 = parent_at-begun s e.path place.0 (ap (walk_from (is_directory s.nodes) s.entries 0) directory_is ∙ above_walk) in
    let name_is : last_name e.path ≡ follows.name = ap last_name follows.below ∙ last_name-below follows.above.path follows.name in
    let count_is : length s.nodes ≡ length front = ap length begun.nodes_are ∙ length-map front (λ (x : TreeEntry). node_of x.node) in
    let more = λ (i : ℕ). begun_more front s.nodes s.entries e follows.above place.0 i follows.name begun place.1 follows.directory follows.below follows.last in
    rw (parent_is, name_is, count_is) (more _)

-- The whole tree.

begun_all : (front rest : List TreeEntry) (s : State) → AreBegun front s.nodes s.entries → Follow front rest → AreBegun (front ++ rest) (fold planted s rest).nodes (fold planted s rest).entries
begun_all front [] s begun follow = subst (λ xs. AreBegun xs s.nodes s.entries) (sym (append-nil front)) begun
begun_all front (e ∷ es) s begun follow =
    by (planted s e) planted_is (λ begun_next. begun_all (front ++ e ∷ []) es (planted s e) begun_next follow.1) where
      not_root : is_root e.path ≡ false
      not_root = ap is_root follow.0.below ∙ is_root-below follow.0.above.path follow.0.name

      planted_is : made s e.path (node_of e.node) ≡ planted s e
      planted_is = rw not_root refl

      by : (next : State) → made s e.path (node_of e.node) ≡ next
          → (AreBegun (front ++ e ∷ []) next.nodes next.entries → AreBegun ((front ++ e ∷ []) ++ es) (fold planted next es).nodes (fold planted next es).entries)
          → AreBegun (front ++ e ∷ es) (fold planted next es).nodes (fold planted next es).entries
      by next is rest =
          let begun_next : AreBegun (front ++ e ∷ []) next.nodes next.entries = subst (λ (t : State). AreBegun (front ++ e ∷ []) t.nodes t.entries) is (begun_made front e s begun follow.0) in
          subst (λ xs. AreBegun xs (fold planted next es).nodes (fold planted next es).entries) (append_assoc front (e ∷ []) es)
          (rest begun_next)

begun_first : (root : TreeEntry) (shape : Shape) (mode : Mode) → root.path ≡ [] → root.node ≡ TreeNode.Directory → AreBegun (root ∷ []) (bare shape mode).nodes (bare shape mode).entries
begun_first root shape mode path directory = record {
  nodes_are = ap (λ n. node_of n ∷ []) (sym directory);
  root = root;
  root_is = refl;
  root_path = path;
  rising = (λ y is. absurd is, tt);
  each = λ e is. absurd is;
  all = all;
  own_children = tt;
  deep = deep;
  count = refl;
} where
  all : (n : ℕ) (own : TreeEntry) → slice_get (root ∷ []) n ≡ Some own → (n ≡ 0) ⊎ ((x : DirEntry) × In x [] × (x.child ≡ n))
  all zero own is = inl refl
  all (suc n) own is = cc

  deep : (n : ℕ) (own : TreeEntry) → slice_get (root ∷ []) n ≡ Some own → length own.path ≤ n
  deep zero own is =
      let same : root ≡ own = cc in
      let none : own.path ≡ [] = ap (λ (e : TreeEntry). e.path) (sym same) ∙ path in
      omega (arith, ap length none)
  deep (suc n) own is = cc

-- In the state of a tree the numbers of the nodes are the places of its entries, and the directory entries lead there.
pub AreBegun-start : (left : List TreeEntry) (shape : Shape) (mode : Mode) → IsTree left → AreBegun left (start left shape mode).nodes (start left shape mode).entries
AreBegun-start [] shape mode is = absurd is
AreBegun-start (root ∷ rest) shape mode is = by (planted (bare shape mode) root) planted_is where
  planted_is : bare shape mode ≡ planted (bare shape mode) root
  planted_is = rw (ap is_root is.0) refl

  by : (first : State) → bare shape mode ≡ first → AreBegun (root ∷ rest) (fold planted first rest).nodes (fold planted first rest).entries
  by first same = begun_all (root ∷ []) rest first (subst (λ (t : State). AreBegun (root ∷ []) t.nodes t.entries) same (begun_first root shape mode is.0 is.1)) is.2
