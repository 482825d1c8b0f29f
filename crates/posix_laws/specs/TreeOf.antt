-- The tree of a content: it lists what stands at each path. A content has one tree, and that of a state is its tree.
use Rattle.std.specs.Prelude.{◌≡◌, ◌≢◌, ℕ, true, List, [], ◌∷◌, map, Option, Some, None, option_map, refl}
use Rattle.std.proofs.Common.{ap, ◌∙◌, sym, subst, inl, inr}
use Rattle.std.proofs.lemmas.Option.{same_Some}
use Rattle.posix_spec.specs.posix_types.declared.tree.TreeEntry.{TreeEntry}
use Rattle.posix_spec.specs.posix_types.declared.tree.TreeNode.{TreeNode}
use Rattle.posix_spec.specs.posix_tables.declared.nodes.DirEntry.{DirEntry}
use Rattle.posix_spec.specs.posix_tables.declared.places.Place.{Place}
use Rattle.posix_spec.specs.posix_tables.Lookups.{AreDistinct, none_mapped}
use Rattle.posix_spec.specs.posix_tables.Names.{bytes_before, is_entry}
use Rattle.posix_spec.specs.posix_tables.Nodes.{node_at}
use Rattle.posix_spec.specs.posix_tables.Places.{entry_place, place_of, places, printed, tree_entry, tree_node}
use Rattle.posix_laws.specs.DistinctLaws.{own_entry}
use Rattle.posix_spec.specs.State.{State}
use Rattle.posix_spec.specs.Tree.{tree}
use Rattle.list_laws.specs.Filters.{In-map, map-In}
use Rattle.list_laws.specs.Members.{find-none, In}
use Rattle.posix_laws.specs.Entries.{IsTreeLike, led_where, path_of, path_of-own, path_of-plain, walk_down-path_of}
use Rattle.posix_laws.specs.Order.{Rising-same, RisingBy}
use Rattle.posix_laws.specs.Paths.{printed_same, stands_at, walk_down, walk_down-nil}
use Rattle.posix_laws.specs.TreeLaws.{HaveOwnTexts, In-put_all, put_all-In, Rising-put_all, text_of}

-- The tree lists what stands at each path, and nothing else, in the byte order of the printed paths.
pub record IsTreeOf (content : List (List ℕ) → Option TreeNode) (left : List TreeEntry) : Type 0 where
  pub rising : RisingBy (λ (e : TreeEntry). printed e.path) left
  pub each : (e : TreeEntry) → In e left → content e.path ≡ Some e.node
  pub all : (path : List (List ℕ)) (node : TreeNode) → content path ≡ Some node → In (record { path = path; node = node }) left

-- A content has at most one tree.
pub IsTreeOf-same : (content : List (List ℕ) → Option TreeNode) (a b : List TreeEntry) → IsTreeOf content a → IsTreeOf content b → a ≡ b
IsTreeOf-same content a b first second =
    Rising-same (λ (e : TreeEntry). printed e.path) a b first.rising second.rising
    (λ e is. second.all e.path e.node (first.each e is)) (λ e is. first.all e.path e.node (second.each e is))

-- Contents that agree have the same trees.
pub IsTreeOf-agree : (content other : List (List ℕ) → Option TreeNode) (left : List TreeEntry) → ((path : List (List ℕ)) → other path ≡ content path) → IsTreeOf content left → IsTreeOf other left
IsTreeOf-agree content other left agree is = record {
  rising = is.rising;
  each = λ e there. agree e.path ∙ is.each e there;
  all = λ path node stands. is.all path node (sym (agree path) ∙ stands);
}

-- The places of a state whose entries are those of a tree.

-- texts that rise, of elements that are mapped
pub Rising-map : {X Y : Type 0} (t : X → List ℕ) (u : Y → List ℕ) (g : X → Y) (xs : List X) → RisingBy t xs → ((x : X) → In x xs → u (g x) ≡ t x) → RisingBy u (map g xs)
Rising-map t u g [] rising same = tt
Rising-map {X} {Y} t u g (x ∷ xs) rising same = (head, Rising-map t u g xs rising.1 (λ y is. same y (inr is))) where
  head : (y : Y) → In y (map g xs) → bytes_before (u (g x)) (u y) ≡ true
  head y is =
      let from = map-In g xs y is in
      let later : u y ≡ t from.0 = ap u (sym from.2) ∙ same from.0 (inr from.1) in
      (λ i. bytes_before (same x (inl refl) i) (later i)) ∙ rising.0 from.0 from.1

entry_place-is : (entries : List DirEntry) (e : DirEntry) → entry_place entries e ≡ place_of (path_of entries e) e.child
unfolding entry_place
entry_place-is entries e = refl

-- two entries of one text have one directory and one name
other_text : (entries : List DirEntry) → IsTreeLike entries → (a b : DirEntry) → In a entries → In b entries → (entry_place entries a).text ≡ (entry_place entries b).text
    → (a.parent ≡ b.parent) × (a.name ≡ b.name)
other_text entries like a b a_is b_is same =
    let texts : printed (path_of entries a) ≡ printed (path_of entries b) = sym (ap text_of (entry_place-is entries a)) ∙ (same ∙ ap text_of (entry_place-is entries b)) in
    let paths = printed_same (path_of entries a) (path_of entries b) (path_of-plain entries a like a_is) (path_of-plain entries b like b_is) texts in
    path_of-own entries a b like a_is b_is paths

own_texts : (entries : List DirEntry) → IsTreeLike entries → (es : List DirEntry) → AreDistinct es → ((e : DirEntry) → In e es → In e entries) → HaveOwnTexts (entry_place entries) es
own_texts entries like [] distinct among = tt
own_texts entries like (e ∷ es) distinct among = (head, own_texts entries like es distinct.1 (λ x is. among x (inr is))) where
  head : (other : DirEntry) → In other es → (entry_place entries e).text ≢ (entry_place entries other).text
  head other is same =
      let one = other_text entries like e other (among e (inl refl)) (among other (inr is)) same in
      find-none (is_entry e.parent e.name) es other (none_mapped _ distinct.0) is
      (own_entry other e.parent e.name (sym one.0) (sym one.1))

-- no entry has the text of the root
root_apart : (entries : List DirEntry) → IsTreeLike entries → (e : DirEntry) → In e entries → printed [] ≢ (entry_place entries e).text
root_apart entries like e is same =
    let none : [] ≡ path_of entries e = printed_same [] (path_of entries e) tt (path_of-plain entries e like is) (same ∙ ap text_of (entry_place-is entries e)) in
    like.root e is (same_Some e.child 0 (sym (walk_down-path_of entries e like is) ∙ (ap (walk_down entries 0) (sym none) ∙ walk_down-nil entries 0)))

rising_places : (entries : List DirEntry) → IsTreeLike entries → RisingBy text_of (places entries)
unfolding places
rising_places entries like =
    Rising-put_all (entry_place entries) (place_of [] 0 ∷ []) entries (λ y is. absurd is, tt) apart (own_texts entries like entries like.distinct (λ e is. is)) where
      apart : (e : DirEntry) → In e entries → (z : Place) → In z (place_of [] 0 ∷ []) → z.text ≢ (entry_place entries e).text
      apart e is z (inl root) same = root_apart entries like e is (ap text_of root ∙ same)
      apart e is z (inr none) same = none

-- a place of a state: its text is its printed path, and its path leads to its node
record IsLed (entries : List DirEntry) (z : Place) : Type 0 where
  text : z.text ≡ printed z.path
  led : walk_down entries 0 z.path ≡ Some z.node

places-led : (entries : List DirEntry) → IsTreeLike entries → (z : Place) → In z (places entries) → IsLed entries z
unfolding places
places-led entries like z is = elim (put_all-In (entry_place entries) (place_of [] 0 ∷ []) entries z is) [
  | inl first ↦ elim first [
    | inl root ↦ subst (IsLed entries) root (record { text = refl; led = walk_down-nil entries 0 })
    | inr none ↦ absurd none
  ]
  | inr entry ↦
      subst (IsLed entries) (sym (entry_place-is entries entry.0) ∙ entry.2) (record { text = refl; led = walk_down-path_of entries entry.0 like entry.1 })
]

led-places : (entries : List DirEntry) → IsTreeLike entries → (path : List (List ℕ)) (d : ℕ) → walk_down entries 0 path ≡ Some d → In (place_of path d) (places entries)
unfolding places
led-places entries like path d leads = elim (led_where entries path d like leads) [
  | inl root ↦ In-put_all (entry_place entries) (place_of [] 0 ∷ []) entries (place_of path d) (inl (inl (λ i. place_of (sym root.0 i) (root.1 i))))
  | inr entry ↦
      In-put_all (entry_place entries) (place_of [] 0 ∷ []) entries (place_of path d)
      (inr (entry.0, entry.1, entry_place-is entries entry.0 ∙ (λ i. place_of (entry.2 i) (entry.3 i))))
]

-- THE BRIDGE: the tree of a state lists what stands at its paths.
pub IsTreeOf-tree : (s : State) → IsTreeLike s.entries → IsTreeOf (stands_at s) (tree s)
IsTreeOf-tree s like = record { rising = rising; each = each; all = all } where
  entry : Place → TreeEntry
  entry z = tree_entry s.nodes z

  rising : RisingBy (λ (e : TreeEntry). printed e.path) (tree s)
  rising =
      Rising-map text_of (λ (e : TreeEntry). printed e.path) (tree_entry s.nodes) (places s.entries) (rising_places s.entries like)
      (λ z is. sym (places-led s.entries like z is).text)

  each : (e : TreeEntry) → In e (tree s) → stands_at s e.path ≡ Some e.node
  each e is =
      let from = map-In (tree_entry s.nodes) (places s.entries) e is in
      subst (λ (x : TreeEntry). stands_at s x.path ≡ Some x.node) from.2
      (ap (λ o. option_map (λ n. tree_node (node_at s.nodes n)) o) (places-led s.entries like from.0 from.1).led)

  all : (path : List (List ℕ)) (node : TreeNode) → stands_at s path ≡ Some node → In (record { path = path; node = node }) (tree s)
  all path node stands = by (walk_down s.entries 0 path) refl stands where
    by : (o : Option ℕ) → walk_down s.entries 0 path ≡ o → option_map (λ n. tree_node (node_at s.nodes n)) o ≡ Some node → In (record { path = path; node = node }) (tree s)
    by None leads is = cc
    by (Some d) leads is =
        subst (λ x. In (record { path = path; node = x }) (tree s)) (same_Some (tree_node (node_at s.nodes d)) node is)
        (In-map (tree_entry s.nodes) (places s.entries) (place_of path d) (led-places s.entries like path d leads))
