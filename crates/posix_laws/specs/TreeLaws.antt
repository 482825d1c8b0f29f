-- The tree of a state that began with a tree is that tree.
use Rattle.std.specs.Prelude.{◌≡◌, ◌≢◌, ◌⊎◌, ◌≤◌, ℕ, zero, suc, ◌+◌, ◌==◌, true, List, [], ◌∷◌, ◌++◌, length, find, fold, map, Option, Some, None, slice_get, refl}
use Rattle.std.specs.Option.{option_map_or}
use Rattle.std.proofs.Common.{arith, ap, ◌∙◌, sym, subst, inl, inr}
use Rattle.std.proofs.lemmas.Bool.Decides.{Decides-eqb}
use Rattle.std.proofs.lemmas.List.{nil_from_length}
use Rattle.std.proofs.lemmas.Option.{slice_get_within}
use Rattle.posix_spec.specs.posix_types.declared.call.Mode.{Mode}
use Rattle.posix_spec.specs.posix_types.declared.reply.Shape.{Shape}
use Rattle.posix_spec.specs.posix_types.declared.tree.TreeEntry.{TreeEntry}
use Rattle.posix_spec.specs.posix_types.declared.tree.TreeNode.{TreeNode}
use Rattle.posix_spec.specs.posix_tables.declared.nodes.DirEntry.{DirEntry}
use Rattle.posix_spec.specs.posix_tables.declared.nodes.Node.{Node}
use Rattle.posix_spec.specs.posix_tables.declared.places.Place.{Place}
use Rattle.posix_spec.specs.posix_tables.Names.{bytes_before}
use Rattle.posix_spec.specs.posix_tables.Nodes.{node_at}
use Rattle.posix_spec.specs.posix_tables.Places.{entry_place, node_of, path_to, place_of, places, printed, tree_entry, tree_node, with_place}
use Rattle.posix_spec.specs.Tree.{start, tree}
use Rattle.posix_laws.specs.Begins.{AreBegun, AreBegun-start, HaveOwnChildren, IsTree, never_below, node_at-begun, one_element, path_below, path_first, shorter_above}
use Rattle.list_laws.specs.Members.{find-In, find-none, In, In-insert, In-slice_get, insert-In}
use Rattle.posix_laws.specs.Order.{insert-position, Rising-put_in, Rising-same, rising_place, RisingBy}

abbrev pub text_of : Place → List ℕ
text_of place = place.text

-- Paths of entries.

find_child : (entries : List DirEntry) (node : ℕ) (e : DirEntry) → find (λ (entry : DirEntry). entry.child == node) entries ≡ Some e → In e entries × (e.child ≡ node)
find_child entries node e found =
    let it = find-In (λ (entry : DirEntry). entry.child == node) entries e found in
    (it.0, (Decides-eqb e.child node).0 it.1)

-- going up from a place one comes to its path
path_to-begun : (front : List TreeEntry) (nodes : List Node) (entries : List DirEntry) → AreBegun front nodes entries → (most d : ℕ) (own : TreeEntry)
    → slice_get front d ≡ Some own → length own.path ≤ most → path_to entries most d ≡ own.path
unfolding path_to
path_to-begun front nodes entries begun zero d own is within = sym (nil_from_length own.path (omega (arith, within)))
path_to-begun front nodes entries begun (suc most) d own is within = by (find (λ (entry : DirEntry). entry.child == d) entries) refl (path_to-begun front nodes entries begun most) where
  by : (o : Option DirEntry) → find (λ (entry : DirEntry). entry.child == d) entries ≡ o
      → ((at : ℕ) (above : TreeEntry) → slice_get front at ≡ Some above → length above.path ≤ most → path_to entries most at ≡ above.path)
      → option_map_or (λ (entry : DirEntry). path_to entries most entry.parent ++ entry.name ∷ []) o [] ≡ own.path
  by None none up =
      elim (begun.all d own is) [
        | inl zeroth ↦ sym (path_first front nodes entries begun d own is zeroth)
        | inr entry ↦ absurd (find-none (λ (x : DirEntry). x.child == d) entries entry.0 none entry.1 ((Decides-eqb entry.0.child d).1 entry.2))
      ]
  by (Some e) found up =
      let it = find_child entries d e found in
      let its = begun.each e it.0 in
      let path = path_below front nodes entries begun d own e it.0 is it.1 in
      ap (λ p. p ++ e.name ∷ []) (up e.parent its.above its.above_is (shorter_above own.path its.above.path e.name most path within)) ∙ sym path

-- the place of an entry
entry_place-begun : (front : List TreeEntry) (nodes : List Node) (entries : List DirEntry) (begun : AreBegun front nodes entries) (e : DirEntry) (there : In e entries)
    → entry_place entries e ≡ place_of (begun.each e there).own.path e.child
unfolding entry_place
entry_place-begun front nodes entries begun e there =
    let its = begun.each e there in
    let within : length its.above.path ≤ length entries =
    omega (arith, begun.deep e.parent its.above its.above_is, slice_get_within front e.parent its.above its.above_is, begun.count) in
    ap (λ p. place_of p e.child) (ap (λ q. q ++ e.name ∷ []) (path_to-begun front nodes entries begun (length entries) e.parent its.above its.above_is within) ∙ sym its.path)

-- Places.

with_place-In : (places : List Place) (p z : Place) → In z (with_place places p) → (p ≡ z) ⊎ In z places
unfolding with_place
with_place-In places p z is = In-insert places _ p z is

In-with_place : (places : List Place) (p z : Place) → (p ≡ z) ⊎ In z places → In z (with_place places p)
unfolding with_place
In-with_place places p z is = insert-In places _ p z is

Rising-with_place : (places : List Place) (p : Place) → RisingBy text_of places → ((z : Place) → In z places → z.text ≢ p.text) → RisingBy text_of (with_place places p)
unfolding with_place
Rising-with_place places p rising new =
    subst (RisingBy text_of) (sym (insert-position (λ (other : Place). bytes_before p.text other.text) p places)) (Rising-put_in text_of p places rising new)

-- the places of some entries, put in among others
abbrev pub put_all : (DirEntry → Place) → List Place → List DirEntry → List Place
put_all place so_far es = fold (λ acc e. with_place acc (place e)) so_far es

pub put_all-In : (place : DirEntry → Place) (so_far : List Place) (es : List DirEntry) (z : Place) → In z (put_all place so_far es) → In z so_far ⊎ ((e : DirEntry) × In e es × (place e ≡ z))
put_all-In place so_far [] z is = inl is
put_all-In place so_far (e ∷ es) z is =
    elim (put_all-In place (with_place so_far (place e)) es z is) [
      | inl there ↦ elim (with_place-In so_far (place e) z there) [ inl one ↦ inr (e, inl refl, one) | inr old ↦ inl old ]
      | inr behind ↦ inr (behind.0, inr behind.1, behind.2)
    ]

pub In-put_all : (place : DirEntry → Place) (so_far : List Place) (es : List DirEntry) (z : Place) → In z so_far ⊎ ((e : DirEntry) × In e es × (place e ≡ z)) → In z (put_all place so_far es)
In-put_all place so_far [] z (inl old) = old
In-put_all place so_far [] z (inr entry) = absurd entry.1
In-put_all place so_far (e ∷ es) z (inl old) = In-put_all place (with_place so_far (place e)) es z (inl (In-with_place so_far (place e) z (inr old)))
In-put_all place so_far (e ∷ es) z (inr entry) = In-put_all place (with_place so_far (place e)) es z (by entry.1) where
  by : In entry.0 (e ∷ es) → In z (with_place so_far (place e)) ⊎ ((x : DirEntry) × In x es × (place x ≡ z))
  by (inl same) = inl (In-with_place so_far (place e) z (inl (ap place same ∙ entry.2)))
  by (inr behind) = inr (entry.0, behind, entry.2)

-- the places of two entries of a list have two texts
abbrev pub HaveOwnTexts : (DirEntry → Place) → List DirEntry → Type 0
HaveOwnTexts place [] = Unit {0}
HaveOwnTexts place (e ∷ es) = ((other : DirEntry) → In other es → (place e).text ≢ (place other).text) × HaveOwnTexts place es

pub Rising-put_all : (place : DirEntry → Place) (so_far : List Place) (es : List DirEntry) → RisingBy text_of so_far
    → ((e : DirEntry) → In e es → (z : Place) → In z so_far → z.text ≢ (place e).text) → HaveOwnTexts place es → RisingBy text_of (put_all place so_far es)
Rising-put_all place so_far [] rising apart own = rising
Rising-put_all place so_far (e ∷ es) rising apart own =
    Rising-put_all place (with_place so_far (place e)) es (Rising-with_place so_far (place e) rising (apart e (inl refl)))
    (λ x is z there same. elim (with_place-In so_far (place e) z there) [ inl one ↦ own.0 x is (ap text_of one ∙ same) | inr old ↦ apart x (inr is) z old same ]) own.1

-- The places of a tree: its paths, each with its place in the list.
abbrev placed_from : ℕ → List TreeEntry → List Place
placed_from k [] = []
placed_from k (e ∷ es) = place_of e.path k ∷ placed_from (suc k) es

In-placed : (k : ℕ) (front : List TreeEntry) (n m : ℕ) (own : TreeEntry) → m ≡ k + n → slice_get front n ≡ Some own → In (place_of own.path m) (placed_from k front)
In-placed k [] n m own is there = cc
In-placed k (e ∷ es) zero m own is there =
    let same : e ≡ own = cc in
    let number : k ≡ m = omega (arith, is) in
    inl (ap (λ (x : TreeEntry). place_of x.path k) same ∙ ap (place_of own.path) number)
In-placed k (e ∷ es) (suc n) m own is there = inr (In-placed (suc k) es n m own (omega (arith, is)) there)

-- an element of a list at a place, as a place
record IsPlaced (k : ℕ) (front : List TreeEntry) (z : Place) : Type 0 where
  n : ℕ
  m : ℕ
  own : TreeEntry
  number : m ≡ k + n
  is : slice_get front n ≡ Some own
  place : place_of own.path m ≡ z

placed-In : (k : ℕ) (front : List TreeEntry) (z : Place) → In z (placed_from k front) → IsPlaced k front z
placed-In k [] z is = absurd is
placed-In k (e ∷ es) z (inl same) = record { n = 0; m = k; own = e; number = omega arith; is = refl; place = same }
placed-In k (e ∷ es) z (inr behind) =
    let its = placed-In (suc k) es z behind in
    record { n = suc its.n; m = its.m; own = its.own; number = omega (arith, its.number); is = its.is; place = its.place }

Rising-placed : (k : ℕ) (front : List TreeEntry) → RisingBy (λ (e : TreeEntry). printed e.path) front → RisingBy text_of (placed_from k front)
Rising-placed k [] rising = tt
Rising-placed k (e ∷ es) rising = (head, Rising-placed (suc k) es rising.1) where
  head : (z : Place) → In z (placed_from (suc k) es) → bytes_before (printed e.path) z.text ≡ true
  head z is =
      let its = placed-In (suc k) es z is in
      ap (λ (p : Place). bytes_before (printed e.path) p.text) (sym its.place) ∙ rising.0 its.own (In-slice_get es its.n its.own its.is)

-- The places of a begun state.

entry_text : (front : List TreeEntry) (nodes : List Node) (entries : List DirEntry) (begun : AreBegun front nodes entries) (e : DirEntry) (there : In e entries)
    → (entry_place entries e).text ≡ printed (begun.each e there).own.path
entry_text front nodes entries begun e there = ap text_of (entry_place-begun front nodes entries begun e there)

-- one text at one place
one_text : (front : List TreeEntry) (nodes : List Node) (entries : List DirEntry) → AreBegun front nodes entries → (m n : ℕ) (a b : TreeEntry)
    → slice_get front m ≡ Some a → slice_get front n ≡ Some b → printed a.path ≡ printed b.path → m ≡ n
one_text front nodes entries begun m n a b first second same = rising_place (λ (e : TreeEntry). printed e.path) front begun.rising m n a b first second same

own_texts : (front : List TreeEntry) (nodes : List Node) (entries : List DirEntry) → AreBegun front nodes entries → (es : List DirEntry) → ((e : DirEntry) → In e es → In e entries)
    → HaveOwnChildren es → HaveOwnTexts (entry_place entries) es
own_texts front nodes entries begun [] among own = tt
own_texts front nodes entries begun (e ∷ es) among own = (head, own_texts front nodes entries begun es (λ x is. among x (inr is)) own.1) where
  head : (other : DirEntry) → In other es → (entry_place entries e).text ≢ (entry_place entries other).text
  head other is same =
      let mine = begun.each e (among e (inl refl)) in
      let its = begun.each other (among other (inr is)) in
      own.0 other is (one_text front nodes entries begun other.child e.child its.own mine.own its.own_is mine.own_is
      (sym (entry_text front nodes entries begun other (among other (inr is))) ∙ (sym same ∙ entry_text front nodes entries begun e (among e (inl refl)))))

-- no entry has the text of the root
root_apart : (front : List TreeEntry) (nodes : List Node) (entries : List DirEntry) → AreBegun front nodes entries → (e : DirEntry) → In e entries → printed [] ≢ (entry_place entries e).text
root_apart front nodes entries begun e there same =
    let its = begun.each e there in
    let texts : printed its.own.path ≡ printed begun.root.path = sym (entry_text front nodes entries begun e there) ∙ (sym same ∙ ap printed (sym begun.root_path)) in
    let zeroth : e.child ≡ 0 = one_text front nodes entries begun e.child 0 its.own begun.root its.own_is begun.root_is texts in
    let none : its.own.path ≡ [] = path_first front nodes entries begun e.child its.own its.own_is zeroth in
    never_below its.own.path its.above.path e.name its.path (omega (arith, ap length none))

places-begun : (front : List TreeEntry) (nodes : List Node) (entries : List DirEntry) → AreBegun front nodes entries → places entries ≡ placed_from 0 front
unfolding places
places-begun front nodes entries begun =
    Rising-same text_of (put_all (entry_place entries) (place_of [] 0 ∷ []) entries) (placed_from 0 front)
    (Rising-put_all (entry_place entries) (place_of [] 0 ∷ []) entries (λ y is. absurd is, tt) apart (own_texts front nodes entries begun entries (λ e is. is) begun.own_children))
    (Rising-placed 0 front begun.rising) onward backward where
      apart : (e : DirEntry) → In e entries → (z : Place) → In z (place_of [] 0 ∷ []) → z.text ≢ (entry_place entries e).text
      apart e is z (inl root) same = root_apart front nodes entries begun e is (ap text_of root ∙ same)
      apart e is z (inr none) same = none

      at_place : (n : ℕ) (own : TreeEntry) (z : Place) → slice_get front n ≡ Some own → place_of own.path n ≡ z → In z (placed_from 0 front)
      at_place n own z is place = subst (λ p. In p (placed_from 0 front)) place (In-placed 0 front n n own (omega arith) is)

      onward : (z : Place) → In z (put_all (entry_place entries) (place_of [] 0 ∷ []) entries) → In z (placed_from 0 front)
      onward z is = elim (put_all-In (entry_place entries) (place_of [] 0 ∷ []) entries z is) [
        | inl first ↦ elim first [ inl root ↦ at_place 0 begun.root z begun.root_is (ap (λ p. place_of p 0) begun.root_path ∙ root) | inr none ↦ absurd none ]
        | inr entry ↦
            let its = begun.each entry.0 entry.1 in
            at_place entry.0.child its.own z its.own_is (sym (entry_place-begun front nodes entries begun entry.0 entry.1) ∙ entry.2)
      ]

      backward : (z : Place) → In z (placed_from 0 front) → In z (put_all (entry_place entries) (place_of [] 0 ∷ []) entries)
      backward z is =
          let its = placed-In 0 front z is in
          let number : its.n ≡ its.m = omega (arith, its.number) in
          elim (begun.all its.n its.own its.is) [
            | inl zeroth ↦
                let root : place_of [] 0 ≡ z =
                ap (place_of []) (sym zeroth ∙ number) ∙ (ap (λ p. place_of p its.m) (sym (path_first front nodes entries begun its.n its.own its.is zeroth)) ∙ its.place) in
                In-put_all (entry_place entries) (place_of [] 0 ∷ []) entries z (inl (inl root))
            | inr entry ↦
                let mine = begun.each entry.0 entry.1 in
                let own : mine.own ≡ its.own = one_element front entry.0.child its.n mine.own its.own mine.own_is its.is entry.2 in
                let place : entry_place entries entry.0 ≡ z =
                entry_place-begun front nodes entries begun entry.0 entry.1
                ∙ (ap (place_of mine.own.path) (entry.2 ∙ number) ∙ (ap (λ (x : TreeEntry). place_of x.path its.m) own ∙ its.place)) in
                In-put_all (entry_place entries) (place_of [] 0 ∷ []) entries z (inr (entry.0, entry.1, place))
          ]

-- The tree.

tree_node-node_of : (node : TreeNode) → tree_node (node_of node) ≡ node
tree_node-node_of TreeNode.Directory = refl
tree_node-node_of (TreeNode.File bytes) = refl

entry_again : (e : TreeEntry) (node : TreeNode) → node ≡ e.node → (let again : TreeEntry = record { path = e.path; node = node } in again ≡ e)
entry_again e node is = ap (λ x. (let again : TreeEntry = record { path = e.path; node = x } in again)) is

tree_entries-placed : (nodes : List Node) (k : ℕ) (es : List TreeEntry) → ((n m : ℕ) (own : TreeEntry) → m ≡ k + n → slice_get es n ≡ Some own → node_at nodes m ≡ node_of own.node)
    → map (tree_entry nodes) (placed_from k es) ≡ es
tree_entries-placed nodes k [] stand = refl
tree_entries-placed nodes k (e ∷ es) stand =
    let node : tree_node (node_at nodes k) ≡ e.node = ap tree_node (stand 0 k e (omega arith) refl) ∙ tree_node-node_of e.node in
    let rest = tree_entries-placed nodes (suc k) es (λ n m own is there. stand (suc n) m own (omega (arith, is)) there) in
    λ i. entry_again e (tree_node (node_at nodes k)) node i ∷ rest i

-- THE TREE OF A BEGINNING: the tree of the state that a tree begins as is that tree.
pub tree-start : (left : List TreeEntry) (shape : Shape) (mode : Mode) → IsTree left → tree (start left shape mode) ≡ left
tree-start left shape mode is =
    let nodes = (start left shape mode).nodes in
    let entries = (start left shape mode).entries in
    let begun = AreBegun-start left shape mode is in
    ap (map (tree_entry nodes)) (places-begun left nodes entries begun)
    ∙ tree_entries-placed nodes 0 left (λ n m own number there. node_at-begun left nodes entries begun m own (ap (slice_get left) (sum_is n m number) ∙ there)) where
      sum_is : (n m : ℕ) → m ≡ 0 + n → m ≡ n
      sum_is n m number = omega (arith, number)
