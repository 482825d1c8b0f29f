-- The state that begins with the tree of a mounted volume: the number of an inode is the place of its path in the tree.
use Rattle.std.specs.Prelude.{◌≡◌, ◌≢◌, ◌⊎◌, ◌<◌, ◌≤◌, ◌+◌, ◌/◌, ◌==◌, ℕ, zero, suc, Bool, true, false, cond, List, [], ◌∷◌, ◌++◌, length, map, Option, Some, None, option_and_then, option_map, slice_get, slice_index, refl}
use Rattle.std.specs.List.{range_with_len}
use Rattle.std.proofs.Common.{arith, ap, ◌∙◌, length-append, sym, subst, inl, inr}
use Rattle.std.proofs.lemmas.Bool.{cases_lt}
use Rattle.std.proofs.lemmas.Bool.Decides.{Decides-eqb}
use Rattle.std.proofs.lemmas.List.{length-map}
use Rattle.std.proofs.lemmas.List.FromFn.{get_or-map-range_with_len, length-map-range_with_len}
use Rattle.std.proofs.lemmas.Option.{same_Some}
use Rattle.world_step_laws.specs.pm_model.Words.{Words}
use Rattle.world_step_laws.specs.layout_model.declared.lines.Draft.{Draft}
use Rattle.world_step_laws.specs.layout_model.declared.lines.Kind.{Kind}
use Rattle.world_step_laws.specs.layout_model.declared.lines.Kind.TheVariants.{Free, Directory, File, Staging}
use Rattle.world_step_laws.specs.layout_model.Names.{child_named, walk}
use Rattle.world_step_laws.specs.layout_model.TableLaws.{walk-append, walk-one}
use Rattle.world_step_laws.specs.image_model.Content.{byte_in, bytes_of_file, disk_of, found, node_by, size_of}
use Rattle.world_step_laws.specs.image_model.Volume.{inode, Volume}
use Rattle.world_step_laws.specs.posix_types.declared.tree.TreeEntry.{TreeEntry}
use Rattle.world_step_laws.specs.posix_types.declared.tree.TreeNode.{TreeNode}
use Rattle.world_step_laws.specs.posix_tables.declared.nodes.DirEntry.{DirEntry}
use Rattle.world_step_laws.specs.posix_tables.declared.nodes.Node.{Node}
use Rattle.world_step_laws.specs.posix_tables.Lookups.{AreDistinct}
use Rattle.world_step_laws.specs.posix_tables.Names.{child_of}
use Rattle.world_step_laws.specs.posix_tables.Nodes.{node_at}
use Rattle.world_step_laws.specs.posix_tables.Places.{node_of, printed}
use Rattle.world_step_laws.specs.posix_spec.State.{State}
use Rattle.world_step_laws.specs.list_laws.Members.{In, In-slice_get}
use Rattle.world_step_laws.specs.posix_laws.Begins.{AreBegun, HaveOwnChildren, node_at-begun, one_element}
use Rattle.world_step_laws.specs.posix_laws.Entries.{child_of-In, Leads-child_of}
use Rattle.world_step_laws.specs.posix_laws.Order.{rising_place}
use Rattle.world_step_laws.specs.world_model.Shown.{IsTreeOfContent, shown_as}
use Rattle.world_step_laws.specs.world_model.Stands.{is_used, IsUsed, NamesStand, NodesStand, NodeStands, number}
use Rattle.world_step_laws.specs.world_model.TreeRules.{child_used, used_below}
use Rattle.world_image_laws.specs.Mounted.{found_at, IsMounted, last_step, led_used, only_path, path_of_used, same_shown, shows}

-- ---- the numbers

-- the path leads to the inode
abbrev pub is_number : Option ℕ → ℕ → Bool
is_number None ino = false
is_number (Some c) ino = c == ino

abbrev pub leads_to : Volume → ℕ → TreeEntry → Bool
leads_to v ino e = is_number (walk v.names 0 e.path) ino

-- the first place at which the test passes
abbrev pub first_place : (TreeEntry → Bool) → List TreeEntry → ℕ
first_place p [] = 0
first_place p (e ∷ t) = cond (p e) 0 (suc (first_place p t))

-- THE NUMBERS: of each inode the place in the tree of a path that leads to it
abbrev pub numbers_of : Volume → List TreeEntry → List ℕ
numbers_of v t = map (λ ino. first_place (leads_to v ino) t) (range_with_len 0 (length v.inodes))

passes_there : (p : TreeEntry → Bool) (t : List TreeEntry) (e : TreeEntry) → In e t → p e ≡ true → (d : TreeEntry) × (slice_get t (first_place p t) ≡ Some d) × (p d ≡ true)
passes_there p [] e is pass = absurd is
passes_there p (x ∷ t) e is pass = by (p x) refl is (λ behind. passes_there p t e behind pass) where
  by : (b : Bool) → p x ≡ b → (x ≡ e) ⊎ In e t → (In e t → (d : TreeEntry) × (slice_get t (first_place p t) ≡ Some d) × (p d ≡ true))
      → (d : TreeEntry) × (slice_get (x ∷ t) (cond b 0 (suc (first_place p t))) ≡ Some d) × (p d ≡ true)
  by true own is rest = (x, refl, own)
  by false own (inl same) rest = let never : true ≡ false = sym pass ∙ (ap p (sym same) ∙ own) in cc
  by false own (inr behind) rest = rest behind

number_is : (v : Volume) (t : List TreeEntry) (ino : ℕ) → IsUsed v ino → number (numbers_of v t) ino ≡ first_place (leads_to v ino) t
number_is v t ino used = get_or-map-range_with_len (λ i. first_place (leads_to v i) t) 0 (length v.inodes) ino ino 0 (used_below v ino used) (plus ino) where
  plus : (n : ℕ) → 0 + n ≡ n
  plus n = omega arith

led_by : (o : Option ℕ) (ino : ℕ) → is_number o ino ≡ true → o ≡ Some ino
led_by None ino is = cc
led_by (Some c) ino is = ap (λ (n : ℕ). Some n) ((Decides-eqb c ino).0 is)

by_led : (o : Option ℕ) (ino : ℕ) → o ≡ Some ino → is_number o ino ≡ true
by_led None ino is = cc
by_led (Some c) ino is = (Decides-eqb c ino).1 (same_Some c ino is)

-- the entry of an inode, at its number
record Placed (v : Volume) (t : List TreeEntry) (ino : ℕ) : Type 0 where
  entry : TreeEntry
  at : slice_get t (number (numbers_of v t) ino) ≡ Some entry
  led : walk v.names 0 entry.path ≡ Some ino

placed : (v : Volume) (live : List Draft) (f : Words) (t : List TreeEntry) (ino : ℕ) → IsMounted v → IsTreeOfContent (found v live f) t → IsUsed v ino → Placed v t ino
placed v live f t ino m is used =
    let path = path_of_used v m ino used in
    let its = shows v live f path.0 ino used path.1 in
    let entry : TreeEntry = record { path = path.0; node = its.node } in
    let there = passes_there (leads_to v ino) t entry (is.all path.0 its.node its.found_is) (by_led (walk v.names 0 path.0) ino path.1) in
    record {
      entry = there.0;
      at = ap (slice_get t) (number_is v t ino used) ∙ there.1;
      led = led_by (walk v.names 0 there.0.path) ino there.2;
    }

-- an entry of the tree is that of an inode in use, at its number
record Owned (v : Volume) (t : List TreeEntry) (n : ℕ) (e : TreeEntry) : Type 0 where
  ino : ℕ
  led : walk v.names 0 e.path ≡ Some ino
  used : IsUsed v ino
  number_own : number (numbers_of v t) ino ≡ n

owned : (v : Volume) (live : List Draft) (f : Words) (t : List TreeEntry) (n : ℕ) (e : TreeEntry) → IsMounted v → IsTreeOfContent (found v live f) t → slice_get t n ≡ Some e → Owned v t n e
owned v live f t n e m is at =
    let c = found_at v live f e.path (shown_as e.node) (is.each e (In-slice_get t n e at)) in
    let used = led_used v m e.path c.0 c.1 in
    let its = placed v live f t c.0 m is used in
    record {
      ino = c.0;
      led = c.1;
      used = used;
      number_own = rising_place (λ (x : TreeEntry). printed x.path) t is.rising (number (numbers_of v t) c.0) n its.entry e its.at at (ap printed (only_path v m its.entry.path e.path c.0 its.led c.1));
    }

within_get : (t : List TreeEntry) (n : ℕ) (e : TreeEntry) → slice_get t n ≡ Some e → n < length t
within_get [] n e is = cc
within_get (x ∷ t) zero e is = omega arith
within_get (x ∷ t) (suc n) e is = omega (arith, within_get t n e is)

get_within : (t : List TreeEntry) (n : ℕ) → n < length t → (e : TreeEntry) × (slice_get t n ≡ Some e)
get_within [] n below = absurd (omega (arith, below))
get_within (x ∷ t) zero below = (x, refl)
get_within (x ∷ t) (suc n) below = get_within t n (omega (arith, below))

-- ---- entries are distinct

distinct_begun : (t : List TreeEntry) (nodes : List Node) (entries es : List DirEntry) → AreBegun t nodes entries → ((e : DirEntry) → In e es → In e entries) → HaveOwnChildren es → AreDistinct es
distinct_begun t nodes entries [] begun within own = tt
distinct_begun t nodes entries (e ∷ es) begun within own =
    (none (child_of es e.parent e.name) refl, distinct_begun t nodes entries es begun (λ d is. within d (inr is)) own.1) where
      none : (o : Option ℕ) → child_of es e.parent e.name ≡ o → child_of es e.parent e.name ≡ None
      none None is = is
      none (Some c) is =
          let d = Leads-child_of es e.parent e.name c is in
          let mine = begun.each e (within e (inl refl)) in
          let its = begun.each d.entry (within d.entry (inr d.is)) in
          let above : its.above ≡ mine.above = one_element t d.entry.parent e.parent its.above mine.above its.above_is mine.above_is d.parent_is in
          let path : its.own.path ≡ mine.own.path = its.path ∙ ((λ i. (above i).path ++ d.name_is i ∷ []) ∙ sym mine.path) in
          absurd (own.0 d.entry d.is (rising_place (λ (x : TreeEntry). printed x.path) t begun.rising d.entry.child e.child its.own mine.own its.own_is mine.own_is (ap printed path)))

-- ---- paths with one more name

same_last : (p q : List (List ℕ)) (x y : List ℕ) → p ++ x ∷ [] ≡ q ++ y ∷ [] → (p ≡ q) × (x ≡ y)
same_last [] [] x y same = (refl, cc)
same_last [] (b ∷ q) x y same = absurd (short q y same) where
  short : (r : List (List ℕ)) (z : List ℕ) → x ∷ [] ≡ b ∷ (r ++ z ∷ []) → ⊥
  short r z is = omega (arith, ap length is, length-append r (z ∷ []))
same_last (a ∷ p) [] x y same = absurd (short p x same) where
  short : (r : List (List ℕ)) (z : List ℕ) → a ∷ (r ++ z ∷ []) ≡ y ∷ [] → ⊥
  short r z is = omega (arith, ap length is, length-append r (z ∷ []))
same_last (a ∷ p) (b ∷ q) x y same =
    let tail : p ++ x ∷ [] ≡ q ++ y ∷ [] = cc in
    let head : a ≡ b = cc in
    let rest = same_last p q x y tail in
    ((λ i. head i ∷ rest.0 i), rest.1)

not_root : (p : List (List ℕ)) (x : List ℕ) → p ++ x ∷ [] ≡ [] → ⊥
not_root [] x same = cc
not_root (a ∷ p) x same = cc

root_number : (v : Volume) (live : List Draft) (f : Words) (t : List TreeEntry) (nodes : List Node) (entries : List DirEntry) → IsMounted v → IsTreeOfContent (found v live f) t → AreBegun t nodes entries → number (numbers_of v t) 0 ≡ 0
unfolding walk
root_number v live f t nodes entries m is begun =
    let o = owned v live f t 0 begun.root m is begun.root_is in
    let same : Some 0 ≡ Some o.ino = ap (walk v.names 0) (sym begun.root_path) ∙ o.led in
    ap (number (numbers_of v t)) (same_Some 0 o.ino same) ∙ o.number_own

-- ---- names

names_begun : (v : Volume) (live : List Draft) (f : Words) (t : List TreeEntry) (nodes : List Node) (entries : List DirEntry) → IsMounted v → IsTreeOfContent (found v live f) t → AreBegun t nodes entries → AreDistinct entries
    → (p : ℕ) (name : List ℕ) → IsUsed v p → option_map (number (numbers_of v t)) (child_named v.names p name) ≡ child_of entries (number (numbers_of v t) p) name
names_begun v live f t nodes entries m is begun distinct p name used = by (child_named v.names p name) (child_of entries (number (numbers_of v t) p) name) refl refl where
  numbers : List ℕ
  numbers = numbers_of v t

  mine : Placed v t p
  mine = placed v live f t p m is used

  longer_path : (c : ℕ) → child_named v.names p name ≡ Some c → walk v.names 0 (mine.entry.path ++ name ∷ []) ≡ Some c
  longer_path c named =
      walk-append v.names 0 mine.entry.path (name ∷ []) ∙ (ap (option_and_then (λ n. walk v.names n (name ∷ []))) mine.led ∙ walk-one v.names p name c named)

  -- an entry of the state by this name
  from_volume : (c : ℕ) → child_named v.names p name ≡ Some c → child_of entries (number numbers p) name ≡ Some (number numbers c)
  from_volume c named =
      let its = placed v live f t c m is (child_used v m.sane p name c named) in
      let path : its.entry.path ≡ mine.entry.path ++ name ∷ [] = only_path v m its.entry.path (mine.entry.path ++ name ∷ []) c its.led (longer_path c named) in
      elim (begun.all (number numbers c) its.entry its.at) [
        | inl zeroth ↦
            absurd (not_root mine.entry.path name (sym path ∙ (ap (λ (x : TreeEntry). x.path) (one_element t (number numbers c) 0 its.entry begun.root its.at begun.root_is zeroth) ∙ begun.root_path)))
        | inr e ↦
            let of = begun.each e.0 e.1 in
            let own : of.own ≡ its.entry = one_element t e.0.child (number numbers c) of.own its.entry of.own_is its.at e.2 in
            let both = same_last of.above.path mine.entry.path e.0.name name (sym of.path ∙ (ap (λ (x : TreeEntry). x.path) own ∙ path)) in
            let parent : e.0.parent ≡ number numbers p =
            rising_place (λ (x : TreeEntry). printed x.path) t begun.rising e.0.parent (number numbers p) of.above mine.entry of.above_is mine.at (ap printed both.0)
            in
            (λ i. child_of entries (sym parent i) (sym both.1 i)) ∙ (child_of-In entries e.0 distinct e.1 ∙ ap (λ (n : ℕ). Some n) e.2)
      ]

  from_state : (k : ℕ) → child_of entries (number numbers p) name ≡ Some k → (c : ℕ) × (child_named v.names p name ≡ Some c)
  from_state k led =
      let e = Leads-child_of entries (number numbers p) name k led in
      let of = begun.each e.entry e.is in
      let above : of.above ≡ mine.entry = one_element t e.entry.parent (number numbers p) of.above mine.entry of.above_is mine.at e.parent_is in
      let path : of.own.path ≡ mine.entry.path ++ name ∷ [] = of.path ∙ (λ i. (above i).path ++ e.name_is i ∷ []) in
      let own = owned v live f t e.entry.child of.own m is of.own_is in
      let last = last_step v.names mine.entry.path name own.ino (ap (walk v.names 0) (sym path) ∙ own.led) in
      let same : last.above ≡ p = same_Some last.above p (sym last.led ∙ mine.led) in
      (own.ino, ap (λ n. child_named v.names n name) (sym same) ∙ last.named)

  by : (o q : Option ℕ) → child_named v.names p name ≡ o → child_of entries (number numbers p) name ≡ q → option_map (number numbers) (child_named v.names p name) ≡ child_of entries (number numbers p) name
  by (Some c) q here there = ap (option_map (number numbers)) here ∙ sym (from_volume c here)
  by None None here there = ap (option_map (number numbers)) here ∙ sym there
  by None (Some k) here there = let c = from_state k there in let never : None ≡ Some c.0 = sym here ∙ c.1 in cc

-- ---- the volume stands

below_path : (v : Volume) (live : List Draft) (f : Words) (t : List TreeEntry) (nodes : List Node) (entries : List DirEntry) → IsMounted v → IsTreeOfContent (found v live f) t → AreBegun t nodes entries
    → (n : ℕ) (name : List ℕ) (k : ℕ) → child_of entries n name ≡ Some k → (p : ℕ) × IsUsed v p × (number (numbers_of v t) p ≡ n)
below_path v live f t nodes entries m is begun n name k led =
    let e = Leads-child_of entries n name k led in
    let of = begun.each e.entry e.is in
    let own = owned v live f t e.entry.parent of.above m is of.above_is in
    (own.ino, own.used, own.number_own ∙ e.parent_is)

pub NamesStand-begun : (v : Volume) (live : List Draft) (f : Words) (t : List TreeEntry) (s : State) → IsMounted v → IsTreeOfContent (found v live f) t → AreBegun t s.nodes s.entries → NamesStand v (numbers_of v t) s
NamesStand-begun v live f t s m is begun = record {
  root = root_number v live f t s.nodes s.entries m is begun;
  root_used = ap is_used m.root;
  within = λ ino used. (let its = placed v live f t ino m is used in
      subst (λ n. number (numbers_of v t) ino < n) (sym (ap length begun.nodes_are ∙ length-map t (λ (e : TreeEntry). node_of e.node))) (within_get t (number (numbers_of v t) ino) its.entry its.at));
  one = λ i j i_used j_used same. (
      let a = placed v live f t i m is i_used in
      let b = placed v live f t j m is j_used in
      let entry : a.entry ≡ b.entry = one_element t (number (numbers_of v t) i) (number (numbers_of v t) j) a.entry b.entry a.at b.at same in
      same_Some i j (sym a.led ∙ (ap (λ (e : TreeEntry). walk v.names 0 e.path) entry ∙ b.led)));
  names = names_begun v live f t s.nodes s.entries m is begun distinct;
  entry_parents = below_path v live f t s.nodes s.entries m is begun;
  distinct = distinct;
} where
  distinct : AreDistinct s.entries
  distinct = distinct_begun t s.nodes s.entries s.entries begun (λ e there. there) begun.own_children

stands_shown : (v : Volume) (live : List Draft) (f : Words) (ino : ℕ) (kind : Kind) (node : TreeNode) → node_by kind (bytes_of_file v live f ino) ≡ Some (shown_as node) → NodeStands v live f ino kind (node_of node)
stands_shown v live f ino Free node is = cc
stands_shown v live f ino Staging node is = cc
stands_shown v live f ino Directory TreeNode.Directory is = tt
stands_shown v live f ino Directory (TreeNode.File bytes) is = cc
stands_shown v live f ino File TreeNode.Directory is = cc
stands_shown v live f ino File (TreeNode.File bytes) is =
    let same : bytes_of_file v live f ino ≡ bytes = cc in
    let long : length (bytes_of_file v live f ino) ≡ size_of v live ino = length-map-range_with_len (λ i. byte_in f (disk_of v live ino (i / 4096)) i) 0 (size_of v live ino) in
    record {
      size = sym long ∙ ap length same;
      each = λ i below. sym (ap (λ xs. slice_index xs i) (sym same) ∙
          get_or-map-range_with_len (λ k. byte_in f (disk_of v live ino (k / 4096)) k) 0 (size_of v live ino) i i 0 (subst (λ n. i < n) (sym (ap length same) ∙ long) below) (plus i));
    }
  where
    plus : (n : ℕ) → 0 + n ≡ n
    plus n = omega arith

pub NodesStand-begun : (v : Volume) (live : List Draft) (f : Words) (t : List TreeEntry) (s : State) → IsMounted v → IsTreeOfContent (found v live f) t → AreBegun t s.nodes s.entries → NodesStand v live f (numbers_of v t) s
NodesStand-begun v live f t s m is begun = record { each = each; all = all } where
  each : (ino : ℕ) → IsUsed v ino → NodeStands v live f ino (inode v ino).kind (node_at s.nodes (number (numbers_of v t) ino))
  each ino used =
      let its = placed v live f t ino m is used in
      let at = shows v live f its.entry.path ino used its.led in
      let node : at.node ≡ its.entry.node =
      same_shown at.node its.entry.node (same_Some (shown_as at.node) (shown_as its.entry.node) (sym at.found_is ∙ is.each its.entry (In-slice_get t (number (numbers_of v t) ino) its.entry its.at)))
      in
      subst (NodeStands v live f ino (inode v ino).kind) (ap node_of node ∙ sym (node_at-begun t s.nodes s.entries begun (number (numbers_of v t) ino) its.entry its.at)) (stands_shown v live f ino (inode v ino).kind at.node at.by_kind)

  nothing_past : (xs : List Node) (n : ℕ) → length xs ≤ n → node_at xs n ≡ Node.Gone
  nothing_past [] n past = refl
  nothing_past (x ∷ xs) zero past = absurd (omega (arith, past))
  nothing_past (x ∷ xs) (suc n) past = nothing_past xs n (omega (arith, past))

  all : (n : ℕ) → node_at s.nodes n ≢ Node.Gone → (ino : ℕ) × IsUsed v ino × (number (numbers_of v t) ino ≡ n)
  all n there = elim (cases_lt n (length t)) [
    | inl below ↦
        let e = get_within t n below in
        let own = owned v live f t n e.0 m is e.1 in
        (own.ino, own.used, own.number_own)
    | inr past ↦ absurd (there (nothing_past s.nodes n (subst (λ k. k ≤ n) (sym (ap length begun.nodes_are ∙ length-map t (λ (e : TreeEntry). node_of e.node))) past)))
  ]
