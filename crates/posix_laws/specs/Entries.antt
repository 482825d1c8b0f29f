-- Directory entries that are those of a tree: each node has one way up to the root, which is the path that leads to it.
use Rattle.std.specs.Prelude.{◌≡◌, ◌≢◌, ◌⊎◌, ◌≤◌, ℕ, zero, suc, ◌+◌, ◌==◌, Bool, true, false, cond, List, [], ◌∷◌, ◌++◌, length, find, remove, Option, Some, None, option_and_then, option_map, slice_get, refl}
use Rattle.std.specs.Option.{option_map_or}
use Rattle.std.proofs.Common.{arith, ap, ◌∙◌, sym, subst, inl, inr, le_refl}
use Rattle.std.proofs.lemmas.Bool.Decides.{Decides-eqb}
use Rattle.std.proofs.lemmas.List.{same_from_push}
use Rattle.std.proofs.lemmas.Option.{same_Some}
use Rattle.posix_spec.specs.posix_tables.declared.nodes.DirEntry.{DirEntry}
use Rattle.posix_spec.specs.posix_tables.Lookups.{AreDistinct, entry_of, none_mapped}
use Rattle.posix_spec.specs.posix_tables.Names.{child_of, is_entry}
use Rattle.posix_spec.specs.posix_tables.Places.{path_to}
use Rattle.posix_laws.specs.DistinctLaws.{own_entry}
use Rattle.list_laws.specs.Members.{find-In, find-none, In, slice_get-In}
use Rattle.posix_laws.specs.Paths.{ArePlainNames, ArePlainNames-push, by_last, IsPlainName, walk_down, walk_down-append, walk_down-last, walk_down-nil}

-- just so many directories up from a directory is the root
abbrev pub IsDeep : List DirEntry → ℕ → ℕ → Type 0
IsDeep entries zero d = d ≡ 0
IsDeep entries (suc n) d = (e : DirEntry) × In e entries × (e.child ≡ d) × IsDeep entries n e.parent

-- an entry stands in the directory
pub record HoldsEntry (entries : List DirEntry) (d : ℕ) : Type 0 where
  pub entry : DirEntry
  pub is : In entry entries
  pub parent_is : entry.parent ≡ d

-- so one does in the directory of an entry
holds_own : (entries : List DirEntry) (e : DirEntry) → In e entries → HoldsEntry entries e.parent
holds_own entries e is = record { entry = e; is = is; parent_is = refl }

-- The entries are those of a tree: no two have one directory and one name, none leads to the root, no two lead to one
-- directory in which an entry stands, going up from each comes to the root, and names are plain. Files may have several
-- entries.
pub record IsTreeLike (entries : List DirEntry) : Type 0 where
  pub distinct : AreDistinct entries
  pub root : (e : DirEntry) → In e entries → e.child ≢ 0
  pub one : (d : ℕ) (a b : DirEntry) → HoldsEntry entries d → In a entries → In b entries → a.child ≡ d → b.child ≡ d → a ≡ b
  pub deep : (e : DirEntry) → In e entries → (n : ℕ) × IsDeep entries n e.parent
  pub names : (e : DirEntry) → In e entries → IsPlainName e.name

-- Lists without repeats.

abbrev pub AreDifferent : {X : Type 0} → List X → Type 0
AreDifferent [] = Unit {0}
AreDifferent (x ∷ xs) = (In x xs → ⊥) × AreDifferent xs

In-removed : {X : Type 0} (ys : List X) (n : ℕ) (x y : X) → slice_get ys n ≡ Some x → In y ys → (x ≡ y → ⊥) → In y (remove ys n)
In-removed [] n x y is there other = absurd there
In-removed (z ∷ zs) zero x y is (inl same) other = absurd (other (sym (same_Some z x is) ∙ same))
In-removed (z ∷ zs) zero x y is (inr behind) other = behind
In-removed (z ∷ zs) (suc n) x y is (inl same) other = inl same
In-removed (z ∷ zs) (suc n) x y is (inr behind) other = inr (In-removed zs n x y is behind other)

length-removed : {X : Type 0} (ys : List X) (n : ℕ) (x : X) → slice_get ys n ≡ Some x → length (remove ys n) + 1 ≡ length ys
length-removed [] n x is = cc
length-removed (z ∷ zs) zero x is = omega arith
length-removed (z ∷ zs) (suc n) x is = omega (arith, length-removed zs n x is)

-- so many different members has a list at most
pub few : {X : Type 0} (xs ys : List X) → AreDifferent xs → ((x : X) → In x xs → In x ys) → length xs ≤ length ys
few [] ys different among = omega arith
few (x ∷ xs) ys different among =
    let place = slice_get-In ys x (among x (inl refl)) in
    omega (
      arith,
      few xs (remove ys place.0) different.1 (λ y is. In-removed ys place.0 x y place.1 (among y (inr is)) (λ same. different.0 (subst (λ z. In z xs) (sym same) is))),
      length-removed ys place.0 x place.1,
    )

-- Ways up.

pub deep_same : (entries : List DirEntry) → IsTreeLike entries → (n m d : ℕ) → HoldsEntry entries d → IsDeep entries n d → IsDeep entries m d → n ≡ m
deep_same entries like zero zero d holds first second = refl
deep_same entries like zero (suc m) d holds first second = absurd (like.root second.0 second.1 (second.2 ∙ first))
deep_same entries like (suc n) zero d holds first second = absurd (like.root first.0 first.1 (first.2 ∙ second))
deep_same entries like (suc n) (suc m) d holds first second =
    let same : second.0 ≡ first.0 = like.one d second.0 first.0 holds second.1 first.1 second.2 first.2 in
    ap suc (deep_same entries like n m first.0.parent (holds_own entries first.0 first.1) first.3 (subst (λ (e : DirEntry). IsDeep entries m e.parent) same second.3))

-- going up one meets an entry once
deep_within : (entries : List DirEntry) → IsTreeLike entries → (n d : ℕ) (seen : List DirEntry) → IsDeep entries n d → AreDifferent seen
    → ((x : DirEntry) → In x seen → In x entries) → ((x : DirEntry) → In x seen → (k : ℕ) × (n ≤ k) × IsDeep entries k x.parent) → n + length seen ≤ length entries
deep_within entries like zero d seen deep different among above = omega (arith, few seen entries different among)
deep_within entries like (suc n) d seen deep different among above =
    omega (arith, deep_within entries like n deep.0.parent (deep.0 ∷ seen) deep.3 (new, different) among_more above_more) where
      new : In deep.0 seen → ⊥
      new is =
          let its = above deep.0 is in
          omega (arith, its.1, deep_same entries like its.0 n deep.0.parent (holds_own entries deep.0 deep.1) its.2 deep.3)

      among_more : (x : DirEntry) → In x (deep.0 ∷ seen) → In x entries
      among_more x (inl same) = subst (λ (y : DirEntry). In y entries) same deep.1
      among_more x (inr is) = among x is

      above_more : (x : DirEntry) → In x (deep.0 ∷ seen) → (k : ℕ) × (n ≤ k) × IsDeep entries k x.parent
      above_more x (inl same) = (n, le_refl n, subst (λ (y : DirEntry). IsDeep entries n y.parent) same deep.3)
      above_more x (inr is) = let its = above x is in (its.0, omega (arith, its.1), its.2)

-- so it is no deeper than there are entries
pub deep_bound : (entries : List DirEntry) → IsTreeLike entries → (n d : ℕ) → IsDeep entries n d → n ≤ length entries
deep_bound entries like n d deep = omega (arith, deep_within entries like n d [] deep tt (λ x is. absurd is) (λ x is. absurd is))

-- Look-ups.

-- a name leads to the child of its entry
pub child_of-In : (entries : List DirEntry) (e : DirEntry) → AreDistinct entries → In e entries → child_of entries e.parent e.name ≡ Some e.child
child_of-In [] e distinct is = absurd is
child_of-In (y ∷ ys) e distinct is = by (is_entry e.parent e.name y) refl is (child_of-In ys e distinct.1) where
  by : (b : Bool) → is_entry e.parent e.name y ≡ b → In e (y ∷ ys) → (In e ys → child_of ys e.parent e.name ≡ Some e.child)
      → option_map (λ (x : DirEntry). x.child) (cond b (Some y) (find (is_entry e.parent e.name) ys)) ≡ Some e.child
  by true test (inl same) rest = ap (λ (x : DirEntry). Some x.child) same
  by true test (inr there) rest =
      let here = entry_of e.parent e.name y test in
      absurd (find-none (is_entry y.parent y.name) ys e (none_mapped _ distinct.0) there (own_entry e y.parent y.name (sym here.0) (sym here.1)))
  by false test (inl same) rest =
      let never : true ≡ false = sym (own_entry y e.parent e.name (ap (λ (x : DirEntry). x.parent) same) (ap (λ (x : DirEntry). x.name) same)) ∙ test in
      cc
  by false test (inr there) rest = rest there

-- an entry that leads from a directory by a name to a child
pub record Leads (entries : List DirEntry) (parent : ℕ) (name : List ℕ) (child : ℕ) : Type 0 where
  pub entry : DirEntry
  pub is : In entry entries
  pub parent_is : entry.parent ≡ parent
  pub name_is : entry.name ≡ name
  pub child_is : entry.child ≡ child

pub Leads-child_of : (entries : List DirEntry) (parent : ℕ) (name : List ℕ) (child : ℕ) → child_of entries parent name ≡ Some child → Leads entries parent name child
Leads-child_of entries parent name child leads = by (find (is_entry parent name) entries) refl leads where
  by : (o : Option DirEntry) → find (is_entry parent name) entries ≡ o → option_map (λ (e : DirEntry). e.child) o ≡ Some child → Leads entries parent name child
  by None found is = cc
  by (Some e) found is =
      let it = find-In (is_entry parent name) entries e found in
      let key = entry_of parent name e it.1 in
      record { entry = e; is = it.0; parent_is = key.0; name_is = key.1; child_is = same_Some e.child child is }

-- the entry of a directory
find_own : (entries : List DirEntry) → IsTreeLike entries → (d : ℕ) (e : DirEntry) → HoldsEntry entries d → In e entries → e.child ≡ d → find (λ (x : DirEntry). x.child == d) entries ≡ Some e
find_own entries like d e holds there is = by (find (λ (x : DirEntry). x.child == d) entries) refl where
  by : (o : Option DirEntry) → find (λ (x : DirEntry). x.child == d) entries ≡ o → o ≡ Some e
  by None none = absurd (find-none (λ (x : DirEntry). x.child == d) entries e none there ((Decides-eqb e.child d).1 is))
  by (Some x) found =
      let it = find-In (λ (y : DirEntry). y.child == d) entries x found in
      ap Some (like.one d x e holds it.0 there ((Decides-eqb x.child d).0 it.1) is)

find_root : (entries : List DirEntry) → IsTreeLike entries → (d : ℕ) → d ≡ 0 → find (λ (x : DirEntry). x.child == d) entries ≡ None
find_root entries like d root = by (find (λ (x : DirEntry). x.child == d) entries) refl where
  by : (o : Option DirEntry) → find (λ (x : DirEntry). x.child == d) entries ≡ o → o ≡ None
  by None none = refl
  by (Some x) found =
      let it = find-In (λ (y : DirEntry). y.child == d) entries x found in
      absurd (like.root x it.0 ((Decides-eqb x.child d).0 it.1 ∙ root))

-- Paths of directories.

path_to-root : (entries : List DirEntry) → IsTreeLike entries → (most d : ℕ) → d ≡ 0 → path_to entries most d ≡ []
unfolding path_to
path_to-root entries like zero d root = refl
path_to-root entries like (suc most) d root =
    ap (λ o. option_map_or (λ (entry : DirEntry). path_to entries most entry.parent ++ entry.name ∷ []) o []) (find_root entries like d root)

path_to-below : (entries : List DirEntry) → IsTreeLike entries → (most d : ℕ) (e : DirEntry) → HoldsEntry entries d → In e entries → e.child ≡ d → path_to entries (suc most) d ≡ path_to entries most e.parent ++ e.name ∷ []
unfolding path_to
path_to-below entries like most d e holds there is =
    ap (λ o. option_map_or (λ (entry : DirEntry). path_to entries most entry.parent ++ entry.name ∷ []) o []) (find_own entries like d e holds there is)

-- The path of a directory leads to it,
pub walk_down-path_to : (entries : List DirEntry) → IsTreeLike entries → (n most d : ℕ) → HoldsEntry entries d → IsDeep entries n d → n ≤ most → walk_down entries 0 (path_to entries most d) ≡ Some d
walk_down-path_to entries like zero most d holds deep within =
    ap (walk_down entries 0) (path_to-root entries like most d deep) ∙ (walk_down-nil entries 0 ∙ ap Some (sym deep))
walk_down-path_to entries like (suc n) zero d holds deep within = absurd (omega (arith, within))
walk_down-path_to entries like (suc n) (suc most) d holds deep within =
    let e = deep.0 in
    ap (walk_down entries 0) (path_to-below entries like most d e holds deep.1 deep.2)
    ∙ (walk_down-append entries 0 (path_to entries most e.parent) e.name
    ∙ (ap (λ o. option_and_then (λ at. child_of entries at e.name) o) (walk_down-path_to entries like n most e.parent (holds_own entries e deep.1) deep.3 (omega (arith, within)))
    ∙ (child_of-In entries e like.distinct deep.1 ∙ ap Some deep.2)))

-- a path that leads to the root, and one that leads to the child of an entry
led_nowhere : (entries : List DirEntry) (p : List (List ℕ)) (d : ℕ) → p ≡ [] → walk_down entries 0 p ≡ Some d → 0 ≡ d
led_nowhere entries p d none leads = same_Some 0 d (sym (walk_down-nil entries 0) ∙ (ap (walk_down entries 0) (sym none) ∙ leads))

record LedBy (entries : List DirEntry) (q : List (List ℕ)) (x : List ℕ) (d : ℕ) : Type 0 where
  entry : DirEntry
  is : In entry entries
  led : walk_down entries 0 q ≡ Some entry.parent
  name_is : entry.name ≡ x
  child_is : entry.child ≡ d

led_by : (entries : List DirEntry) (p q : List (List ℕ)) (x : List ℕ) (d : ℕ) → p ≡ q ++ x ∷ [] → walk_down entries 0 p ≡ Some d → LedBy entries q x d
led_by entries p q x d more leads =
    let ends = walk_down-last entries 0 q x d (ap (walk_down entries 0) (sym more) ∙ leads) in
    let its = Leads-child_of entries ends.directory x d ends.last in
    record { entry = its.entry; is = its.is; led = ends.led ∙ ap Some (sym its.parent_is); name_is = its.name_is; child_is = its.child_is }

-- and is the only one that does.
pub path_to-walk_down : (entries : List DirEntry) → IsTreeLike entries → (n most d : ℕ) (p : List (List ℕ)) → HoldsEntry entries d → IsDeep entries n d → n ≤ most → walk_down entries 0 p ≡ Some d → path_to entries most d ≡ p
path_to-walk_down entries like zero most d p holds deep within leads = elim (by_last p) [
  | inl none ↦ path_to-root entries like most d deep ∙ sym none
  | inr more ↦ let its = led_by entries p more.0 more.1 d more.2 leads in absurd (like.root its.entry its.is (its.child_is ∙ deep))
]
path_to-walk_down entries like (suc n) zero d p holds deep within leads = absurd (omega (arith, within))
path_to-walk_down entries like (suc n) (suc most) d p holds deep within leads = elim (by_last p) [
  | inl none ↦ path_to-root entries like (suc most) d (sym (led_nowhere entries p d none leads)) ∙ sym none
  | inr more ↦
      let its = led_by entries p more.0 more.1 d more.2 leads in
      let same : deep.0 ≡ its.entry = like.one d deep.0 its.entry holds deep.1 its.is deep.2 its.child_is in
      let above = path_to-walk_down entries like n most its.entry.parent more.0 (holds_own entries its.entry its.is) (subst (λ (e : DirEntry). IsDeep entries n e.parent) same deep.3) (omega (arith, within)) its.led in
      path_to-below entries like most d its.entry holds its.is its.child_is ∙ ((λ i. above i ++ its.name_is i ∷ []) ∙ sym more.2)
]

-- its names are plain
pub path_to-plain : (entries : List DirEntry) → IsTreeLike entries → (n most d : ℕ) → HoldsEntry entries d → IsDeep entries n d → n ≤ most → ArePlainNames (path_to entries most d)
path_to-plain entries like zero most d holds deep within = subst ArePlainNames (sym (path_to-root entries like most d deep)) tt
path_to-plain entries like (suc n) zero d holds deep within = absurd (omega (arith, within))
path_to-plain entries like (suc n) (suc most) d holds deep within =
    subst ArePlainNames (sym (path_to-below entries like most d deep.0 holds deep.1 deep.2))
    (ArePlainNames-push (path_to entries most deep.0.parent) deep.0.name (path_to-plain entries like n most deep.0.parent (holds_own entries deep.0 deep.1) deep.3 (omega (arith, within))) (like.names deep.0 deep.1))

-- The path of an entry.

abbrev pub path_of : List DirEntry → DirEntry → List (List ℕ)
path_of entries e = path_to entries (length entries) e.parent ++ e.name ∷ []

pub walk_down-path_of : (entries : List DirEntry) (e : DirEntry) → IsTreeLike entries → In e entries → walk_down entries 0 (path_of entries e) ≡ Some e.child
walk_down-path_of entries e like is =
    let deep = like.deep e is in
    walk_down-append entries 0 (path_to entries (length entries) e.parent) e.name
    ∙ (ap (λ o. option_and_then (λ at. child_of entries at e.name) o) (walk_down-path_to entries like deep.0 (length entries) e.parent (holds_own entries e is) deep.1 (deep_bound entries like deep.0 e.parent deep.1))
    ∙ child_of-In entries e like.distinct is)

pub path_of-plain : (entries : List DirEntry) (e : DirEntry) → IsTreeLike entries → In e entries → ArePlainNames (path_of entries e)
path_of-plain entries e like is =
    let deep = like.deep e is in
    ArePlainNames-push (path_to entries (length entries) e.parent) e.name
    (path_to-plain entries like deep.0 (length entries) e.parent (holds_own entries e is) deep.1 (deep_bound entries like deep.0 e.parent deep.1)) (like.names e is)

-- An entry is known by its path.
pub path_of-own : (entries : List DirEntry) (a b : DirEntry) → IsTreeLike entries → In a entries → In b entries → path_of entries a ≡ path_of entries b
    → (a.parent ≡ b.parent) × (a.name ≡ b.name)
path_of-own entries a b like a_is b_is same =
    let ends = same_from_push (path_to entries (length entries) a.parent) (path_to entries (length entries) b.parent) a.name b.name same in
    let a_deep = like.deep a a_is in
    let b_deep = like.deep b b_is in
    let to_a = walk_down-path_to entries like a_deep.0 (length entries) a.parent (holds_own entries a a_is) a_deep.1 (deep_bound entries like a_deep.0 a.parent a_deep.1) in
    let to_b = walk_down-path_to entries like b_deep.0 (length entries) b.parent (holds_own entries b b_is) b_deep.1 (deep_bound entries like b_deep.0 b.parent b_deep.1) in
    (same_Some a.parent b.parent (sym to_a ∙ (ap (walk_down entries 0) ends.0 ∙ to_b)), ends.1)

-- A path that leads to a node is the root's, or that of an entry.
pub led_where : (entries : List DirEntry) (p : List (List ℕ)) (d : ℕ) → IsTreeLike entries → walk_down entries 0 p ≡ Some d
    → ((p ≡ []) × (0 ≡ d)) ⊎ ((e : DirEntry) × In e entries × (path_of entries e ≡ p) × (e.child ≡ d))
led_where entries p d like leads = elim (by_last p) [
  | inl none ↦ inl (none, led_nowhere entries p d none leads)
  | inr more ↦
      let its = led_by entries p more.0 more.1 d more.2 leads in
      let deep = like.deep its.entry its.is in
      let above = path_to-walk_down entries like deep.0 (length entries) its.entry.parent more.0 (holds_own entries its.entry its.is) deep.1 (deep_bound entries like deep.0 its.entry.parent deep.1) its.led in
      inr (its.entry, its.is, (λ i. above i ++ its.name_is i ∷ []) ∙ sym more.2, its.child_is)
]
