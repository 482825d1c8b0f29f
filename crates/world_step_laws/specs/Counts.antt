-- As many nodes and name lines are left in a volume as in the state for which it stands.
use Rattle.std.specs.Prelude.{◌≡◌, ◌≢◌, ◌≤◌, ◌<◌, ◌⊎◌, ℕ, zero, suc, ◌+◌, Bool, true, false, List, [], ◌∷◌, length, count_by, sum_by, slice_get, slice_index_or, Option, Some, None, option_map, refl}
use Rattle.std.proofs.Common.{arith, ap, ◌∙◌, sym, subst, inl, inr}
use Rattle.std.proofs.lemmas.List.Sums.{sum_by-cons}
use Rattle.std.proofs.lemmas.Option.{same_Some}
use Rattle.world_model.specs.name_laws.pm_model.Words.{Words}
use Rattle.world_model.specs.name_laws.layout_model.declared.lines.Draft.{Draft}
use Rattle.world_model.specs.name_laws.layout_model.declared.lines.Inode.{Inode}
use Rattle.world_model.specs.name_laws.layout_model.declared.lines.Kind.{Kind}
use Rattle.world_model.specs.name_laws.layout_model.declared.lines.Kind.TheVariants.{Free, Directory, File, Staging}
use Rattle.world_model.specs.name_laws.layout_model.Lines.{NameRow}
use Rattle.world_model.specs.name_laws.layout_model.Names.{child_named, is_entry, is_free_row, row, Rows}
use Rattle.world_model.specs.name_laws.layout_model.TableLaws.{child_named-at, is_entry-own, NamingLine-child_named}
use Rattle.world_model.specs.name_laws.image_model.Rules.{IsKindAt}
use Rattle.world_model.specs.name_laws.image_model.Volume.{free_inode, inode, Volume}
use Rattle.world_model.specs.name_laws.k_split_model.Spaces.{is_free, volume_space}
use Rattle.world_model.specs.name_laws.KeptLaws.{kept-keyed}
use Rattle.world_model.specs.name_laws.RowLaws.{row-below}
use Rattle.world_model.specs.name_laws.volume_laws.Lists.{one_if}
use Rattle.world_model.specs.name_laws.posix_tables.declared.nodes.DirEntry.{DirEntry}
use Rattle.world_model.specs.name_laws.posix_tables.declared.nodes.Node.{Node}
use Rattle.world_model.specs.name_laws.posix_tables.Lookups.{AreDistinct}
use Rattle.world_model.specs.name_laws.posix_tables.Names.{child_of, lines_taken}
use Rattle.world_model.specs.name_laws.posix_tables.Nodes.{is_live, node_at}
use Rattle.world_model.specs.posix_spec.State.{space, State}
use Rattle.world_model.specs.list_laws.Members.{In-slice_get, slice_get-In}
use Rattle.world_model.specs.posix_laws.Entries.{child_of-In, Leads-child_of}
use Rattle.world_model.specs.Stands.{is_used, IsSane, IsUsed, NamesStand, NodesStand, NodeStands, number}
use Rattle.world_model.specs.TreeRules.{all_lines, parent_used, used_below}
use Rattle.world_step_laws.specs.Sums.{sum-Reaches}

-- The shape of a state has the numbers of a volume: a node for each inode line but those of the four staging files, one of
-- them for the root, and as many names as there are name lines.
pub record HasShape (v : Volume) (s : State) : Type 0 where
  pub root : 1 ≤ s.shape.nodes
  pub nodes : s.shape.nodes + 4 ≡ length v.inodes
  pub names : s.shape.names ≡ length v.names

-- Inode lines, by their kinds.

abbrev used_line : Inode → Bool
used_line x = is_used x.kind

abbrev free_line : Inode → Bool
free_line x = is_free x.kind

abbrev is_staging : Kind → Bool
is_staging Free = false
is_staging Directory = false
is_staging File = false
is_staging Staging = true

abbrev staging_line : Inode → Bool
staging_line x = is_staging x.kind

one_kind : (kind : Kind) → one_if (is_free kind) + one_if (is_used kind) + one_if (is_staging kind) ≡ 1
one_kind Free = refl
one_kind Directory = refl
one_kind File = refl
one_kind Staging = refl

all_kinds : (xs : List Inode) → count_by free_line xs + count_by used_line xs + count_by staging_line xs ≡ length xs
all_kinds [] = refl
all_kinds (x ∷ xs) =
    omega (arith, sum_by-cons (λ (y : Inode). one_if (free_line y)) x xs, sum_by-cons (λ (y : Inode). one_if (used_line y)) x xs, sum_by-cons (λ (y : Inode). one_if (staging_line y)) x xs, one_kind x.kind, all_kinds xs)

-- the kinds of lines from a number on
abbrev KindsFrom : ℕ → List Inode → Type 0
KindsFrom at [] = Unit {0}
KindsFrom at (x ∷ xs) = IsKindAt at x.kind × KindsFrom (at + 1) xs

kinds_from : (at : ℕ) (xs : List Inode) → ((k : ℕ) → k < length xs → IsKindAt (at + k) (slice_index_or xs k free_inode).kind) → KindsFrom at xs
kinds_from at [] each = tt
kinds_from at (x ∷ xs) each = (
  subst (λ n. IsKindAt n x.kind) (nothing at) (each 0 (omega arith)),
  kinds_from (at + 1) xs (λ k below. subst (λ n. IsKindAt n (slice_index_or xs k free_inode).kind) (moved at k) (each (suc k) (omega (arith, below)))),
)
  where
    nothing : (n : ℕ) → n + 0 ≡ n
    nothing n = omega arith

    moved : (n k : ℕ) → n + suc k ≡ n + 1 + k
    moved n k = omega arith

past_four : (at : ℕ) (kind : Kind) → 5 ≤ at → IsKindAt at kind → one_if (is_staging kind) ≡ 0
past_four at Free late is = refl
past_four at Directory late is = refl
past_four at File late is = refl
past_four at Staging late is = absurd (omega (arith, late, is.1))

none_staging : (at : ℕ) (xs : List Inode) → 5 ≤ at → KindsFrom at xs → count_by staging_line xs ≡ 0
none_staging at [] late kinds = refl
none_staging at (x ∷ xs) late kinds =
    omega (arith, sum_by-cons (λ (y : Inode). one_if (staging_line y)) x xs, past_four at x.kind late kinds.0, none_staging (at + 1) xs (omega (arith, late)) kinds.1)

first_kind : (kind : Kind) → IsKindAt 0 kind → one_if (is_staging kind) ≡ 0
first_kind Free is = refl
first_kind Directory is = refl
first_kind File is = refl
first_kind Staging is = absurd (omega (arith, is.0))

one_of_four : (at : ℕ) (kind : Kind) → 1 ≤ at → at ≤ 4 → IsKindAt at kind → one_if (is_staging kind) ≡ 1
one_of_four at Free least most is = absurd (omega (arith, is, most))
one_of_four at Directory least most (inl is) = absurd (omega (arith, is, least))
one_of_four at Directory least most (inr is) = absurd (omega (arith, is, most))
one_of_four at File least most is = absurd (omega (arith, is, most))
one_of_four at Staging least most is = refl

four_staging : (xs : List Inode) → 5 ≤ length xs → KindsFrom 0 xs → count_by staging_line xs ≡ 4
four_staging [] many kinds = absurd (omega (arith, many))
four_staging (a ∷ []) many kinds = absurd (omega (arith, many))
four_staging (a ∷ b ∷ []) many kinds = absurd (omega (arith, many))
four_staging (a ∷ b ∷ c ∷ []) many kinds = absurd (omega (arith, many))
four_staging (a ∷ b ∷ c ∷ d ∷ []) many kinds = absurd (omega (arith, many))
four_staging (a ∷ b ∷ c ∷ d ∷ e ∷ xs) many kinds =
    let w : Inode → ℕ = λ y. one_if (staging_line y) in
    omega (
      arith,
      sum_by-cons w a (b ∷ c ∷ d ∷ e ∷ xs),
      sum_by-cons w b (c ∷ d ∷ e ∷ xs),
      sum_by-cons w c (d ∷ e ∷ xs),
      sum_by-cons w d (e ∷ xs),
      sum_by-cons w e xs,
      first_kind a.kind kinds.0,
      one_of_four 1 b.kind (omega arith) (omega arith) kinds.1.0,
      one_of_four 2 c.kind (omega arith) (omega arith) kinds.1.1.0,
      one_of_four 3 d.kind (omega arith) (omega arith) kinds.1.1.1.0,
      one_of_four 4 e.kind (omega arith) (omega arith) kinds.1.1.1.1.0,
      none_staging 5 xs (omega arith) kinds.1.1.1.1.1,
    )

-- Nodes: as many are live as inodes are in use.

live_stands : (v : Volume) (live : List Draft) (f : Words) (ino : ℕ) (kind : Kind) (node : Node) → NodeStands v live f ino kind node → is_live node ≡ true
live_stands v live f ino Free node stands = absurd stands
live_stands v live f ino Staging node stands = absurd stands
live_stands v live f ino Directory Node.Gone stands = absurd stands
live_stands v live f ino Directory Node.Directory stands = refl
live_stands v live f ino Directory (Node.File file) stands = absurd stands
live_stands v live f ino File Node.Gone stands = absurd stands
live_stands v live f ino File Node.Directory stands = absurd stands
live_stands v live f ino File (Node.File file) stands = refl

not_gone : (node : Node) → is_live node ≡ true → node ≢ Node.Gone
not_gone node is same = let never : true ≡ false = sym is ∙ ap is_live same in cc

zero_or : (b : Bool) → (b ≡ true) ⊎ (one_if b ≡ 0)
zero_or true = inl refl
zero_or false = inr refl

most_one : (b c : Bool) → c ≡ true → one_if b ≤ one_if c
most_one true true is = omega arith
most_one false true is = omega arith
most_one b false is = cc

pub live_nodes : (v : Volume) (live : List Draft) (f : Words) (numbers : List ℕ) (s : State) → NamesStand v numbers s → NodesStand v live f numbers s → count_by is_live s.nodes ≡ count_by used_line v.inodes
live_nodes v live f numbers s names nodes = omega (arith, back, on) where
  w : Inode → ℕ
  w x = one_if (used_line x)

  on : count_by used_line v.inodes ≤ count_by is_live s.nodes
  on = sum-Reaches (λ i n. IsUsed v i × (number numbers i ≡ n)) (λ x. one_if (used_line x)) (λ n. one_if (is_live n)) v.inodes s.nodes free_inode Node.Gone (record {
    each = λ i below. elim (zero_or (used_line (inode v i))) [
      | inl used ↦ inr (
        number numbers i,
        (used, refl),
        names.within i used,
        most_one (used_line (inode v i)) (is_live (node_at s.nodes (number numbers i))) (live_stands v live f i (inode v i).kind (node_at s.nodes (number numbers i)) (nodes.each i used)),
      )
      | inr none ↦ inl none
    ];
    one = λ i k n a b. names.one i k a.0 b.0 (a.1 ∙ sym b.1);
  })

  back : count_by is_live s.nodes ≤ count_by used_line v.inodes
  back = sum-Reaches (λ n i. number numbers i ≡ n) (λ n. one_if (is_live n)) (λ x. one_if (used_line x)) s.nodes v.inodes Node.Gone free_inode (record {
    each = λ n below. elim (zero_or (is_live (node_at s.nodes n))) [
      | inl live_one ↦
          let its = nodes.all n (not_gone (node_at s.nodes n) live_one) in
          inr (its.0, its.2, used_below v its.0 its.1, most_one (is_live (node_at s.nodes n)) (used_line (inode v its.0)) its.1)
      | inr none ↦ inl none
    ];
    one = λ n m i a b. sym a ∙ b;
  })

-- AS MANY NODES ARE LEFT as inode lines are free.
pub nodes_left-same : (v : Volume) (live : List Draft) (f : Words) (numbers : List ℕ) (s : State) → IsSane v → NamesStand v numbers s → NodesStand v live f numbers s → HasShape v s
    → (volume_space v).nodes_left ≡ (space s).nodes_left
nodes_left-same v live f numbers s sane names nodes shape =
    omega (arith, live_nodes v live f numbers s names nodes, all_kinds v.inodes, four_staging v.inodes (omega (arith, shape.root, shape.nodes)) (kinds_from 0 v.inodes kinds), shape.nodes) where
      plus : (n : ℕ) → 0 + n ≡ n
      plus n = omega arith

      kinds : (k : ℕ) → k < length v.inodes → IsKindAt (0 + k) (slice_index_or v.inodes k free_inode).kind
      kinds k below = subst (λ n. IsKindAt n (inode v k).kind) (sym (plus k)) (sane.kept.kinds k (subst (λ n. k < n) sane.inode_count below))

-- Name lines: as many are in use as there are entries.

abbrev used_row : Option NameRow → Bool
used_row None = false
used_row (Some r) = true

all_rows : (rows : Rows) → count_by is_free_row rows + count_by used_row rows ≡ length rows
all_rows [] = refl
all_rows (o ∷ rows) =
    omega (arith, sum_by-cons (λ (q : Option NameRow). one_if (is_free_row q)) o rows, sum_by-cons (λ (q : Option NameRow). one_if (used_row q)) o rows, one o, all_rows rows) where
      one : (q : Option NameRow) → one_if (is_free_row q) + one_if (used_row q) ≡ 1
      one None = refl
      one (Some r) = refl

-- one entry of a directory has a name
head_again : (e : DirEntry) (es : List DirEntry) (a b : DirEntry) (j : ℕ) → AreDistinct (e ∷ es) → e ≡ a → slice_get es j ≡ Some b → a.parent ≡ b.parent → a.name ≡ b.name → ⊥
head_again e es a b j distinct same second parent name =
    let led = child_of-In es b distinct.1 (In-slice_get es j b second) in
    let none : child_of es b.parent b.name ≡ None =
    (λ i. child_of es (sym parent i) (sym name i)) ∙ ((λ i. child_of es (sym same i).parent (sym same i).name) ∙ distinct.0) in
    let never : Some b.child ≡ None = sym led ∙ none in
    cc

distinct_place : (es : List DirEntry) (i j : ℕ) (a b : DirEntry) → AreDistinct es → slice_get es i ≡ Some a → slice_get es j ≡ Some b → a.parent ≡ b.parent → a.name ≡ b.name → i ≡ j
distinct_place [] i j a b distinct first second parent name = cc
distinct_place (e ∷ es) zero zero a b distinct first second parent name = refl
distinct_place (e ∷ es) (suc i) (suc j) a b distinct first second parent name = ap suc (distinct_place es i j a b distinct.1 first second parent name)
distinct_place (e ∷ es) zero (suc j) a b distinct first second parent name = absurd (head_again e es a b j distinct (same_Some e a first) second parent name)
distinct_place (e ∷ es) (suc i) zero a b distinct first second parent name = absurd (head_again e es b a i distinct (same_Some e b second) first (sym parent) (sym name))

-- the line k is that of the entry at j
record IsLineOf (v : Volume) (numbers : List ℕ) (s : State) (k j : ℕ) : Type 0 where
  at : NameRow
  is : row v.names k ≡ Some at
  used : IsUsed v at.parent
  entry : DirEntry
  there : slice_get s.entries j ≡ Some entry
  parent_is : entry.parent ≡ number numbers at.parent
  name_is : entry.name ≡ at.name

-- the line of an entry, and the entry of a line
line_of : (v : Volume) (numbers : List ℕ) (s : State) → IsSane v → NamesStand v numbers s → (j : ℕ) (e : DirEntry) → slice_get s.entries j ≡ Some e → (k : ℕ) × (k < length v.names) × IsLineOf v numbers s k j
line_of v numbers s sane names j e is =
    let leads = child_of-In s.entries e names.distinct (In-slice_get s.entries j e is) in
    let from = names.entry_parents e.parent e.name e.child leads in
    by from.0 from.1 from.2 (child_named v.names from.0 e.name) refl (names.names from.0 e.name from.1 ∙ (ap (λ n. child_of s.entries n e.name) from.2 ∙ leads)) where
      by : (p : ℕ) → IsUsed v p → number numbers p ≡ e.parent → (o : Option ℕ) → child_named v.names p e.name ≡ o → option_map (number numbers) o ≡ Some e.child
          → (k : ℕ) × (k < length v.names) × IsLineOf v numbers s k j
      by p used parent None named to = cc
      by p used parent (Some c) named to =
          let line = NamingLine-child_named v.names p e.name c named in (
            line.line,
            line.within,
            record {
              at = line.at;
              is = line.is;
              used = subst (IsUsed v) (sym line.parent_is) used;
              entry = e;
              there = is;
              parent_is = sym parent ∙ ap (number numbers) (sym line.parent_is);
              name_is = sym line.name_is;
            },
          )

entry_of : (v : Volume) (numbers : List ℕ) (s : State) → IsSane v → NamesStand v numbers s → (k : ℕ) (r : NameRow) → row v.names k ≡ Some r → (j : ℕ) × (j < length s.entries) × IsLineOf v numbers s k j
entry_of v numbers s sane names k r is =
    let named = child_named-at v.names k r (kept-keyed v sane.kept (all_lines v sane)) (row-below v.names k r is) is in
    let used = parent_used v sane r.parent r.name r.child named in
    let leads : child_of s.entries (number numbers r.parent) r.name ≡ Some (number numbers r.child) = sym (names.names r.parent r.name used) ∙ ap (option_map (number numbers)) named in
    let its = Leads-child_of s.entries (number numbers r.parent) r.name (number numbers r.child) leads in
    let place = slice_get-In s.entries its.entry its.is in (
      place.0,
      within s.entries place.0 its.entry place.1,
      record { at = r; is = is; used = used; entry = its.entry; there = place.1; parent_is = its.parent_is; name_is = its.name_is },
    )
  where
    within : (es : List DirEntry) (j : ℕ) (e : DirEntry) → slice_get es j ≡ Some e → j < length es
    within [] j e is = cc
    within (x ∷ xs) zero e is = omega arith
    within (x ∷ xs) (suc j) e is = omega (arith, within xs j e is)

one_line : (v : Volume) (numbers : List ℕ) (s : State) → IsSane v → NamesStand v numbers s → (i k j : ℕ) → IsLineOf v numbers s i j → IsLineOf v numbers s k j → i ≡ k
one_line v numbers s sane names i k j a b =
    let same : a.entry ≡ b.entry = same_Some a.entry b.entry (sym a.there ∙ b.there) in
    let num : number numbers a.at.parent ≡ number numbers b.at.parent = sym a.parent_is ∙ (ap (λ (e : DirEntry). e.parent) same ∙ b.parent_is) in
    let parent = names.one a.at.parent b.at.parent a.used b.used num in
    let name : a.at.name ≡ b.at.name = sym a.name_is ∙ (ap (λ (e : DirEntry). e.name) same ∙ b.name_is) in
    let keyed = kept-keyed v sane.kept (all_lines v sane) in
    keyed.one_line b.at.parent b.at.name i k
    ((λ t. is_entry (sym parent t) (sym name t) (row v.names i)) ∙ is_entry-own (row v.names i) a.at a.is)
    (is_entry-own (row v.names k) b.at b.is)

one_entry : (v : Volume) (numbers : List ℕ) (s : State) → NamesStand v numbers s → (i k j : ℕ) → IsLineOf v numbers s j i → IsLineOf v numbers s j k → i ≡ k
one_entry v numbers s names i k j a b =
    let same : a.at ≡ b.at = same_Some a.at b.at (sym a.is ∙ b.is) in
    distinct_place s.entries i k a.entry b.entry names.distinct a.there b.there
    (a.parent_is ∙ (ap (λ (r : NameRow). number numbers r.parent) same ∙ sym b.parent_is)) (a.name_is ∙ (ap (λ (r : NameRow). r.name) same ∙ sym b.name_is))

-- no entry, or one
no_entry : DirEntry
no_entry = record { parent = 0; name = []; child = 0 }

one_each : (es : List DirEntry) → sum_by (λ (e : DirEntry). lines_taken e.name) es ≡ length es
one_each [] = refl
one_each (e ∷ es) = omega (arith, sum_by-cons (λ (d : DirEntry). lines_taken d.name) e es, one_each es)

get_place : (es : List DirEntry) (j : ℕ) → j < length es → slice_get es j ≡ Some (slice_index_or es j no_entry)
get_place [] j below = absurd (omega (arith, below))
get_place (e ∷ es) zero below = refl
get_place (e ∷ es) (suc j) below = get_place es j (omega (arith, below))

lines_in_use : (v : Volume) (numbers : List ℕ) (s : State) → IsSane v → NamesStand v numbers s → sum_by (λ (e : DirEntry). lines_taken e.name) s.entries ≡ count_by used_row v.names
lines_in_use v numbers s sane names = omega (arith, on, back) where
  row_reaches : (k : ℕ) (o : Option NameRow) → row v.names k ≡ o → (one_if (used_row o) ≡ 0) ⊎ ((j : ℕ) × IsLineOf v numbers s k j × (j < length s.entries) × (one_if (used_row o) ≤ 1))
  row_reaches k None is = inl refl
  row_reaches k (Some r) is = let its = entry_of v numbers s sane names k r is in inr (its.0, its.2, its.1, omega arith)

  on : sum_by (λ (e : DirEntry). lines_taken e.name) s.entries ≤ count_by used_row v.names
  on = sum-Reaches (λ j k. IsLineOf v numbers s k j) (λ (e : DirEntry). lines_taken e.name) (λ o. one_if (used_row o)) s.entries v.names no_entry None (record {
    each = λ j below.
        let its = line_of v numbers s sane names j (slice_index_or s.entries j no_entry) (get_place s.entries j below) in
        inr (its.0, its.2, its.1, subst (λ o. 1 ≤ one_if (used_row o)) (sym its.2.is) (omega arith));
    one = λ i k j a b. one_entry v numbers s names i k j a b;
  })

  back : count_by used_row v.names ≤ sum_by (λ (e : DirEntry). lines_taken e.name) s.entries
  back = sum-Reaches (IsLineOf v numbers s) (λ o. one_if (used_row o)) (λ (e : DirEntry). lines_taken e.name) v.names s.entries None no_entry (record {
    each = λ k below. row_reaches k (row v.names k) refl;
    one = λ i k j a b. one_line v numbers s sane names i k j a b;
  })

-- AS MANY NAME LINES ARE LEFT.
pub lines_left-same : (v : Volume) (numbers : List ℕ) (s : State) → IsSane v → NamesStand v numbers s → HasShape v s → (volume_space v).lines_left ≡ (space s).lines_left
lines_left-same v numbers s sane names shape = omega (arith, lines_in_use v numbers s sane names, all_rows v.names, shape.names)
