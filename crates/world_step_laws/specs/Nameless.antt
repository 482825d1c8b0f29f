-- Whether a node has a name in the state, by the name lines of its inode; and rows of a table from which lines went.
use Rattle.std.specs.Prelude.{◌≡◌, ◌≢◌, ◌≤◌, ℕ, Bool, true, false, ◌==◌, ◌||◌, List, [], ◌∷◌, slice_set, Option, Some, None, option_map, refl}
use Rattle.std.proofs.Common.{ap, ◌∙◌, sym, inl, inr}
use Rattle.std.proofs.lemmas.Bool.{cases_eq, eq-eqb, ne_eqb}
use Rattle.std.proofs.lemmas.Bool.Decides.{Decides-eqb}
use Rattle.std.proofs.lemmas.Option.{same_Some}
use Rattle.volume_change_laws.specs.layout_model.Lines.{NameRow}
use Rattle.volume_change_laws.specs.layout_model.Names.{child_named, is_child, names_of, row, Rows}
use Rattle.volume_change_laws.specs.layout_model.TableLaws.{child_named-at, NamingLine-child_named}
use Rattle.volume_change_laws.specs.image_model.Volume.{Volume}
use Rattle.world_model.specs.name_laws.KeptLaws.{kept-keyed}
use Rattle.world_model.specs.name_laws.RowLaws.{names_of-none, names_of-one_line, names_of-zero, row-below}
use Rattle.world_model.specs.name_laws.SetLaws.{row-freed}
use Rattle.volume_change_laws.specs.volume_laws.Changes.{row-set_other, row-set_same}
use Rattle.commute_laws.specs.posix_tables.declared.nodes.DirEntry.{DirEntry}
use Rattle.commute_laws.specs.posix_tables.Names.{child_of, is_named}
use Rattle.commute_laws.specs.posix_spec.State.{State}
use Rattle.commute_laws.specs.list_laws.Members.{In}
use Rattle.world_model.specs.posix_laws.Entries.{child_of-In, Leads-child_of}
use Rattle.world_model.specs.Stands.{IsSane, IsUsed, NamesStand, number}
use Rattle.world_model.specs.TreeRules.{all_lines, child_used, parent_used}

-- no row names the inode
abbrev pub IsNameless : Rows → ℕ → Type 0
IsNameless rows c = (k : ℕ) (r : NameRow) → row rows k ≡ Some r → r.child ≢ c

named_In : (es : List DirEntry) (n : ℕ) → is_named es n ≡ true → (e : DirEntry) × In e es × (e.child ≡ n)
named_In [] n is = cc
named_In (x ∷ xs) n is = by (x.child == n) refl is (named_In xs n) where
  by : (b : Bool) → (x.child == n) ≡ b → (b || is_named xs n) ≡ true → (is_named xs n ≡ true → (e : DirEntry) × In e xs × (e.child ≡ n)) → (e : DirEntry) × In e (x ∷ xs) × (e.child ≡ n)
  by true first all rest = (x, inl refl, (Decides-eqb x.child n).0 first)
  by false first all rest = let e = rest all in (e.0, inr e.1, e.2)

In_named : (es : List DirEntry) (n : ℕ) (e : DirEntry) → In e es → e.child ≡ n → is_named es n ≡ true
In_named [] n e is same = absurd is
In_named (x ∷ xs) n e (inl one) same = rw (eq-eqb x.child n (ap (λ (d : DirEntry). d.child) one ∙ same)) refl
In_named (x ∷ xs) n e (inr behind) same = by (x.child == n) (In_named xs n e behind same) where
  by : (b : Bool) → is_named xs n ≡ true → (b || is_named xs n) ≡ true
  by true rest = refl
  by false rest = rest

-- A NODE WITHOUT A NAME: no row names its inode.
pub is_named-nameless : (v : Volume) (numbers : List ℕ) (s : State) (c : ℕ) → IsSane v → NamesStand v numbers s → IsUsed v c → IsNameless v.names c → is_named s.entries (number numbers c) ≡ false
is_named-nameless v numbers s c sane names used none = by (is_named s.entries (number numbers c)) refl where
  line : (e : DirEntry) → In e s.entries → e.child ≡ number numbers c → ⊥
  line e is child =
      let led = child_of-In s.entries e names.distinct is in
      let above = names.entry_parents e.parent e.name e.child led in
      at above.0 above.1 (child_named v.names above.0 e.name) refl (names.names above.0 e.name above.1 ∙ (ap (λ n. child_of s.entries n e.name) above.2 ∙ led)) child where
        at : (p : ℕ) → IsUsed v p → (o : Option ℕ) → child_named v.names p e.name ≡ o → option_map (number numbers) o ≡ Some e.child → e.child ≡ number numbers c → ⊥
        at p p_used None named to same = cc
        at p p_used (Some d) named to same =
            let own = names.one d c (child_used v sane p e.name d named) used (same_Some (number numbers d) e.child to ∙ same) in
            let l = NamingLine-child_named v.names p e.name d named in
            none l.line l.at l.is (l.child_is ∙ own)

  by : (b : Bool) → is_named s.entries (number numbers c) ≡ b → is_named s.entries (number numbers c) ≡ false
  by false is = is
  by true is = let e = named_In s.entries (number numbers c) is in absurd (line e.0 e.1 e.2)

-- and one that the state names has a row
pub named-row : (v : Volume) (numbers : List ℕ) (s : State) (line : ℕ) (r : NameRow) → IsSane v → NamesStand v numbers s → row v.names line ≡ Some r → is_named s.entries (number numbers r.child) ≡ true
named-row v numbers s line r sane names is =
    let named = child_named-at v.names line r (kept-keyed v sane.kept (all_lines v sane)) (row-below v.names line r is) is in
    let used = parent_used v sane r.parent r.name r.child named in
    let its = Leads-child_of s.entries (number numbers r.parent) r.name (number numbers r.child) (sym (names.names r.parent r.name used) ∙ ap (option_map (number numbers)) named) in
    In_named s.entries (number numbers r.child) its.entry its.is its.child_is

-- names and counts
pub nameless-count : (rows : Rows) (c : ℕ) → IsNameless rows c → names_of rows c ≡ 0
nameless-count rows c none = names_of-none rows c (λ k. by k (row rows k) refl) where
  by : (k : ℕ) (o : Option NameRow) → row rows k ≡ o → is_child c (row rows k) ≡ false
  by k None is = ap (is_child c) is
  by k (Some r) is = ap (is_child c) is ∙ ne_eqb r.child c (none k r is)

pub count-nameless : (rows : Rows) (c : ℕ) → names_of rows c ≡ 0 → IsNameless rows c
count-nameless rows c zeroth k r is same =
    let never : true ≡ false = sym (ap (is_child c) is ∙ eq-eqb r.child c same) ∙ names_of-zero rows c zeroth k in
    cc

-- two rows of a child that has one name are one
one_row : (rows : Rows) (j k : ℕ) (r t : NameRow) → names_of rows t.child ≤ 1 → row rows j ≡ Some r → row rows k ≡ Some t → r.child ≡ t.child → j ≡ k
one_row rows j k r t few first second same =
    names_of-one_line rows t.child j k few (ap (is_child t.child) first ∙ eq-eqb r.child t.child same) (ap (is_child t.child) second ∙ eq-eqb t.child t.child refl)

-- Where the line of a child that has one name is freed it has no row, and where another row stands in the place of a third
-- one. That it has one name is asked: no node has two today.
pub nameless-freed : (v : Volume) (line : ℕ) (r : NameRow) → names_of v.names r.child ≤ 1 → row v.names line ≡ Some r → IsNameless (slice_set v.names line None) r.child
nameless-freed v line r few is k t there same =
    let was = row-freed v.names line k t there in
    was.0 (one_row v.names k line t r few was.1 is same)

pub nameless-moved_over : (v : Volume) (line : ℕ) (r new : NameRow) (target : ℕ) (t : NameRow) → names_of v.names t.child ≤ 1 → row v.names line ≡ Some r → row v.names target ≡ Some t → new.child ≡ r.child → t.child ≢ r.child
    → IsNameless (slice_set (slice_set v.names target None) line (Some new)) t.child
nameless-moved_over v line r new target t few is target_is same_child apart k q there same = elim (cases_eq k line) [
  | inl own ↦
      let freed_at : row (slice_set v.names target None) line ≡ Some r = row-set_other v.names target None line (λ one. apart (sym (ap (λ (x : NameRow). x.child) (same_Some r t (sym is ∙ (ap (row v.names) one ∙ target_is)))))) ∙ is in
      let set_row = row-set_same (slice_set v.names target None) line (Some new) (row-below (slice_set v.names target None) line r freed_at) in
      let it : new ≡ q = same_Some new q (sym set_row ∙ (ap (row (slice_set (slice_set v.names target None) line (Some new))) (sym own) ∙ there)) in
      apart (sym same ∙ (ap (λ (x : NameRow). x.child) (sym it) ∙ same_child))
  | inr other ↦
      let was = row-freed v.names target k q (sym (row-set_other (slice_set v.names target None) line (Some new) k other) ∙ there) in
      was.0 (one_row v.names k target q t few was.1 target_is same)
]
