-- Names of the volume and of the state agree after a name was freed, moved or taken, and after a node went.
use Rattle.std.specs.Prelude.{◌≡◌, ◌≢◌, ◌<◌, ◌+◌, ℕ, Bool, true, false, cond, ◌&&◌, ◌==◌, List, length, Option, Some, None, option_map, slice_set, refl}
use Rattle.std.proofs.Common.{arith, ap, ◌∙◌, sym, subst, inl, inr}
use Rattle.std.proofs.lemmas.Bool.{cases_eq, eq-eqb, ne_eqb}
use Rattle.volume_change_laws.specs.layout_model.declared.lines.Kind.TheVariants.{Free}
use Rattle.volume_change_laws.specs.layout_model.Lines.{NameRow}
use Rattle.volume_change_laws.specs.layout_model.Names.{child_named, is_entry as is_row_entry, row}
use Rattle.volume_change_laws.specs.layout_model.TableLaws.{child_named-at}
use Rattle.volume_change_laws.specs.image_model.Reading.{row_set}
use Rattle.volume_change_laws.specs.image_model.Volume.{inode, Volume}
use Rattle.world_model.specs.name_laws.KeptLaws.{kept-keyed}
use Rattle.world_model.specs.name_laws.RowLaws.{row-below}
use Rattle.volume_change_laws.specs.LookupLaws.{leads_nowhere, leads_to, names-freed, names-taken}
use Rattle.commute_laws.specs.posix_tables.declared.nodes.DirEntry.{DirEntry}
use Rattle.commute_laws.specs.posix_tables.Lookups.{AreDistinct, child_of-with_entry, child_of-without_entry, child_of-without_entry-itself, entry_of}
use Rattle.commute_laws.specs.posix_tables.Names.{child_of, is_entry, same_name, with_entry, without_entry}
use Rattle.commute_laws.specs.posix_spec.State.{State}
use Rattle.commute_laws.specs.posix_laws.DistinctLaws.{AreDistinct-with_entry, AreDistinct-without_entry}
use Rattle.world_model.specs.Stands.{is_used, IsSane, IsUsed, NamesStand, number}
use Rattle.world_model.specs.TreeRules.{all_lines, child_used, parent_used}

-- ---- one test on both sides

same_parent : (numbers : List ℕ) (p q : ℕ) → (number numbers p ≡ number numbers q → p ≡ q) → (p == q) ≡ (number numbers p == number numbers q)
same_parent numbers p q one = elim (cases_eq p q) [
  | inl same ↦ eq-eqb p q same ∙ sym (eq-eqb (number numbers p) (number numbers q) (ap (number numbers) same))
  | inr other ↦ ne_eqb p q other ∙ sym (ne_eqb (number numbers p) (number numbers q) (λ same. other (one same)))
]

-- the row is that of a name in a directory where the entry is
same_key : (v : Volume) (numbers : List ℕ) (s : State) (r : NameRow) (p : ℕ) (name : List ℕ) → NamesStand v numbers s → IsUsed v r.parent → IsUsed v p
    → is_row_entry p name (Some r) ≡ ((number numbers r.parent == number numbers p) && same_name r.name name)
same_key v numbers s r p name names above used = ap (λ b. b && same_name r.name name) (same_parent numbers r.parent p (names.one r.parent p above used))

-- ---- look-ups in entries of which one was taken out

taken_out : (es : List DirEntry) (a n : ℕ) (x y : List ℕ) → AreDistinct es → child_of (without_entry es a x) n y ≡ cond ((a == n) && same_name x y) None (child_of es n y)
taken_out es a n x y distinct = by ((a == n) && same_name x y) refl where
  by : (b : Bool) → ((a == n) && same_name x y) ≡ b → child_of (without_entry es a x) n y ≡ cond b None (child_of es n y)
  by true is =
      let own = entry_of n y (record { parent = a; name = x; child = 0 }) is in
      (λ i. child_of (without_entry es a x) (sym own.0 i) (sym own.1 i)) ∙ child_of-without_entry-itself es a x distinct
  by false is = child_of-without_entry es a n x y is

mapped : (f : ℕ → ℕ) (b : Bool) (o q : Option ℕ) → option_map f (cond b o q) ≡ cond b (option_map f o) (option_map f q)
mapped f true o q = refl
mapped f false o q = refl

cond_some : (b : Bool) (o : Option ℕ) (m : ℕ) → cond b None o ≡ Some m → o ≡ Some m
cond_some true o m is = cc
cond_some false o m is = is

-- the parent of a row is in use, and its child
pub row_used : (v : Volume) (line : ℕ) (r : NameRow) → IsSane v → row v.names line ≡ Some r → IsUsed v r.parent × IsUsed v r.child
row_used v line r sane is =
    let named = child_named-at v.names line r (kept-keyed v sane.kept (all_lines v sane)) (row-below v.names line r is) is in
    (parent_used v sane r.parent r.name r.child named, child_used v sane r.parent r.name r.child named)

-- ---- a name is freed

pub NamesStand-freed : (v : Volume) (numbers : List ℕ) (s new : State) (line : ℕ) (r : NameRow) → IsSane v → NamesStand v numbers s → row v.names line ≡ Some r
    → new.entries ≡ without_entry s.entries (number numbers r.parent) r.name → length new.nodes ≡ length s.nodes → NamesStand (row_set line None v) numbers new
NamesStand-freed v numbers s new line r sane names is entries count = record {
  root = names.root;
  root_used = names.root_used;
  within = λ ino used. subst (λ n. number numbers ino < n) (sym count) (names.within ino used);
  one = names.one;
  names = λ p name used.
      ap (option_map (number numbers)) (names-freed v.names line r p name (kept-keyed v sane.kept (all_lines v sane)) is)
      ∙ mapped (number numbers) (is_row_entry p name (Some r)) None (child_named v.names p name)
      ∙ (λ i. cond (same_key v numbers s r p name names (row_used v line r sane is).0 used i) None (names.names p name used i))
      ∙ sym (ap (λ es. child_of es (number numbers p) name) entries ∙ taken_out s.entries (number numbers r.parent) (number numbers p) r.name name names.distinct);
  entry_parents = λ n name m leads.
      names.entry_parents n name m
      (cond_some ((number numbers r.parent == n) && same_name r.name name) (child_of s.entries n name) m
      (sym (ap (λ es. child_of es n name) entries ∙ taken_out s.entries (number numbers r.parent) n r.name name names.distinct) ∙ leads));
  distinct = subst AreDistinct (sym entries) (AreDistinct-without_entry s.entries (number numbers r.parent) r.name names.distinct);
}

-- ---- a name is moved, and one that stood in its place goes

-- the entries after a rename
abbrev pub moved_entries : List DirEntry → ℕ → List ℕ → DirEntry → List DirEntry
moved_entries es a x moved = with_entry (without_entry (without_entry es a x) moved.parent moved.name) moved

looked_up : (es : List DirEntry) (a n : ℕ) (x y : List ℕ) (moved : DirEntry) → AreDistinct es
    → child_of (moved_entries es a x moved) n y ≡ cond (is_entry n y moved) (Some moved.child) (cond ((a == n) && same_name x y) None (child_of es n y))
looked_up es a n x y moved distinct =
    let once = AreDistinct-without_entry es a x distinct in
    child_of-with_entry (without_entry (without_entry es a x) moved.parent moved.name) moved n y (child_of-without_entry-itself (without_entry es a x) moved.parent moved.name once)
    ∙ by (is_entry n y moved) refl once where
      by : (b : Bool) → is_entry n y moved ≡ b → AreDistinct (without_entry es a x)
          → cond b (Some moved.child) (child_of (without_entry (without_entry es a x) moved.parent moved.name) n y) ≡ cond b (Some moved.child) (cond ((a == n) && same_name x y) None (child_of es n y))
      by true is once = refl
      by false is once = child_of-without_entry (without_entry es a x) moved.parent n moved.name y is ∙ taken_out es a n x y distinct

pub NamesStand-moved : (v w : Volume) (numbers : List ℕ) (s new : State) (line : ℕ) (r t : NameRow) → IsSane v → NamesStand v numbers s → row v.names line ≡ Some r → IsUsed v t.parent → w.inodes ≡ v.inodes
    → ((p : ℕ) (name : List ℕ) → child_named w.names p name ≡ leads_to t (leads_nowhere r (child_named v.names)) p name)
    → new.entries ≡ moved_entries s.entries (number numbers r.parent) r.name (record { parent = number numbers t.parent; name = t.name; child = number numbers t.child })
    → length new.nodes ≡ length s.nodes → NamesStand w numbers new
NamesStand-moved v w numbers s new line r t sane names is above same leads entries count = record {
  root = names.root;
  root_used = same_used 0 names.root_used;
  within = λ ino used. subst (λ n. number numbers ino < n) (sym count) (names.within ino (was_used ino used));
  one = λ i j i_used j_used. names.one i j (was_used i i_used) (was_used j j_used);
  names = λ p name used.
      let was = was_used p used in
      ap (option_map (number numbers)) (leads p name)
      ∙ mapped (number numbers) (is_row_entry p name (Some t)) (Some t.child) (leads_nowhere r (child_named v.names) p name)
      ∙ ap (cond (is_row_entry p name (Some t)) (Some (number numbers t.child))) (mapped (number numbers) (is_row_entry p name (Some r)) None (child_named v.names p name))
      ∙ (λ i. cond (same_key v numbers s t p name names above was i) (Some (number numbers t.child))
      (cond (same_key v numbers s r p name names (row_used v line r sane is).0 was i) None (names.names p name was i)))
      ∙ sym (ap (λ es. child_of es (number numbers p) name) entries ∙ looked_up s.entries (number numbers r.parent) (number numbers p) r.name name moved names.distinct);
  entry_parents = λ n name m led.
      by n name m (is_entry n name moved) refl
      (sym (ap (λ es. child_of es n name) entries ∙ looked_up s.entries (number numbers r.parent) n r.name name moved names.distinct) ∙ led);
  distinct =
      subst AreDistinct (sym entries)
      (AreDistinct-with_entry (without_entry (without_entry s.entries (number numbers r.parent) r.name) moved.parent moved.name) moved
      (AreDistinct-without_entry (without_entry s.entries (number numbers r.parent) r.name) moved.parent moved.name (AreDistinct-without_entry s.entries (number numbers r.parent) r.name names.distinct))
      (child_of-without_entry-itself (without_entry s.entries (number numbers r.parent) r.name) moved.parent moved.name (AreDistinct-without_entry s.entries (number numbers r.parent) r.name names.distinct)));
} where
  moved : DirEntry
  moved = record { parent = number numbers t.parent; name = t.name; child = number numbers t.child }

  same_used : (ino : ℕ) → IsUsed v ino → IsUsed w ino
  same_used ino used = subst (λ xs. is_used (inode (record v { inodes = xs }) ino).kind ≡ true) (sym same) used

  was_used : (ino : ℕ) → IsUsed w ino → IsUsed v ino
  was_used ino used = subst (λ xs. is_used (inode (record v { inodes = xs }) ino).kind ≡ true) same used

  by : (n : ℕ) (name : List ℕ) (m : ℕ) (b : Bool) → is_entry n name moved ≡ b → cond b (Some moved.child) (cond ((number numbers r.parent == n) && same_name r.name name) None (child_of s.entries n name)) ≡ Some m
      → (p : ℕ) × IsUsed w p × (number numbers p ≡ n)
  by n name m true own led = (t.parent, same_used t.parent above, (entry_of n name moved own).0)
  by n name m false own led =
      let its = names.entry_parents n name m (cond_some ((number numbers r.parent == n) && same_name r.name name) (child_of s.entries n name) m led) in
      (its.0, same_used its.0 its.1, its.2)

-- ---- a node goes that has no entries

pub NamesStand-gone : (v w : Volume) (numbers : List ℕ) (s new : State) (c : ℕ) → NamesStand v numbers s → w.names ≡ v.names → ((ino : ℕ) → ino ≢ c → inode w ino ≡ inode v ino) → (inode w c).kind ≡ Free → c ≢ 0
    → ((name : List ℕ) → child_named v.names c name ≡ None) → IsUsed v c → new.entries ≡ s.entries → length new.nodes ≡ length s.nodes → NamesStand w numbers new
NamesStand-gone v w numbers s new c names rows others free own empty gone_used entries count = record {
  root = names.root;
  root_used = still 0 (λ same. own (sym same)) names.root_used;
  within = λ ino used. subst (λ n. number numbers ino < n) (sym count) (names.within ino (was ino used));
  one = λ i j i_used j_used. names.one i j (was i i_used) (was j j_used);
  names = λ p name used. ap (λ xs. option_map (number numbers) (child_named xs p name)) rows ∙ names.names p name (was p used) ∙ ap (λ es. child_of es (number numbers p) name) (sym entries);
  entry_parents = λ n name m led.
      let led_before = ap (λ es. child_of es n name) (sym entries) ∙ led in
      let its = names.entry_parents n name m led_before in
      (its.0, still its.0 (λ same. absurd (no_entry n name m its.0 its.1 its.2 same led_before)) its.1, its.2);
  distinct = subst AreDistinct (sym entries) names.distinct;
} where
  used_not : (ino : ℕ) → IsUsed w ino → ino ≢ c
  used_not ino used same = let never : true ≡ false = sym used ∙ (ap (λ n. is_used (inode w n).kind) same ∙ ap is_used free) in cc

  was : (ino : ℕ) → IsUsed w ino → IsUsed v ino
  was ino used = ap (λ x. is_used x.kind) (sym (others ino (used_not ino used))) ∙ used

  still : (ino : ℕ) → ino ≢ c → IsUsed v ino → IsUsed w ino
  still ino other used = ap (λ x. is_used x.kind) (others ino other) ∙ used

  no_entry : (n : ℕ) (name : List ℕ) (m p : ℕ) → IsUsed v p → number numbers p ≡ n → p ≡ c → child_of s.entries n name ≡ Some m → ⊥
  no_entry n name m p used num same led =
      let none : None ≡ Some m =
      sym (ap (option_map (number numbers)) (ap (λ k. child_named v.names k name) same ∙ empty name)) ∙ (names.names p name used ∙ (ap (λ k. child_of s.entries k name) num ∙ led))
      in
      cc

-- ---- a node is made

pub NamesStand-made : (v w : Volume) (numbers after : List ℕ) (s new : State) (line : ℕ) (r : NameRow) → IsSane v → NamesStand v numbers s → line < length v.names → row v.names line ≡ None
    → child_named v.names r.parent r.name ≡ None → IsUsed v r.parent → (inode v r.child).kind ≡ Free → w.names ≡ slice_set v.names line (Some r) → ((ino : ℕ) → ino ≢ r.child → inode w ino ≡ inode v ino)
    → IsUsed w r.child → number after r.child ≡ length s.nodes → ((ino : ℕ) → ino ≢ r.child → number after ino ≡ number numbers ino)
    → new.entries ≡ with_entry s.entries (record { parent = number numbers r.parent; name = r.name; child = length s.nodes }) → length new.nodes ≡ length s.nodes + 1 → NamesStand w after new
NamesStand-made v w numbers after s new line r sane names below free_row is_new above free rows others own_used own_number other_numbers entries count = record {
  root = other_numbers 0 (λ same. never_free 0 names.root_used same) ∙ names.root;
  root_used = still 0 names.root_used;
  within = λ ino used. elim (cases_eq ino r.child) [
    | inl same ↦ omega (arith, ap (number after) same, own_number, count)
    | inr other ↦ omega (arith, other_numbers ino other, names.within ino (was ino other used), count)
  ];
  one = λ i j i_used j_used same. elim (cases_eq i r.child) [
    | inl i_own ↦ elim (cases_eq j r.child) [
      | inl j_own ↦ i_own ∙ sym j_own
      | inr j_other ↦ absurd (omega (arith, same, ap (number after) i_own, own_number, other_numbers j j_other, names.within j (was j j_other j_used)))
    ]
    | inr i_other ↦ elim (cases_eq j r.child) [
      | inl j_own ↦ absurd (omega (arith, same, ap (number after) j_own, own_number, other_numbers i i_other, names.within i (was i i_other i_used)))
      | inr j_other ↦ names.one i j (was i i_other i_used) (was j j_other j_used) (sym (other_numbers i i_other) ∙ (same ∙ other_numbers j j_other))
    ]
  ];
  names = λ p name used. elim (cases_eq p r.child) [ inl own ↦ own_names p name own | inr other ↦ other_names p name other (was p other used) ];
  entry_parents = λ n name m led. parents n name m (is_entry n name entry) refl (sym (look n name) ∙ led);
  distinct = subst AreDistinct (sym entries) (AreDistinct-with_entry s.entries entry names.distinct entry_new);
} where
  entry : DirEntry
  entry = record { parent = number numbers r.parent; name = r.name; child = length s.nodes }

  entry_new : child_of s.entries entry.parent entry.name ≡ None
  entry_new = sym (names.names r.parent r.name above) ∙ ap (option_map (number numbers)) is_new

  look : (n : ℕ) (name : List ℕ) → child_of new.entries n name ≡ cond (is_entry n name entry) (Some entry.child) (child_of s.entries n name)
  look n name = ap (λ es. child_of es n name) entries ∙ child_of-with_entry s.entries entry n name entry_new

  never_free : (ino : ℕ) → IsUsed v ino → ino ≡ r.child → ⊥
  never_free ino used same = let never : true ≡ false = sym used ∙ (ap (λ n. is_used (inode v n).kind) same ∙ ap is_used free) in cc

  was : (ino : ℕ) → ino ≢ r.child → IsUsed w ino → IsUsed v ino
  was ino other used = ap (λ x. is_used x.kind) (sym (others ino other)) ∙ used

  still : (ino : ℕ) → IsUsed v ino → IsUsed w ino
  still ino used = ap (λ x. is_used x.kind) (others ino (never_free ino used)) ∙ used

  rows_look : (p : ℕ) (name : List ℕ) → child_named w.names p name ≡ leads_to r (child_named v.names) p name
  rows_look p name = ap (λ xs. child_named xs p name) rows ∙ names-taken v.names line r p name below free_row is_new

  same_numbers : (p : ℕ) (name : List ℕ) (o : Option ℕ) → child_named v.names p name ≡ o → option_map (number after) o ≡ option_map (number numbers) o
  same_numbers p name None is = refl
  same_numbers p name (Some c) is = ap (λ (n : ℕ). Some n) (other_numbers c (never_free c (child_used v sane p name c is)))

  other_names : (p : ℕ) (name : List ℕ) → p ≢ r.child → IsUsed v p → option_map (number after) (child_named w.names p name) ≡ child_of new.entries (number after p) name
  other_names p name other used =
      ap (option_map (number after)) (rows_look p name)
      ∙ mapped (number after) (is_row_entry p name (Some r)) (Some r.child) (child_named v.names p name)
      ∙ (λ i. cond (same_key v numbers s r p name names above used i) (Some (own_number i)) ((same_numbers p name (child_named v.names p name) refl ∙ names.names p name used) i))
      ∙ sym (ap (λ n. child_of new.entries n name) (other_numbers p other) ∙ look (number numbers p) name)

  nothing_below : (name : List ℕ) (o : Option ℕ) → child_named v.names r.child name ≡ o → o ≡ None
  nothing_below name None is = refl
  nothing_below name (Some c) is = absurd (never_free r.child (parent_used v sane r.child name c is) refl)

  no_entries : (name : List ℕ) (o : Option ℕ) → child_of s.entries (length s.nodes) name ≡ o → o ≡ None
  no_entries name None is = refl
  no_entries name (Some m) is =
      let its = names.entry_parents (length s.nodes) name m is in
      absurd (omega (arith, names.within its.0 its.1, its.2))

  own_names : (p : ℕ) (name : List ℕ) → p ≡ r.child → option_map (number after) (child_named w.names p name) ≡ child_of new.entries (number after p) name
  own_names p name own =
      let apart : r.parent ≢ r.child = never_free r.parent above in
      let left : child_named w.names p name ≡ None =
      ap (λ n. child_named w.names n name) own ∙ (rows_look r.child name ∙ (ap (λ b. cond (b && same_name r.name name) (Some r.child) (child_named v.names r.child name)) (ne_eqb r.parent r.child apart) ∙ nothing_below name (child_named v.names r.child name) refl))
      in
      let far : number numbers r.parent ≢ length s.nodes = λ same. (let low = names.within r.parent above in omega (arith, same, low)) in
      let right : child_of new.entries (number after p) name ≡ None =
      ap (λ n. child_of new.entries n name) (ap (number after) own ∙ own_number)
      ∙ (look (length s.nodes) name ∙ (ap (λ b. cond (b && same_name r.name name) (Some entry.child) (child_of s.entries (length s.nodes) name)) (ne_eqb (number numbers r.parent) (length s.nodes) far) ∙ no_entries name (child_of s.entries (length s.nodes) name) refl))
      in
      ap (option_map (number after)) left ∙ sym right

  parents : (n : ℕ) (name : List ℕ) (m : ℕ) (b : Bool) → is_entry n name entry ≡ b → cond b (Some entry.child) (child_of s.entries n name) ≡ Some m → (p : ℕ) × IsUsed w p × (number after p ≡ n)
  parents n name m true own led = (r.parent, still r.parent above, other_numbers r.parent (never_free r.parent above) ∙ (entry_of n name entry own).0)
  parents n name m false own led =
      let its = names.entry_parents n name m led in
      (its.0, still its.0 its.1, other_numbers its.0 (never_free its.0 its.1) ∙ its.2)
