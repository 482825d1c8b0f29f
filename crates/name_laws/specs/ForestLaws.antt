-- Laws of going up, and of trees of names, where one line is taken, freed or moved.
use Rattle.std.specs.Prelude.{◌≡◌, ◌≢◌, ◌⊎◌, ℕ, zero, suc, ◌+◌, ◌<◌, Bool, length, true, false, slice_set, Option, Some, None, option_and_then, refl}
use Rattle.std.proofs.Common.{arith, ap, sym, ◌∙◌, subst, inl, inr}
use Rattle.std.proofs.lemmas.Bool.{both_ways, cases_Bool, cases_eq, eq-eqb, ne_eqb}
use Rattle.std.proofs.lemmas.Option.{option_and_then_some, same_Some}
use Rattle.volume_laws.specs.layout_model.Lines.{NameRow}
use Rattle.volume_laws.specs.layout_model.Names.{Rows, row, is_below_parent, is_entry, is_child, names_of, has_entries, parent_of, up}
use Rattle.volume_laws.specs.layout_model.TableLaws.{NamingLine-parent_of}
use Rattle.volume_laws.specs.layout_model.Tables.{IsAcyclic}
use Rattle.volume_laws.specs.layout_model.UpLaws.{HasOneNameEach, up-add, IsAcyclic-from_up}
use Rattle.name_laws.specs.Forests.{EndsUpwards, IsForest, SameAbove, DoesNotMeet, MeetsFirst}
use Rattle.name_laws.specs.RowLaws.{has_entries-line, has_entries-none, names_of-one_line}
use Rattle.name_laws.specs.SetLaws.{row-cases, row-freed, keyed-set, keyed-freed, names_of-taken, names_of-freed, names_of-moved, has_entries-taken_other, has_entries-freed_other, parent_of-taken_other, parent_of-freed_other, parent_of-moved_other, parent_of-taken, parent_of-moved}
use Rattle.volume_laws.specs.Lists.{one_if}

-- ---- a tree of names is what a table of names asks for

-- what is no directory has no entries
pub forest-plain : (directory : ℕ → Bool) (rows : Rows) (ino : ℕ) → IsForest directory rows → directory ino ≡ false
    → has_entries rows ino ≡ false
forest-plain directory rows ino forest plain = has_entries-none rows ino (λ k. by k (row rows k) refl)
  where
    by : (k : ℕ) (o : Option NameRow) → row rows k ≡ o → is_below_parent ino (row rows k) ≡ false
    by k None is = ap (is_below_parent ino) is
    by k (Some r) is =
        ap (is_below_parent ino) is
        ∙ ne_eqb r.parent ino (λ e. both_ways (directory ino) plain (sym (ap directory e) ∙ forest.parents k r is))

-- what has entries is a directory
pub forest-directory : (directory : ℕ → Bool) (rows : Rows) (ino : ℕ) → IsForest directory rows → has_entries rows ino ≡ true
    → directory ino ≡ true
forest-directory directory rows ino forest some = elim (cases_Bool (directory ino)) [
  | inl is ↦ is
  | inr plain ↦ absurd (both_ways (has_entries rows ino) (forest-plain directory rows ino forest plain) some)
]

pub forest-one_name_each : (directory : ℕ → Bool) (rows : Rows) → IsForest directory rows → HasOneNameEach rows
forest-one_name_each directory rows forest = record {
  one_line = λ j k r s is_r is_s same entries.
      let some : has_entries rows s.child ≡ true = sym (ap (has_entries rows) same) ∙ entries in
      names_of-one_line rows s.child j k (forest.one_name s.child (forest-directory directory rows s.child forest some))
      (ap (is_child s.child) is_r ∙ eq-eqb r.child s.child same) (ap (is_child s.child) is_s ∙ eq-eqb s.child s.child refl);
}

pub forest-acyclic : (directory : ℕ → Bool) (rows : Rows) → IsForest directory rows → IsAcyclic rows
forest-acyclic directory rows forest = IsAcyclic-from_up rows (forest-one_name_each directory rows forest) forest.ends

-- ---- going up

-- the first step
pub up-parent : (rows : Rows) (n ino p : ℕ) → parent_of rows ino ≡ Some p → up rows (suc n) ino ≡ up rows n p
unfolding up
up-parent rows n ino p is = ap (option_and_then (up rows n)) is

pub up-top : (rows : Rows) (n ino : ℕ) → parent_of rows ino ≡ None → up rows (suc n) ino ≡ None
unfolding up
up-top rows n ino is = ap (option_and_then (up rows n)) is

-- the directory above an inode has an entry
pub parent-has_entries : (rows : Rows) (ino p : ℕ) → parent_of rows ino ≡ Some p → has_entries rows p ≡ true
parent-has_entries rows ino p is =
    let line = NamingLine-parent_of rows ino p is in
    has_entries-line rows p line.1.line line.1.at line.1.is line.1.parent_is

-- Where the directory above is the same of every inode but one, going up is the same, as long as that one is not met.
pub up-unmoved : (rows others : Rows) (child n ino : ℕ) → SameAbove child rows others → DoesNotMeet rows child n ino
    → up others n ino ≡ up rows n ino
unfolding up
up-unmoved rows others child zero ino same never = refl
up-unmoved rows others child (suc n) ino same never =
    let apart : ino ≢ child = λ e. never 0 (omega arith) (ap (λ (i : ℕ). Some i) e) in
    by (parent_of rows ino) refl (same ino apart)
    (λ p is. up-unmoved rows others child n p same
    (λ m below meets. never (suc m) (omega arith) (ap (option_and_then (up rows m)) is ∙ meets)))
  where
    by : (o : Option ℕ) → parent_of rows ino ≡ o → parent_of others ino ≡ parent_of rows ino
        → ((p : ℕ) → parent_of rows ino ≡ Some p → up others n p ≡ up rows n p)
        → option_and_then (up others n) (parent_of others ino) ≡ option_and_then (up rows n) (parent_of rows ino)
    by None is stays later = ap (option_and_then (up others n)) (stays ∙ is) ∙ sym (ap (option_and_then (up rows n)) is)
    by (Some p) is stays later = ap (option_and_then (up others n)) (stays ∙ is) ∙ later p is ∙ sym (ap (option_and_then (up rows n)) is)

-- so it is not met in the other table either, or met at the same step
pub unmoved-meets : (rows others : Rows) (child n ino : ℕ) → SameAbove child rows others
    → DoesNotMeet rows child n ino → DoesNotMeet others child n ino
unmoved-meets rows others child n ino same never m below meets =
    never m below (sym (up-unmoved rows others child m ino same (λ k less. never k (omega arith))) ∙ meets)

-- An inode without entries is met from no other.
pub empty-not_met : (rows : Rows) (child n ino : ℕ) → has_entries rows child ≡ false → ino ≢ child
    → DoesNotMeet rows child n ino
unfolding up
empty-not_met rows child n ino empty apart zero below meets = apart (same_Some ino child meets)
empty-not_met rows child n ino empty apart (suc m) below meets =
    option_and_then_some (up rows m) (parent_of rows ino) child meets (λ p is_parent is_met.
    empty-not_met rows child n p empty
    (λ e. both_ways (has_entries rows child) empty
    (subst (λ i. has_entries rows i ≡ true) e (parent-has_entries rows ino p is_parent))) m (omega arith) is_met)

-- going up from every other inode is the same, where one without entries gets a name, or loses it
pub up-empty : (rows others : Rows) (child n ino : ℕ) → SameAbove child rows others → has_entries rows child ≡ false
    → ino ≢ child → up others n ino ≡ up rows n ino
up-empty rows others child n ino same empty apart =
    up-unmoved rows others child n ino same (empty-not_met rows child n ino empty apart)

-- so it is when a free line is taken for a node without entries, and when the line of one is freed
pub up-taken : (rows : Rows) (line : ℕ) (r : NameRow) (n ino : ℕ) → row rows line ≡ None
    → has_entries rows r.child ≡ false → ino ≢ r.child → up (slice_set rows line (Some r)) n ino ≡ up rows n ino
up-taken rows line r n ino free empty apart =
    up-empty rows (slice_set rows line (Some r)) r.child n ino
    (λ i other. parent_of-taken_other rows line r i free (λ e. other (sym e))) empty apart

pub up-freed : (rows : Rows) (line : ℕ) (r : NameRow) (n ino : ℕ) → row rows line ≡ Some r
    → has_entries rows r.child ≡ false → ino ≢ r.child → up (slice_set rows line None) n ino ≡ up rows n ino
up-freed rows line r n ino is empty apart =
    up-empty rows (slice_set rows line None) r.child n ino
    (λ i other. parent_of-freed_other rows line r i is (λ e. other (sym e))) empty apart

-- from the new node one goes up by the directory of its line
pub up-taken_child : (rows : Rows) (line : ℕ) (r : NameRow) (n : ℕ) → line < length rows → row rows line ≡ None
    → names_of rows r.child ≡ 0 → has_entries rows r.child ≡ false → r.parent ≢ r.child
    → up (slice_set rows line (Some r)) (suc n) r.child ≡ up rows n r.parent
up-taken_child rows line r n within free unnamed empty apart =
    up-parent (slice_set rows line (Some r)) n r.child r.parent (parent_of-taken rows line r within free unnamed)
    ∙ up-taken rows line r n r.parent free empty apart

-- within n steps one meets it, or does not
pub meets-or_not : (rows : Rows) (child n ino : ℕ)
    → ((m : ℕ) × (m < n) × MeetsFirst rows child m ino) ⊎ DoesNotMeet rows child n ino
meets-or_not rows child zero ino = inr (λ m below. absurd (omega arith))
meets-or_not rows child (suc n) ino = elim (meets-or_not rows child n ino) [
  | inl met ↦ inl (met.0, omega (arith, met.1), met.2)
  | inr never ↦ by (up rows n ino) refl never
]
  where
    by : (o : Option ℕ) → up rows n ino ≡ o → DoesNotMeet rows child n ino
        → ((m : ℕ) × (m < suc n) × MeetsFirst rows child m ino) ⊎ DoesNotMeet rows child (suc n) ino
    by None is never = inr (λ m below meets. elim (cases_eq m n) [
      | inl same ↦ let none : up rows m ino ≡ None = ap (λ k. up rows k ino) same ∙ is in absurd (cc)
      | inr apart ↦ never m (omega arith) meets
    ])
    by (Some i) is never = elim (cases_eq i child) [
      | inl here ↦ inl (n, omega arith, record { at = is ∙ ap (λ (j : ℕ). Some j) here; before = never })
      | inr elsewhere ↦ inr (λ m below meets. elim (cases_eq m n) [
        | inl same ↦ elsewhere (same_Some i child (sym is ∙ ap (λ k. up rows k ino) (sym same) ∙ meets))
        | inr apart ↦ never m (omega arith) meets
      ])
    ]

-- Going up from below one whose directory changes, one comes to it as before, and goes on from its new directory.
pub up-moved : (rows others : Rows) (child p m n ino : ℕ) → SameAbove child rows others
    → parent_of others child ≡ Some p → MeetsFirst rows child m ino → up others (m + suc n) ino ≡ up others n p
up-moved rows others child p m n ino same is met =
    up-add others m (suc n) ino
    ∙ ap (option_and_then (up others (suc n))) (up-unmoved rows others child m ino same met.before ∙ met.at)
    ∙ up-parent others n child p is

-- ---- ends

-- going up comes to an end still, where one inode without entries gets a name, or loses it
pub ends-empty : (rows others : Rows) (child : ℕ) → SameAbove child rows others → has_entries rows child ≡ false
    → has_entries others child ≡ false → EndsUpwards rows → EndsUpwards others
ends-empty rows others child same empty still ends ino = elim (cases_eq ino child) [
  | inl here ↦ subst (λ i. (n : ℕ) × (up others n i ≡ None)) (sym here) (its_own (parent_of others child) refl)
  | inr apart ↦ other ino apart
]
  where
    other : (i : ℕ) → i ≢ child → (n : ℕ) × (up others n i ≡ None)
    other i apart = let end : (n : ℕ) × (up rows n i ≡ None) = ends i in (end.0, up-empty rows others child end.0 i same empty apart ∙ end.1)

    its_own : (o : Option ℕ) → parent_of others child ≡ o → (n : ℕ) × (up others n child ≡ None)
    its_own None is = (1, up-top others 0 child is)
    its_own (Some p) is =
        let apart : p ≢ child = λ e. both_ways (has_entries others child) still (subst (λ i. has_entries others i ≡ true) e (parent-has_entries others child p is)) in
        let end : (n : ℕ) × (up others n p ≡ None) = other p apart in
        (suc end.0, up-parent others end.0 child p is ∙ end.1)

-- and where one goes to a directory that is not below it
pub ends-moved : (rows others : Rows) (child p : ℕ) → SameAbove child rows others → parent_of others child ≡ Some p
    → ((m : ℕ) → up rows m p ≢ Some child) → EndsUpwards rows → EndsUpwards others
ends-moved rows others child p same is outside ends ino =
    let end : (n : ℕ) × (up rows n ino ≡ None) = ends ino in
    let end_p : (n : ℕ) × (up rows n p ≡ None) = ends p in
    let above : up others end_p.0 p ≡ None = up-unmoved rows others child end_p.0 p same (λ m below. outside m) ∙ end_p.1 in
    elim (meets-or_not rows child end.0 ino) [
      | inl met ↦ (met.0 + suc end_p.0, up-moved rows others child p met.0 end_p.0 ino same is met.2 ∙ above)
      | inr never ↦ (end.0, up-unmoved rows others child end.0 ino same never ∙ end.1)
    ]

-- ---- trees

-- A line is taken in a directory for a child without entries, which has no name yet if it is a directory.
pub forest-taken : (directory : ℕ → Bool) (rows : Rows) (line : ℕ) (r : NameRow) → line < length rows → row rows line ≡ None
    → ((k : ℕ) → is_entry r.parent r.name (row rows k) ≡ false) → directory r.parent ≡ true
    → (directory r.child ≡ true → names_of rows r.child ≡ 0) → has_entries rows r.child ≡ false → r.parent ≢ r.child
    → IsForest directory rows → IsForest directory (slice_set rows line (Some r))
forest-taken directory rows line r within free new above unnamed empty apart forest = record {
  keyed = keyed-set rows line r forest.keyed
      (λ k entry. absurd (both_ways (is_entry r.parent r.name (row rows k)) (new k) entry));
  parents = λ k t is. elim (row-cases rows line r k t within is) [
    | inl same ↦ ap (λ (x : NameRow). directory x.parent) (sym same) ∙ above
    | inr other ↦ forest.parents k t other.1
  ];
  one_name = λ ino is. elim (cases_eq r.child ino) [
    | inl same ↦
        let none : names_of rows r.child ≡ 0 = unnamed (ap directory same ∙ is) in
        omega (arith, names_of-taken rows line r ino within free, ap (names_of rows) same, none, ap one_if (eq-eqb r.child ino same))
    | inr other ↦
        omega (arith, names_of-taken rows line r ino within free, forest.one_name ino is, ap one_if (ne_eqb r.child ino other))
  ];
  ends = ends-empty rows (slice_set rows line (Some r)) r.child
      (λ ino other. parent_of-taken_other rows line r ino free (λ e. other (sym e))) empty
      (has_entries-taken_other rows line r r.child free apart ∙ empty) forest.ends;
}

-- A line is freed of a child without entries.
pub forest-freed : (directory : ℕ → Bool) (rows : Rows) (line : ℕ) (r : NameRow) → line < length rows → row rows line ≡ Some r
    → has_entries rows r.child ≡ false → IsForest directory rows → IsForest directory (slice_set rows line None)
forest-freed directory rows line r within is empty forest =
    let apart : r.parent ≢ r.child = λ e. both_ways (has_entries rows r.child) empty (has_entries-line rows r.child line r is e) in
    record {
      keyed = keyed-freed rows line forest.keyed;
      parents = λ k t there. forest.parents k t (row-freed rows line k t there).1;
      one_name = λ ino its. omega (arith, names_of-freed rows line r ino within is, forest.one_name ino its);
      ends = ends-empty rows (slice_set rows line None) r.child
          (λ ino other. parent_of-freed_other rows line r ino is (λ e. other (sym e))) empty
          (has_entries-freed_other rows line r r.child is apart ∙ empty) forest.ends;
    }

-- A line goes over to another parent or name of its child, to a directory that is not below the child.
pub forest-moved : (directory : ℕ → Bool) (rows : Rows) (line : ℕ) (r s : NameRow) → line < length rows → row rows line ≡ Some r
    → s.child ≡ r.child → ((k : ℕ) → is_entry s.parent s.name (row rows k) ≡ true → k ≡ line) → directory s.parent ≡ true
    → ((m : ℕ) → up rows m s.parent ≢ Some r.child) → IsForest directory rows → IsForest directory (slice_set rows line (Some s))
forest-moved directory rows line r s within is same new above outside forest = record {
  keyed = keyed-set rows line s forest.keyed new;
  parents = parents;
  one_name = λ ino its. omega (arith, names_of-moved rows line r s ino within is same, forest.one_name ino its);
  ends = elim (cases_Bool (directory r.child)) [
    | inl its ↦
        ends-moved rows moved r.child s.parent above_same
        (ap (parent_of moved) (sym same) ∙ parent_of-moved rows line r s within is same (forest.one_name r.child its))
        outside forest.ends
    | inr plain ↦
        ends-empty rows moved r.child above_same (forest-plain directory rows r.child forest plain)
        (has_entries-none moved r.child (λ k. by k (row moved k) refl plain)) forest.ends
  ];
}
  where
    moved : Rows
    moved = slice_set rows line (Some s)

    above_same : SameAbove r.child rows moved
    above_same ino other = parent_of-moved_other rows line r s ino is same (λ e. other (sym e))

    parents : (k : ℕ) (t : NameRow) → row moved k ≡ Some t → directory t.parent ≡ true
    parents k t there = elim (row-cases rows line s k t within there) [
      | inl own ↦ ap (λ (x : NameRow). directory x.parent) (sym own) ∙ above
      | inr other ↦ forest.parents k t other.1
    ]

    -- nothing is below what is no directory
    by : (k : ℕ) (o : Option NameRow) → row moved k ≡ o → directory r.child ≡ false → is_below_parent r.child (row moved k) ≡ false
    by k None there plain = ap (is_below_parent r.child) there
    by k (Some t) there plain =
        ap (is_below_parent r.child) there
        ∙ ne_eqb t.parent r.child (λ e. both_ways (directory r.child) plain (sym (ap directory e) ∙ parents k t there))
