-- What the look-ups of a table find after one line was taken, which was free, or freed; and what they find elsewhere.
use Rattle.std.specs.Prelude.{◌≡◌, ◌≢◌, ◌⊎◌, ℕ, ◌+◌, ◌<◌, ◌≤◌, ◌==◌, List, length, true, false, cond, slice_set, Option, Some, None, option_and_then, refl}
use Rattle.std.specs.List.{count_by}
use Rattle.std.proofs.Common.{arith, ap, sym, ◌∙◌, inl, inr}
use Rattle.std.proofs.lemmas.Bool.{cases_eq, cases_lt, cases_Bool, cond-true, cond-false, eq-eqb, ne_eqb, false_from_ne_true}
use Rattle.std.proofs.lemmas.List.{length-set, set_past, get_or_past}
use Rattle.std.proofs.lemmas.Option.{same_Some}
use Rattle.volume_laws.specs.layout_model.Lines.{NameRow}
use Rattle.volume_laws.specs.layout_model.Names.{Rows, row, is_entry, is_child, is_below_parent, is_free_row, line_and_child, parent_of_row, find_name, child_named, names_of, has_entries, parent_of}
use Rattle.volume_laws.specs.layout_model.TableLaws.{is_entry-parts, is_entry-own, find_name-at, find_name-none}
use Rattle.volume_laws.specs.layout_model.Tables.{IsKeyed, IsFirstRow, NamingLine}
use Rattle.name_laws.specs.RowLaws.{row-within, first_row-first, first_row-nothing, first_row-past, list_any-past, has_entries-line, has_entries-none, names_of-zero, names_of-one_line}
use Rattle.volume_laws.specs.Changes.{row-set_same, row-set_other}
use Rattle.volume_laws.specs.Lists.{one_if, count_by-set}

-- ---- keys

-- a line that has another parent or another name is no entry of these
pub is_entry-apart : (parent : ℕ) (name : List ℕ) (r : NameRow) → (r.parent ≡ parent → r.name ≡ name → ⊥)
    → is_entry parent name (Some r) ≡ false
is_entry-apart parent name r apart =
    false_from_ne_true (is_entry parent name (Some r)) (λ entry.
    let parts = is_entry-parts parent name (Some r) entry in
    let same : Some r ≡ Some parts.0 = parts.1 in
    let is : r ≡ parts.0 = cc in
    apart (ap (λ (x : NameRow). x.parent) is ∙ parts.2) (ap (λ (x : NameRow). x.name) is ∙ parts.3))

-- no two lines of a parent and name come about where no other line has those of the line that is set
pub keyed-set : (rows : Rows) (line : ℕ) (r : NameRow) → IsKeyed rows
    → ((k : ℕ) → is_entry r.parent r.name (row rows k) ≡ true → k ≡ line) → IsKeyed (slice_set rows line (Some r))
keyed-set rows line r keyed new = record { one_line = one }
  where
    was : (parent : ℕ) (name : List ℕ) (k : ℕ) → k ≢ line
        → is_entry parent name (row (slice_set rows line (Some r)) k) ≡ true
        → is_entry parent name (row rows k) ≡ true
    was parent name k apart entry = sym (ap (is_entry parent name) (row-set_other rows line (Some r) k apart)) ∙ entry

    its_own : (parent : ℕ) (name : List ℕ) (j k : ℕ) → j ≡ line → k ≢ line
        → is_entry parent name (row (slice_set rows line (Some r)) j) ≡ true
        → is_entry parent name (row (slice_set rows line (Some r)) k) ≡ true → ⊥
    its_own parent name j k at apart first second = elim (cases_lt line (length rows)) [
      | inl within ↦
          let here : row (slice_set rows line (Some r)) j ≡ Some r = ap (row (slice_set rows line (Some r))) at ∙ row-set_same rows line (Some r) within in
          let parts = is_entry-parts parent name (Some r) (sym (ap (is_entry parent name) here) ∙ first) in
          let is : r ≡ parts.0 = same_Some r parts.0 parts.1 in
          let parent_is : parent ≡ r.parent = sym (ap (λ (x : NameRow). x.parent) is ∙ parts.2) in
          let name_is : name ≡ r.name = sym (ap (λ (x : NameRow). x.name) is ∙ parts.3) in
          apart (new k (sym (λ i. is_entry (parent_is i) (name_is i) (row rows k)) ∙ was parent name k apart second))
      | inr past ↦
          let long : length (slice_set rows line (Some r)) ≡ length rows = length-set rows line (Some r) in
          let below = row-within (slice_set rows line (Some r)) j (is_entry parent name) refl first in
          omega arith
    ]

    one : (parent : ℕ) (name : List ℕ) (j k : ℕ) → is_entry parent name (row (slice_set rows line (Some r)) j) ≡ true
        → is_entry parent name (row (slice_set rows line (Some r)) k) ≡ true → j ≡ k
    one parent name j k first second = elim (cases_eq j line) [
      | inl j_at ↦ elim (cases_eq k line) [
        | inl k_at ↦ j_at ∙ sym k_at
        | inr k_apart ↦ absurd (its_own parent name j k j_at k_apart first second)
      ]
      | inr j_apart ↦ elim (cases_eq k line) [
        | inl k_at ↦ absurd (its_own parent name k j k_at j_apart second first)
        | inr k_apart ↦ keyed.one_line parent name j k (was parent name j j_apart first) (was parent name k k_apart second)
      ]
    ]

-- a row of a table in which a line was set is the one that was set, or one of another line
pub row-cases : (rows : Rows) (line : ℕ) (s : NameRow) (k : ℕ) (t : NameRow) → line < length rows
    → row (slice_set rows line (Some s)) k ≡ Some t → (s ≡ t) ⊎ ((k ≢ line) × (row rows k ≡ Some t))
row-cases rows line s k t within is = elim (cases_eq k line) [
  | inl here ↦
      let own : row (slice_set rows line (Some s)) k ≡ Some s =
      ap (row (slice_set rows line (Some s))) here ∙ row-set_same rows line (Some s) within
      in
      let both : Some s ≡ Some t = sym own ∙ is in
      inl cc
  | inr apart ↦ inr (apart, sym (row-set_other rows line (Some s) k apart) ∙ is)
]

-- where a line is freed each line of the table is one of before
pub row-freed : (rows : Rows) (line k : ℕ) (r : NameRow) → row (slice_set rows line None) k ≡ Some r
    → (k ≢ line) × (row rows k ≡ Some r)
row-freed rows line k r is = elim (cases_eq k line) [
  | inl at ↦ elim (cases_lt line (length rows)) [
    | inl within ↦
        let here : row (slice_set rows line None) k ≡ None = ap (row (slice_set rows line None)) at ∙ row-set_same rows line None within in
        absurd (cc)
    | inr past ↦
        let same : slice_set rows line None ≡ rows = set_past rows line None past in
        let none : row rows k ≡ None = get_or_past rows k None (omega arith) in
        let here : row (slice_set rows line None) k ≡ None = ap (λ (l : Rows). row l k) same ∙ none in
        absurd (cc)
  ]
  | inr apart ↦ (apart, sym (row-set_other rows line None k apart) ∙ is)
]

pub keyed-freed : (rows : Rows) (line : ℕ) → IsKeyed rows → IsKeyed (slice_set rows line None)
keyed-freed rows line keyed = record { one_line = λ parent name j k first second. keyed.one_line parent name j k (was parent name j first) (was parent name k second) }
  where
    was : (parent : ℕ) (name : List ℕ) (k : ℕ) → is_entry parent name (row (slice_set rows line None) k) ≡ true
        → is_entry parent name (row rows k) ≡ true
    was parent name k entry =
        let parts = is_entry-parts parent name (row (slice_set rows line None) k) entry in
        let before = row-freed rows line k parts.0 parts.1 in
        ap (is_entry parent name) (before.1 ∙ sym parts.1) ∙ entry

-- ---- names that are looked up

-- a name of another line is found as before
pub find_name-past : (rows : Rows) (line : ℕ) (o : Option NameRow) (parent : ℕ) (name : List ℕ)
    → is_entry parent name (row rows line) ≡ false → is_entry parent name o ≡ false
    → find_name (slice_set rows line o) parent name ≡ find_name rows parent name
find_name-past rows line o parent name was is =
    ap (option_and_then (λ found. Some (line_and_child found))) (first_row-past (is_entry parent name) rows 0 line o was is)

pub child_named-past : (rows : Rows) (line : ℕ) (o : Option NameRow) (parent : ℕ) (name : List ℕ)
    → is_entry parent name (row rows line) ≡ false → is_entry parent name o ≡ false
    → child_named (slice_set rows line o) parent name ≡ child_named rows parent name
child_named-past rows line o parent name was is =
    ap (option_and_then (λ found. Some found.1)) (find_name-past rows line o parent name was is)

-- a name that is new is found in its line
pub find_name-set : (rows : Rows) (line : ℕ) (r : NameRow) → line < length rows → IsKeyed rows
    → ((k : ℕ) → is_entry r.parent r.name (row rows k) ≡ true → k ≡ line)
    → find_name (slice_set rows line (Some r)) r.parent r.name ≡ Some (line, r.child)
find_name-set rows line r within keyed new =
    find_name-at (slice_set rows line (Some r)) line r (keyed-set rows line r keyed new)
    (omega (arith, length-set rows line (Some r))) (row-set_same rows line (Some r) within)

pub child_named-set : (rows : Rows) (line : ℕ) (r : NameRow) → line < length rows → IsKeyed rows
    → ((k : ℕ) → is_entry r.parent r.name (row rows k) ≡ true → k ≡ line)
    → child_named (slice_set rows line (Some r)) r.parent r.name ≡ Some r.child
child_named-set rows line r within keyed new =
    ap (option_and_then (λ found. Some found.1)) (find_name-set rows line r within keyed new)

-- The same of every name at once, where the name was not found before.
pub child_named-none : (rows : Rows) (parent : ℕ) (name : List ℕ) → child_named rows parent name ≡ None → (k : ℕ)
    → is_entry parent name (row rows k) ≡ false
child_named-none rows parent name none = find_name-none rows parent name (by (find_name rows parent name) none)
  where
    by : (o : Option (ℕ × ℕ)) → option_and_then (λ found. Some found.1) o ≡ None → o ≡ None
    by None e = refl
    by (Some found) e = cc

pub child_named-taken : (rows : Rows) (line : ℕ) (r : NameRow) (parent : ℕ) (name : List ℕ) → line < length rows
    → row rows line ≡ None → (is_entry parent name (Some r) ≡ true → child_named rows parent name ≡ None)
    → child_named (slice_set rows line (Some r)) parent name ≡ cond (is_entry parent name (Some r)) (Some r.child) (child_named rows parent name)
child_named-taken rows line r parent name within free new = elim (cases_Bool (is_entry parent name (Some r))) [
  | inl entry ↦
      let others = slice_set rows line (Some r) in
      let first : IsFirstRow (is_entry parent name) others line (Some r) =
      record {
        within = omega (arith, length-set rows line (Some r));
        is = row-set_same rows line (Some r) within;
        passes = entry;
        before = λ j below. ap (is_entry parent name) (row-set_other rows line (Some r) j (λ e. omega arith)) ∙ child_named-none rows parent name (new entry) j;
      }
      in
      ap (λ o. option_and_then (λ (found : ℕ × ℕ). Some found.1)
      (option_and_then (λ (found : ℕ × Option NameRow). Some (line_and_child found)) o))
      (first_row-first (is_entry parent name) others line (Some r) first)
      ∙ sym (cond-true (is_entry parent name (Some r)) (Some r.child) (child_named rows parent name) entry)
  | inr away ↦
      child_named-past rows line (Some r) parent name (ap (is_entry parent name) free) away
      ∙ sym (cond-false (is_entry parent name (Some r)) (Some r.child) (child_named rows parent name) away)
]

-- a name whose line is freed is found no more
pub find_name-freed : (rows : Rows) (line : ℕ) (r : NameRow) → IsKeyed rows → row rows line ≡ Some r
    → find_name (slice_set rows line None) r.parent r.name ≡ None
find_name-freed rows line r keyed is =
    ap (option_and_then (λ found. Some (line_and_child found)))
    (first_row-nothing (is_entry r.parent r.name) 0 (slice_set rows line None) none)
  where
    none : (k : ℕ) → is_entry r.parent r.name (row (slice_set rows line None) k) ≡ false
    none k =
        false_from_ne_true (is_entry r.parent r.name (row (slice_set rows line None) k)) (λ entry.
        let parts = is_entry-parts r.parent r.name (row (slice_set rows line None) k) entry in
        let before = row-freed rows line k parts.0 parts.1 in
        before.0 (keyed.one_line r.parent r.name k line
        (ap (is_entry r.parent r.name) (before.1 ∙ sym parts.1) ∙ entry) (is_entry-own (row rows line) r is)))

pub child_named-freed : (rows : Rows) (line : ℕ) (r : NameRow) → IsKeyed rows → row rows line ≡ Some r
    → child_named (slice_set rows line None) r.parent r.name ≡ None
child_named-freed rows line r keyed is = ap (option_and_then (λ found. Some found.1)) (find_name-freed rows line r keyed is)

-- and every other one is found as before
pub child_named-freed_other : (rows : Rows) (line : ℕ) (parent : ℕ) (name : List ℕ)
    → is_entry parent name (row rows line) ≡ false
    → child_named (slice_set rows line None) parent name ≡ child_named rows parent name
child_named-freed_other rows line parent name away = child_named-past rows line None parent name away refl

-- a line that names a child is one still, where another line is set
pub naming_line-past : (rows : Rows) (line : ℕ) (o : Option NameRow) (parent : ℕ) (name : List ℕ) (child : ℕ) (names : NamingLine rows parent name child)
    → names.line ≢ line → NamingLine (slice_set rows line o) parent name child
naming_line-past rows line o parent name child names apart = record {
  line = names.line;
  at = names.at;
  within = omega (arith, length-set rows line o, names.within);
  is = row-set_other rows line o names.line apart ∙ names.is;
  parent_is = names.parent_is;
  name_is = names.name_is;
  child_is = names.child_is;
}

-- ---- how many names, and how many free lines

-- one more name of the child whose line is taken, as many of each other one
pub names_of-taken : (rows : Rows) (line : ℕ) (r : NameRow) (ino : ℕ) → line < length rows → row rows line ≡ None
    → names_of (slice_set rows line (Some r)) ino ≡ names_of rows ino + one_if (r.child == ino)
names_of-taken rows line r ino within free =
    omega (
      arith,
      count_by-set (is_child ino) rows line (Some r) None within,
      ap (λ (o : Option NameRow). one_if (is_child ino o)) free,
    )

-- one less where it is freed
pub names_of-freed : (rows : Rows) (line : ℕ) (r : NameRow) (ino : ℕ) → line < length rows → row rows line ≡ Some r
    → names_of (slice_set rows line None) ino + one_if (r.child == ino) ≡ names_of rows ino
names_of-freed rows line r ino within is =
    omega (arith, count_by-set (is_child ino) rows line None None within, ap (λ (o : Option NameRow). one_if (is_child ino o)) is)

-- as many where a line goes over to another row of the same child
pub names_of-moved : (rows : Rows) (line : ℕ) (r s : NameRow) (ino : ℕ) → line < length rows → row rows line ≡ Some r
    → s.child ≡ r.child → names_of (slice_set rows line (Some s)) ino ≡ names_of rows ino
names_of-moved rows line r s ino within is same =
    omega (
      arith,
      count_by-set (is_child ino) rows line (Some s) None within,
      ap (λ (o : Option NameRow). one_if (is_child ino o)) is,
      ap (λ c. one_if (c == ino)) same,
    )

pub free_lines-taken : (rows : Rows) (line : ℕ) (r : NameRow) → line < length rows → row rows line ≡ None
    → count_by is_free_row (slice_set rows line (Some r)) + 1 ≡ count_by is_free_row rows
free_lines-taken rows line r within free =
    omega (
      arith,
      count_by-set is_free_row rows line (Some r) None within,
      ap (λ (o : Option NameRow). one_if (is_free_row o)) free,
    )

pub free_lines-freed : (rows : Rows) (line : ℕ) (r : NameRow) → line < length rows → row rows line ≡ Some r
    → count_by is_free_row (slice_set rows line None) ≡ count_by is_free_row rows + 1
free_lines-freed rows line r within is =
    omega (arith, count_by-set is_free_row rows line None None within, ap (λ (o : Option NameRow). one_if (is_free_row o)) is)

-- ---- entries

-- a directory whose line is neither taken nor freed has entries where it had some
pub has_entries-past : (rows : Rows) (line : ℕ) (o : Option NameRow) (parent : ℕ)
    → is_below_parent parent o ≡ is_below_parent parent (row rows line)
    → has_entries (slice_set rows line o) parent ≡ has_entries rows parent
has_entries-past rows line o parent same = list_any-past (is_below_parent parent) rows line o same

pub has_entries-taken_other : (rows : Rows) (line : ℕ) (r : NameRow) (parent : ℕ) → row rows line ≡ None
    → r.parent ≢ parent → has_entries (slice_set rows line (Some r)) parent ≡ has_entries rows parent
has_entries-taken_other rows line r parent free apart =
    has_entries-past rows line (Some r) parent (ne_eqb r.parent parent apart ∙ sym (ap (is_below_parent parent) free))

pub has_entries-freed_other : (rows : Rows) (line : ℕ) (r : NameRow) (parent : ℕ) → row rows line ≡ Some r
    → r.parent ≢ parent → has_entries (slice_set rows line None) parent ≡ has_entries rows parent
has_entries-freed_other rows line r parent is apart =
    has_entries-past rows line None parent (sym (ap (is_below_parent parent) is ∙ ne_eqb r.parent parent apart))

-- a directory in which a line is taken has an entry; one that has another line keeps it
pub has_entries-taken : (rows : Rows) (line : ℕ) (r : NameRow) → line < length rows
    → has_entries (slice_set rows line (Some r)) r.parent ≡ true
has_entries-taken rows line r within =
    has_entries-line (slice_set rows line (Some r)) r.parent line r (row-set_same rows line (Some r) within) refl

pub has_entries-kept : (rows : Rows) (line : ℕ) (o : Option NameRow) (parent k : ℕ) (r : NameRow) → k ≢ line
    → row rows k ≡ Some r → r.parent ≡ parent → has_entries (slice_set rows line o) parent ≡ true
has_entries-kept rows line o parent k r apart is below =
    has_entries-line (slice_set rows line o) parent k r (row-set_other rows line o k apart ∙ is) below

-- one whose last entry is freed has none
pub has_entries-emptied : (rows : Rows) (line parent : ℕ)
    → ((k : ℕ) (r : NameRow) → k ≢ line → row rows k ≡ Some r → r.parent ≢ parent)
    → has_entries (slice_set rows line None) parent ≡ false
has_entries-emptied rows line parent last =
    has_entries-none (slice_set rows line None) parent (λ k. by k (row (slice_set rows line None) k) refl)
  where
    by : (k : ℕ) (o : Option NameRow) → row (slice_set rows line None) k ≡ o → is_below_parent parent o ≡ false
    by k None is = refl
    by k (Some r) is = let before = row-freed rows line k r is in ne_eqb r.parent parent (last k r before.0 before.1)

-- ---- the directory above

-- of a child that another line names it is as before
pub parent_of-past : (rows : Rows) (line : ℕ) (o : Option NameRow) (ino : ℕ) → is_child ino (row rows line) ≡ false
    → is_child ino o ≡ false → parent_of (slice_set rows line o) ino ≡ parent_of rows ino
parent_of-past rows line o ino was is =
    ap (option_and_then (λ found. Some (parent_of_row found.1))) (first_row-past (is_child ino) rows 0 line o was is)

pub parent_of-taken_other : (rows : Rows) (line : ℕ) (r : NameRow) (ino : ℕ) → row rows line ≡ None → r.child ≢ ino
    → parent_of (slice_set rows line (Some r)) ino ≡ parent_of rows ino
parent_of-taken_other rows line r ino free apart =
    parent_of-past rows line (Some r) ino (ap (is_child ino) free) (ne_eqb r.child ino apart)

pub parent_of-freed_other : (rows : Rows) (line : ℕ) (r : NameRow) (ino : ℕ) → row rows line ≡ Some r → r.child ≢ ino
    → parent_of (slice_set rows line None) ino ≡ parent_of rows ino
parent_of-freed_other rows line r ino is apart =
    parent_of-past rows line None ino (ap (is_child ino) is ∙ ne_eqb r.child ino apart) refl

pub parent_of-moved_other : (rows : Rows) (line : ℕ) (r s : NameRow) (ino : ℕ) → row rows line ≡ Some r
    → s.child ≡ r.child → r.child ≢ ino → parent_of (slice_set rows line (Some s)) ino ≡ parent_of rows ino
parent_of-moved_other rows line r s ino is same apart =
    parent_of-past rows line (Some s) ino (ap (is_child ino) is ∙ ne_eqb r.child ino apart)
    (ne_eqb s.child ino (λ e. apart (sym same ∙ e)))

-- of a child without a name there is none; of one with one name it is that line's, entries below it or not
pub parent_of-none : (rows : Rows) (ino : ℕ) → names_of rows ino ≡ 0 → parent_of rows ino ≡ None
parent_of-none rows ino none =
    ap (option_and_then (λ found. Some (parent_of_row found.1)))
    (first_row-nothing (is_child ino) 0 rows (names_of-zero rows ino none))

pub parent_of-one_name : (rows : Rows) (line : ℕ) (r : NameRow) → names_of rows r.child ≤ 1 → row rows line ≡ Some r
    → parent_of rows r.child ≡ Some r.parent
parent_of-one_name rows line r few is =
    let pass : is_child r.child (row rows line) ≡ true = ap (is_child r.child) is ∙ eq-eqb r.child r.child refl in
    let within : line < length rows = row-within rows line (is_child r.child) refl pass in
    let first : IsFirstRow (is_child r.child) rows line (Some r) =
    record {
      within = within;
      is = is;
      passes = eq-eqb r.child r.child refl;
      before = λ j below. false_from_ne_true (is_child r.child (row rows j)) (λ also. omega (arith, below, names_of-one_line rows r.child j line few also pass));
    }
    in
    ap (option_and_then (λ found. Some (parent_of_row found.1))) (first_row-first (is_child r.child) rows line (Some r) first)

pub parent_of-taken : (rows : Rows) (line : ℕ) (r : NameRow) → line < length rows → row rows line ≡ None
    → names_of rows r.child ≡ 0 → parent_of (slice_set rows line (Some r)) r.child ≡ Some r.parent
parent_of-taken rows line r within free none =
    parent_of-one_name (slice_set rows line (Some r)) line r
    (omega (arith, names_of-taken rows line r r.child within free, none, ap one_if (eq-eqb r.child r.child refl)))
    (row-set_same rows line (Some r) within)

pub parent_of-freed : (rows : Rows) (line : ℕ) (r : NameRow) → line < length rows → row rows line ≡ Some r
    → names_of rows r.child ≤ 1 → parent_of (slice_set rows line None) r.child ≡ None
parent_of-freed rows line r within is few =
    parent_of-none (slice_set rows line None) r.child
    (omega (arith, names_of-freed rows line r r.child within is, few, ap one_if (eq-eqb r.child r.child refl)))

pub parent_of-moved : (rows : Rows) (line : ℕ) (r s : NameRow) → line < length rows → row rows line ≡ Some r
    → s.child ≡ r.child → names_of rows r.child ≤ 1 → parent_of (slice_set rows line (Some s)) s.child ≡ Some s.parent
parent_of-moved rows line r s within is same few =
    let few_s : names_of rows s.child ≤ 1 = rw same few in
    parent_of-one_name (slice_set rows line (Some s)) line s
    (omega (arith, names_of-moved rows line r s s.child within is same, few_s)) (row-set_same rows line (Some s) within)
