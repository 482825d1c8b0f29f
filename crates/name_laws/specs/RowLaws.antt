-- Laws of look-ups by line: which line is found, and what a look-up finds after one line was set.
use Rattle.std.specs.Prelude.{◌≡◌, ◌≢◌, ℕ, zero, suc, ◌+◌, ◌<◌, ◌≤◌, [], ◌∷◌, length, Bool, true, false, cond, ◌||◌, slice_set, slice_index_or, Option, Some, None, refl}
use Rattle.std.specs.List.{list_any}
use Rattle.std.proofs.Common.{arith, ap, sym, ◌∙◌, inl, inr, zero-add}
use Rattle.std.proofs.lemmas.Bool.{both_ways, cases_lt, cases_order, cond-true, cond-false, eq-eqb, false_from_ne_true}
use Rattle.std.proofs.lemmas.List.{get_or_default, get_or_past}
use Rattle.std.proofs.lemmas.List.Folds.{list_any_at, Any-from_list_any}
use Rattle.volume_laws.specs.layout_model.Lines.{NameRow}
use Rattle.volume_laws.specs.layout_model.Names.{Rows, row, first_row_from, is_child, is_below_parent, names_of, has_entries}
use Rattle.volume_laws.specs.layout_model.Tables.{IsFirstRow}
use Rattle.volume_laws.specs.Lists.{count_by-at, count_by-two, count_by-some}

-- ---- which line is found

-- a row that is there is in a line of the table
pub row-below : (rows : Rows) (k : ℕ) (r : NameRow) → row rows k ≡ Some r → k < length rows
row-below rows k r is = elim (cases_lt k (length rows)) [
  | inl below ↦ below
  | inr past ↦ let none : row rows k ≡ None = get_or_past rows k None past in absurd (cc)
]

-- so is a line that passes a test which no free line passes
pub row-within : (rows : Rows) (k : ℕ) (test : Option NameRow → Bool) → test None ≡ false → test (row rows k) ≡ true
    → k < length rows
row-within rows k test fails pass = elim (cases_lt k (length rows)) [
  | inl below ↦ below
  | inr past ↦ absurd (both_ways (test None) fails (ap test (sym (get_or_past rows k None past)) ∙ pass))
]

first_from : (test : Option NameRow → Bool) (n : ℕ) (rows : Rows) (k : ℕ) (r : Option NameRow)
    → IsFirstRow test rows k r → first_row_from test n rows ≡ Some (n + k, r)
first_from test n [] k r first = absurd (omega (arith, first.within))
first_from test n (o ∷ rows) zero r first =
    let here : test o ≡ true = ap test first.is ∙ first.passes in
    let at : n ≡ n + 0 = omega arith in
    cond-true (test o) (Some (n, o)) (first_row_from test (n + 1) rows) here ∙ (λ i. Some (at i, first.is i))
first_from test n (o ∷ rows) (suc k) r first =
    let rest : IsFirstRow test rows k r =
    record { within = omega (arith, first.within); is = first.is; passes = first.passes; before = λ j below. first.before (suc j) (omega arith) }
    in
    let at : n + 1 + k ≡ n + suc k = omega arith in
    cond-false (test o) (Some (n, o)) (first_row_from test (n + 1) rows) (first.before 0 (omega arith))
    ∙ first_from test (n + 1) rows k r rest ∙ (λ i. Some (at i, r))

-- the first line that passes is the one that is found
pub first_row-first : (test : Option NameRow → Bool) (rows : Rows) (k : ℕ) (r : Option NameRow)
    → IsFirstRow test rows k r → first_row_from test 0 rows ≡ Some (k, r)
first_row-first test rows k r first = first_from test 0 rows k r first ∙ (λ i. Some (zero-add k i, r))

-- and where none passes none is found
pub first_row-nothing : (test : Option NameRow → Bool) (n : ℕ) (rows : Rows) → ((k : ℕ) → test (row rows k) ≡ false)
    → first_row_from test n rows ≡ None
first_row-nothing test n [] none = refl
first_row-nothing test n (o ∷ rows) none =
    cond-false (test o) (Some (n, o)) (first_row_from test (n + 1) rows) (none 0)
    ∙ first_row-nothing test (n + 1) rows (λ k. none (suc k))

-- ---- one line is set

-- a look-up passes over a line that is set, where it fails before and after
pub first_row-past : (test : Option NameRow → Bool) (rows : Rows) (n line : ℕ) (o : Option NameRow)
    → test (row rows line) ≡ false → test o ≡ false
    → first_row_from test n (slice_set rows line o) ≡ first_row_from test n rows
first_row-past test [] n line o was is = refl
first_row-past test (x ∷ rows) n zero o was is =
    cond-false (test o) (Some (n, o)) (first_row_from test (n + 1) rows) is
    ∙ sym (cond-false (test x) (Some (n, x)) (first_row_from test (n + 1) rows) was)
first_row-past test (x ∷ rows) n (suc line) o was is =
    ap (cond (test x) (Some (n, x))) (first_row-past test rows (n + 1) line o was is)

-- whether some line passes is the same, where the line passes after as it did before
pub list_any-past : (test : Option NameRow → Bool) (rows : Rows) (line : ℕ) (o : Option NameRow)
    → test o ≡ test (row rows line) → list_any test (slice_set rows line o) ≡ list_any test rows
list_any-past test [] line o same = refl
list_any-past test (x ∷ rows) zero o same = ap (λ b. b || list_any test rows) same
list_any-past test (x ∷ rows) (suc line) o same = ap (λ b. test x || b) (list_any-past test rows line o same)

-- ---- names and entries by their lines

-- a line below a parent shows that it has entries; where it has none no line is below it
pub has_entries-line : (rows : Rows) (parent k : ℕ) (r : NameRow) → row rows k ≡ Some r → r.parent ≡ parent
    → has_entries rows parent ≡ true
has_entries-line rows parent k r is below =
    let here : is_below_parent parent (row rows k) ≡ true = ap (is_below_parent parent) is ∙ eq-eqb r.parent parent below in
    list_any_at (is_below_parent parent) rows k None (row-within rows k (is_below_parent parent) refl here) here

pub has_entries-parent : (rows : Rows) (parent k : ℕ) (r : NameRow) → has_entries rows parent ≡ false
    → row rows k ≡ Some r → r.parent ≢ parent
has_entries-parent rows parent k r none is same =
    both_ways (has_entries rows parent) none (has_entries-line rows parent k r is same)

pub has_entries-none : (rows : Rows) (parent : ℕ) → ((k : ℕ) → is_below_parent parent (row rows k) ≡ false)
    → has_entries rows parent ≡ false
has_entries-none rows parent none =
    false_from_ne_true (has_entries rows parent) (λ some.
    let any = Any-from_list_any (is_below_parent parent) rows some in
    both_ways (is_below_parent parent (row rows any.0)) (none any.0) (by any.0 any.1 any.2 any.3 any.4))
  where
    by : (k : ℕ) (o : Option NameRow) → k < length rows → slice_index_or rows k o ≡ o
        → is_below_parent parent o ≡ true → is_below_parent parent (row rows k) ≡ true
    by k o below at pass = ap (is_below_parent parent) (get_or_default rows k None o below ∙ at) ∙ pass

-- an inode that no line names has no names, and the other way round
pub names_of-none : (rows : Rows) (ino : ℕ) → ((k : ℕ) → is_child ino (row rows k) ≡ false) → names_of rows ino ≡ 0
names_of-none rows ino none = elim (cases_lt 0 (names_of rows ino)) [
  | inl some ↦
      let found = count_by-some (is_child ino) rows None some in
      absurd (both_ways (is_child ino (row rows found.0)) (none found.0) found.2)
  | inr few ↦ omega arith
]

pub names_of-zero : (rows : Rows) (ino : ℕ) → names_of rows ino ≡ 0 → (k : ℕ) → is_child ino (row rows k) ≡ false
names_of-zero rows ino none k =
    false_from_ne_true (is_child ino (row rows k))
    (λ pass. omega (arith, count_by-at (is_child ino) rows k None (row-within rows k (is_child ino) refl pass) pass))

-- an inode of one name at most has it in one line
pub names_of-one_line : (rows : Rows) (ino j k : ℕ) → names_of rows ino ≤ 1 → is_child ino (row rows j) ≡ true
    → is_child ino (row rows k) ≡ true → j ≡ k
names_of-one_line rows ino j k few first second = elim (cases_order j k) [
  | inl same ↦ same
  | inr order ↦ elim order [
    | inl before ↦ absurd (omega (arith, few, count_by-two (is_child ino) rows j k None before (row-within rows k (is_child ino) refl second) first second))
    | inr behind ↦ absurd (omega (arith, few, count_by-two (is_child ino) rows k j None behind (row-within rows j (is_child ino) refl first) second first))
  ]
]
