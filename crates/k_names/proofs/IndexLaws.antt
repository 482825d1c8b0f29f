-- An index of a table agrees with its lines: at first, when a line changes, and in look-ups.
use Rattle.std.proofs.Common.{◌≡◌, ◌≢◌, ℕ, ◌+◌, ◌-◌, ◌^◌, ◌<◌, ◌≤◌, ◌∙◌, sym, ap, below_more, subst, List, length, replicate, arith, inl, inr, refl, zero, suc, ◌∷◌, [], Bool, true, false, cond, Option, Some, None, ◌++◌, take}
use Rattle.std.proofs.lemmas.Bool.{both_ways, cases_eq, cases_lt, eqb-true, false_from_ne_true}
use Rattle.std.proofs.lemmas.List.{append-nil, flat_map_more, get_or_past, get_or-replicate, get_or-set_other, get_or-set_same, length-replicate, length-set, take_all, take_more}
use Rattle.std.specs.Prelude.{option_and_then, slice_set}
use Rattle.layout_model.specs.Lines.{NameRow}
use Rattle.layout_model.specs.Names.{Rows, child_of_row, find_name, first_row_from, free_line, is_below_parent, is_child, is_entry, is_free_row, line_and_child, parent_of, parent_of_row, row}
use Rattle.layout_model.specs.RowLaws.{first_row-is, first_row-none}
use Rattle.layout_model.specs.TableLaws.{is_child-parts, is_entry-parts}
use Rattle.layout_model.specs.Tables.{IsFirstRow, IsKeyed, name_below, names_below}
use Rattle.k_names.specs.Finding.{IsRow}
use Rattle.k_names.specs.Indexes.{AreBlank, Has, HasNoLine, IsChanged, IsIndex, IsLineOf, IsNextLine, child_word_of, name_word, name_word_of, no_word, pair_of, parent_word_of}

-- pairs of lines of 32 bits are the same only where words and lines are
same_pair : (word line other k : ℕ) → line < 4294967296 → k < 4294967296 → pair_of word line ≡ pair_of other k → (word ≡ other) × (line ≡ k)
same_pair word line other k small k_small same = (omega arith, omega arith)

-- where all lines are free
blank-row : (lines k : ℕ) → row (replicate lines None) k ≡ None
blank-row lines k = elim (cases_lt k lines) [
  | inl below ↦ get_or-replicate lines k None None below
  | inr past ↦ get_or_past (replicate lines None) k None (omega (arith, past, length-replicate {A = Option NameRow} lines None))
]

pub blank-keyed : (lines : ℕ) → IsKeyed (replicate lines None)
blank-keyed lines = record {
  one_line = λ parent name j k h g.
      let never : false ≡ true = sym (ap (is_entry parent name) (blank-row lines j)) ∙ h in cc;
}

pub blank-index : (word : Option NameRow → ℕ) (lines : ℕ) (pairs : List ℕ) → word None ≡ no_word → AreBlank pairs lines → IsIndex word (replicate lines None) pairs
blank-index word lines pairs free blank = record {
  has = λ k inside.
      let below : k < lines = omega (arith, inside, length-replicate {A = Option NameRow} lines None) in
      record { at = k; within = omega (arith, below, blank.size); is = blank.each k below ∙ ap (λ w. pair_of w k) (sym (word_at k below)) };
  only = λ pair h.
      let below : h.at < lines = omega (arith, h.within, blank.size) in
      record {
        line = h.at;
        within = omega (arith, below, length-replicate {A = Option NameRow} lines None);
        is = sym h.is ∙ blank.each h.at below ∙ ap (λ w. pair_of w h.at) (sym (word_at h.at below));
      };
}
  where
    word_at : (k : ℕ) → k < lines → word (row (replicate lines None) k) ≡ no_word
    word_at k below = ap word (blank-row lines k) ∙ free

module _ (word : Option NameRow → ℕ) (rows : Rows) (pairs : List ℕ) (small : length rows < 2 ^ 32) (index : IsIndex word rows pairs) where
  -- a pair of a line has the word of its row
  pub word-of_pair : (w line : ℕ) → line < 4294967296 → Has pairs (pair_of w line) → (line < length rows) × (word (row rows line) ≡ w)
  word-of_pair w line fits h =
      let own = index.only (pair_of w line) h in
      let size : length rows < 4294967296 = small in
      let same = same_pair w line (word (row rows own.line)) own.line fits (omega (arith, own.within, size)) own.is in
      (omega (arith, same.1, own.within), ap (λ k. word (row rows k)) same.1 ∙ sym same.0)

  pub next-within : (w from line : ℕ) → IsNextLine pairs w from line → line < length rows
  next-within w from line next =
      let fits : line < 4294967296 = next.fits in
      (word-of_pair w line fits next.has).0

  -- a line gets another row
  pub changed-index : (line : ℕ) (r : Option NameRow) (new : List ℕ) → line < length rows → IsChanged pairs (pair_of (word (row rows line)) line) (pair_of (word r) line) new → IsIndex word (slice_set rows line r) new
  changed-index line r new within changed = record { has = has; only = only }
    where
      after : Rows
      after = slice_set rows line r

      size : length rows < 4294967296
      size = small

      count : length (slice_set rows line r) ≡ length rows
      count = length-set rows line r

      own_row : row (slice_set rows line r) line ≡ r
      own_row = get_or-set_same rows line r None within

      other_row : (k : ℕ) → k ≢ line → row (slice_set rows line r) k ≡ row rows k
      other_row k apart = get_or-set_other rows line k r None apart

      has : (k : ℕ) → k < length (slice_set rows line r) → Has new (pair_of (word (row (slice_set rows line r) k)) k)
      has k inside = elim (cases_eq k line) [
        | inl same ↦ subst (λ n. Has new (pair_of (word (row (slice_set rows line r) n)) n)) (sym same) (subst (λ o. Has new (pair_of (word o) line)) (sym own_row) changed.own)
        | inr apart ↦
            let k_in : k < length rows = omega (arith, inside, count) in
            let old = index.has k k_in in
            let other : pair_of (word (row rows k)) k ≢ pair_of (word (row rows line)) line =
            λ same. apart (same_pair (word (row rows k)) k (word (row rows line)) line (omega (arith, k_in, size)) (omega (arith, within, size)) same).1
            in subst (λ o. Has new (pair_of (word o) k)) (sym (other_row k apart)) (changed.stays (pair_of (word (row rows k)) k) old other)
      ]

      only : (pair : ℕ) → Has new pair → IsLineOf word (slice_set rows line r) pair
      only pair h = elim (cases_eq pair (pair_of (word r) line)) [
        | inl same ↦ record { line = line; within = omega (arith, within, count); is = same ∙ ap (λ o. pair_of (word o) line) (sym own_row) }
        | inr apart ↦
            let kept = changed.kept pair h apart in
            let own = index.only pair kept.0 in
            let other : own.line ≢ line = λ same. kept.1 (own.is ∙ ap (λ k. pair_of (word (row rows k)) k) same) in
            record { line = own.line; within = omega (arith, own.within, count); is = own.is ∙ ap (λ o. pair_of (word o) own.line) (sym (other_row own.line other)) }
      ]

  -- the same, with the words as they are computed
  pub has-by : (line was : ℕ) → line < length rows → was ≡ word (row rows line) → Has pairs (pair_of was line)
  has-by line was within is = subst (λ w. Has pairs (pair_of w line)) (sym is) (index.has line within)

  pub once-by : (line was now : ℕ) → line < length rows → was ≡ word (row rows line) → Has pairs (pair_of now line) → now ≡ was
  once-by line was now within is h =
      let size : length rows < 4294967296 = small in
      sym (word-of_pair now line (omega (arith, within, size)) h).1 ∙ sym is

  pub changed-by : (line was now : ℕ) (r : Option NameRow) (new : List ℕ) → line < length rows → was ≡ word (row rows line) → now ≡ word r → IsChanged pairs (pair_of was line) (pair_of now line) new → IsIndex word (slice_set rows line r) new
  changed-by line was now r new within was_is now_is changed =
      changed-index line r new within
      (subst (λ w. IsChanged pairs (pair_of w line) (pair_of (word r) line) new) was_is (subst (λ w. IsChanged pairs (pair_of was line) (pair_of w line) new) now_is changed))

  -- What a look-up passes has not the word.
  module _ (test : Option NameRow → Bool) (w : ℕ) (marks : (o : Option NameRow) → test o ≡ true → word o ≡ w) where
    fails : (from k : ℕ) → k < length rows → (Has pairs (pair_of w k) → ⊥) → test (row rows k) ≡ false
    fails from k inside lacks =
        false_from_ne_true (test (row rows k)) (λ h. lacks (subst (λ v. Has pairs (pair_of v k)) (marks (row rows k) h) (index.has k inside)))

    pub passed-between : (from line : ℕ) → IsNextLine pairs w from line → (k : ℕ) → from ≤ k → k < line → test (row rows k) ≡ false
    passed-between from line next k on below = fails from k (omega (arith, below, next-within w from line next)) (next.first k on below)

    pub passed-before : (from line : ℕ) → IsNextLine pairs w from line → ((k : ℕ) → k < from → test (row rows k) ≡ false) → (k : ℕ) → k < line → test (row rows k) ≡ false
    passed-before from line next before k below = elim (cases_lt k from) [
      | inl passed ↦ before k passed
      | inr on ↦ passed-between from line next k on below
    ]

    -- and the line itself
    pub passed-it : (from line : ℕ) → IsNextLine pairs w from line → ((k : ℕ) → k < from → test (row rows k) ≡ false) → test (row rows line) ≡ false → (k : ℕ) → k < line + 1 → test (row rows k) ≡ false
    passed-it from line next before this = below_more (λ k. test (row rows k) ≡ false) line (passed-before from line next before) this

    pub passed-rest : (from : ℕ) → HasNoLine pairs w from → (k : ℕ) → from ≤ k → k < length rows → test (row rows k) ≡ false
    passed-rest from none k on inside =
        let size : length rows < 4294967296 = small in
        let fits : k < 4294967296 = omega (arith, inside, size) in
        fails from k inside (none.none k on fits)

    pub passed-all : (from : ℕ) → HasNoLine pairs w from → ((k : ℕ) → k < from → test (row rows k) ≡ false) → (k : ℕ) → k < length rows → test (row rows k) ≡ false
    passed-all from none before k inside = elim (cases_lt k from) [
      | inl passed ↦ before k passed
      | inr on ↦ passed-rest from none k on inside
    ]

-- the first line that passes is the one that a look-up from the start finds
pub first-found : (test : Option NameRow → Bool) (rows : Rows) (k : ℕ) (r : Option NameRow) → k < length rows → row rows k ≡ r → test r ≡ true → ((j : ℕ) → j < k → test (row rows j) ≡ false) → first_row_from test 0 rows ≡ Some (k, r)
first-found test rows k r within is passes before = look (first_row_from test 0 rows) refl
  where
    here : test (row rows k) ≡ true
    here = ap test is ∙ passes

    look : (o : Option (ℕ × Option NameRow)) → first_row_from test 0 rows ≡ o → o ≡ Some (k, r)
    look None e = absurd (both_ways (test (row rows k)) (first_row-none test rows e k within) here)
    look (Some found) e =
        let first : IsFirstRow test rows found.0 found.1 = first_row-is test rows found.0 found.1 e in
        let not_below : k ≤ found.0 = elim (cases_lt found.0 k) [
          | inl below ↦ absurd (both_ways (test (row rows found.0)) (before found.0 below) (ap test first.is ∙ first.passes))
          | inr past ↦ past
        ] in
        let not_above : found.0 ≤ k = elim (cases_lt k found.0) [
          | inl below ↦ absurd (both_ways (test (row rows k)) (first.before k below) here)
          | inr past ↦ past
        ] in
        let same : found.0 ≡ k = omega arith in
        let row_is : found.1 ≡ r = sym first.is ∙ ap (row rows) same ∙ is in
        λ i. Some (same i, row_is i)

pub none-found : (test : Option NameRow → Bool) (rows : Rows) → ((j : ℕ) → j < length rows → test (row rows j) ≡ false) → first_row_from test 0 rows ≡ None
none-found test rows none = look (first_row_from test 0 rows) refl
  where
    look : (o : Option (ℕ × Option NameRow)) → first_row_from test 0 rows ≡ o → o ≡ None
    look None e = refl
    look (Some found) e =
        let first : IsFirstRow test rows found.0 found.1 = first_row-is test rows found.0 found.1 e in
        absurd (both_ways (test (row rows found.0)) (none found.0 first.within) (ap test first.is ∙ first.passes))

-- a row that passes has the word
pub entry-marks : (parent : ℕ) (name : List ℕ) (o : Option NameRow) → is_entry parent name o ≡ true → name_word_of o ≡ name_word parent name
entry-marks parent name o h =
    let own = is_entry-parts parent name o h in
    ap name_word_of own.1 ∙ (λ i. name_word (own.2 i) (own.3 i))

pub child-marks : (child : ℕ) (o : Option NameRow) → is_child child o ≡ true → child_word_of o ≡ child
child-marks child o h = let own = is_child-parts child o h in ap child_word_of own.1 ∙ own.2

pub free-marks : (o : Option NameRow) → is_free_row o ≡ true → child_word_of o ≡ no_word
free-marks None h = refl
free-marks (Some r) h = cc

pub below-marks : (parent : ℕ) (o : Option NameRow) → is_below_parent parent o ≡ true → parent_word_of o ≡ parent
below-marks parent None h = cc
below-marks parent (Some r) h = eqb-true r.parent parent h

-- What the look-ups of a name, of a child and of a free line find.
pub name-found : (rows : Rows) (parent : ℕ) (name : List ℕ) (k : ℕ) → k < length rows → is_entry parent name (row rows k) ≡ true → ((j : ℕ) → j < k → is_entry parent name (row rows j) ≡ false)
    → find_name rows parent name ≡ Some (k, child_of_row (row rows k))
name-found rows parent name k within passes before =
    ap (option_and_then (λ found. Some (line_and_child found))) (first-found (is_entry parent name) rows k (row rows k) within refl passes before)

pub name-row : (rows : Rows) (parent : ℕ) (name : List ℕ) (k : ℕ) → is_entry parent name (row rows k) ≡ true → IsRow rows parent name k (child_of_row (row rows k))
name-row rows parent name k passes =
    let own = is_entry-parts parent name (row rows k) passes in
    let r : NameRow = own.0 in
    let child_is : r.child ≡ child_of_row (row rows k) = sym (ap child_of_row own.1) in
    own.1 ∙ (λ i. Some (record { parent = own.2 i; child = child_is i; name = own.3 i }))

pub no-name : (rows : Rows) (parent : ℕ) (name : List ℕ) → ((j : ℕ) → j < length rows → is_entry parent name (row rows j) ≡ false) → find_name rows parent name ≡ None
no-name rows parent name none = ap (option_and_then (λ found. Some (line_and_child found))) (none-found (is_entry parent name) rows none)

pub parent-found : (rows : Rows) (child k : ℕ) → k < length rows → is_child child (row rows k) ≡ true → ((j : ℕ) → j < k → is_child child (row rows j) ≡ false)
    → parent_of rows child ≡ Some (parent_of_row (row rows k))
parent-found rows child k within passes before =
    ap (option_and_then (λ found. Some (parent_of_row found.1))) (first-found (is_child child) rows k (row rows k) within refl passes before)

pub no-parent : (rows : Rows) (child : ℕ) → ((j : ℕ) → j < length rows → is_child child (row rows j) ≡ false) → parent_of rows child ≡ None
no-parent rows child none = ap (option_and_then (λ found. Some (parent_of_row found.1))) (none-found (is_child child) rows none)

pub free-found : (rows : Rows) (k : ℕ) → k < length rows → is_free_row (row rows k) ≡ true → ((j : ℕ) → j < k → is_free_row (row rows j) ≡ false) → free_line rows ≡ Some k
free-found rows k within passes before = ap (option_and_then (λ found. Some found.0)) (first-found is_free_row rows k (row rows k) within refl passes before)

pub no-free : (rows : Rows) → ((j : ℕ) → j < length rows → is_free_row (row rows j) ≡ false) → free_line rows ≡ None
no-free rows none = ap (option_and_then (λ found. Some found.0)) (none-found is_free_row rows none)

-- the names of one line more
pub names-more : (rows : Rows) (parent k : ℕ) → k < length rows → names_below (take (k + 1) rows) parent ≡ names_below (take k rows) parent ++ name_below parent (row rows k)
names-more rows parent k within =
    ap (λ xs. names_below xs parent) (take_more rows k None within) ∙ sym (flat_map_more (name_below parent) [] (take k rows) (row rows k))

-- lines that have no name below the parent add none
pub names-passed : (rows : Rows) (parent from more : ℕ) → from + more ≤ length rows → ((k : ℕ) → from ≤ k → k < from + more → is_below_parent parent (row rows k) ≡ false)
    → names_below (take (from + more) rows) parent ≡ names_below (take from rows) parent
names-passed rows parent from zero within quiet = let same : from + 0 ≡ from = omega arith in ap (λ n. names_below (take n rows) parent) same
names-passed rows parent from (suc more) within quiet =
    let next : from + suc more ≡ from + more + 1 = omega arith in
    ap (λ n. names_below (take n rows) parent) next
    ∙ names-more rows parent (from + more) (omega arith)
    ∙ ap (λ (names : List (List ℕ)). names_below (take (from + more) rows) parent ++ names) (nothing (row rows (from + more)) (quiet (from + more) (omega arith) (omega arith)))
    ∙ append-nil (names_below (take (from + more) rows) parent)
    ∙ names-passed rows parent from more (omega arith) (λ k on below. quiet k on (omega arith))
  where
    nothing : (o : Option NameRow) → is_below_parent parent o ≡ false → name_below parent o ≡ []
    nothing None h = refl
    nothing (Some r) h = ap (λ b. cond b (r.name ∷ []) []) h

pub names-to : (rows : Rows) (parent from line : ℕ) → from ≤ line → line < length rows → ((k : ℕ) → from ≤ k → k < line → is_below_parent parent (row rows k) ≡ false)
    → names_below (take (line + 1) rows) parent ≡ names_below (take from rows) parent ++ name_below parent (row rows line)
names-to rows parent from line on within quiet =
    let far : from + (line - from) ≡ line = omega arith in
    names-more rows parent line within
    ∙ ap (λ (names : List (List ℕ)). names ++ name_below parent (row rows line))
    (ap (λ n. names_below (take n rows) parent) (sym far) ∙ names-passed rows parent from (line - from) (omega arith) (λ k from_on below. quiet k from_on (omega arith)))

pub names-all : (rows : Rows) (parent from : ℕ) → from ≤ length rows → ((k : ℕ) → from ≤ k → k < length rows → is_below_parent parent (row rows k) ≡ false)
    → names_below (take from rows) parent ≡ names_below rows parent
names-all rows parent from on quiet =
    let far : from + (length rows - from) ≡ length rows = omega arith in
    sym (names-passed rows parent from (length rows - from) (omega arith) (λ k from_on below. quiet k from_on (omega arith)))
    ∙ ap (λ n. names_below (take n rows) parent) far
    ∙ ap (λ xs. names_below xs parent) (take_all (length rows) rows (omega arith))
