-- Laws of the names in a table that has one line for each parent and name, and in which no path leads back: going up
-- is going back along a path, and no path is longer than the table.
use Rattle.std.specs.Prelude.{◌≡◌, ℕ, zero, suc, ◌+◌, ◌<◌, ◌≤◌, List, [], ◌∷◌, ◌++◌, length, Bool, true, false, ◌==◌, ◌&&◌, Option, Some, None, option_and_then, cond, refl}
use Rattle.std.specs.List.{IsDistinct, AllByRecursion, list_any, count_by}
use Rattle.std.proofs.lemmas.List.Sums.{sum_by-cons, sum_by-append}
use Rattle.std.proofs.Common.{arith, ap, sym, ◌∙◌, subst, ⊎_elim, eqb, length-append}
use Rattle.std.proofs.lemmas.Bool.{and_parts, and_from, or_cases, or_parts, eqb-true, eq-eqb, false_from_ne_true, both_ways}
use Rattle.std.proofs.lemmas.Map.Steps.{length-le_from_distinct_below}
use Rattle.std.proofs.lemmas.Option.{option_and_then_some, same_Some}
use Rattle.std.proofs.lemmas.Slice.Eq.{bytes_eq-Decides}
use Rattle.layout_model.specs.Fields.{is_same}
use Rattle.layout_model.specs.Lines.{NameRow}
use Rattle.layout_model.specs.Names.{Rows, row, is_entry, is_child, is_free_row, free_line, child_of_row, parent_of_row, first_row_from, line_and_child, find_name, child_named, parent_of, up, walk}
use Rattle.layout_model.specs.RowLaws.{first_row-is, first_row-none}
use Rattle.layout_model.specs.Tables.{IsKeyed, IsAcyclic, IsFirstRow, NamingLine, name_below, names_below}

-- a line that passes the test of an entry or of a child, and the other way round
pub is_entry-parts : (parent : ℕ) (name : List ℕ) (o : Option NameRow) → is_entry parent name o ≡ true → (r : NameRow) × (o ≡ Some r) × (r.parent ≡ parent) × (r.name ≡ name)
is_entry-parts parent name None h = cc
is_entry-parts parent name (Some r) h =
    let parts = and_parts (r.parent == parent) (is_same r.name name) h in
    (r, refl, eqb-true r.parent parent parts.0, (bytes_eq-Decides r.name name).0 parts.1)

pub is_entry-own : (o : Option NameRow) (r : NameRow) → o ≡ Some r → is_entry r.parent r.name o ≡ true
is_entry-own o r e =
    ap (is_entry r.parent r.name) e
    ∙ and_from (r.parent == r.parent) (is_same r.name r.name) (eq-eqb r.parent r.parent refl) ((bytes_eq-Decides r.name r.name).1 refl)

pub is_child-parts : (child : ℕ) (o : Option NameRow) → is_child child o ≡ true → (r : NameRow) × (o ≡ Some r) × (r.child ≡ child)
is_child-parts child None h = cc
is_child-parts child (Some r) h = (r, refl, eqb-true r.child child h)

-- The look-up of a name gives a line that has it.
pub NamingLine-child_named : (rows : Rows) (parent : ℕ) (name : List ℕ) (child : ℕ) → child_named rows parent name ≡ Some child → NamingLine rows parent name child
NamingLine-child_named rows parent name child h =
    option_and_then_some (λ found. Some found.1) (find_name rows parent name) child h
    (λ pair is_pair is_child.
    option_and_then_some (λ found. Some (line_and_child found)) (first_row_from (is_entry parent name) 0 rows) pair is_pair
    (λ found is_found is_line.
    let first : IsFirstRow (is_entry parent name) rows found.0 found.1 = first_row-is (is_entry parent name) rows found.0 found.1 is_found in
    let parts = is_entry-parts parent name found.1 first.passes in
    let child_is : child_of_row found.1 ≡ child = ap (λ (p : ℕ × ℕ). p.1) (same_Some (line_and_child found) pair is_line) ∙ same_Some pair.1 child is_child in
    record {
      line = found.0;
      at = parts.0;
      within = first.within;
      is = first.is ∙ parts.1;
      parent_is = parts.2;
      name_is = parts.3;
      child_is = sym (ap child_of_row parts.1) ∙ child_is;
    }))

-- In a keyed table the look-up of a line's parent and name gives that line.
pub find_name-at : (rows : Rows) (k : ℕ) (r : NameRow) → IsKeyed rows → k < length rows → row rows k ≡ Some r → find_name rows r.parent r.name ≡ Some (k, r.child)
find_name-at rows k r keyed within is = look (first_row_from (is_entry r.parent r.name) 0 rows) refl
  where
    look : (o : Option (ℕ × Option NameRow)) → first_row_from (is_entry r.parent r.name) 0 rows ≡ o → option_and_then (λ found. Some (line_and_child found)) o ≡ Some (k, r.child)
    look None e = absurd (both_ways (is_entry r.parent r.name (row rows k)) (first_row-none (is_entry r.parent r.name) rows e k within) (is_entry-own (row rows k) r is))
    look (Some found) e =
        let first : IsFirstRow (is_entry r.parent r.name) rows found.0 found.1 = first_row-is (is_entry r.parent r.name) rows found.0 found.1 e in
        let here : is_entry r.parent r.name (row rows found.0) ≡ true = ap (is_entry r.parent r.name) first.is ∙ first.passes in
        let same : found.0 ≡ k = keyed.one_line r.parent r.name found.0 k here (is_entry-own (row rows k) r is) in
        let row_is : found.1 ≡ Some r = sym first.is ∙ ap (row rows) same ∙ is in
        λ i. Some (same i, child_of_row (row_is i))

pub child_named-at : (rows : Rows) (k : ℕ) (r : NameRow) → IsKeyed rows → k < length rows → row rows k ≡ Some r → child_named rows r.parent r.name ≡ Some r.child
child_named-at rows k r keyed within is = ap (option_and_then (λ found. Some found.1)) (find_name-at rows k r keyed within is)

-- The directory above an inode is one that names it.
pub NamingLine-parent_of : (rows : Rows) (child parent : ℕ) → parent_of rows child ≡ Some parent → (name : List ℕ) × NamingLine rows parent name child
NamingLine-parent_of rows child parent h =
    option_and_then_some (λ found. Some (parent_of_row found.1)) (first_row_from (is_child child) 0 rows) parent h
    (λ found is_found is_parent.
    let first : IsFirstRow (is_child child) rows found.0 found.1 = first_row-is (is_child child) rows found.0 found.1 is_found in
    let parts = is_child-parts child found.1 first.passes in
    let r : NameRow = parts.0 in (
      r.name,
      record {
        line = found.0;
        at = r;
        within = first.within;
        is = first.is ∙ parts.1;
        parent_is = sym (ap parent_of_row parts.1) ∙ same_Some (parent_of_row found.1) parent is_parent;
        name_is = refl;
        child_is = parts.2;
      },
    ))

pub child_named-NamingLine : (rows : Rows) (parent : ℕ) (name : List ℕ) (child : ℕ) → IsKeyed rows → NamingLine rows parent name child → child_named rows parent name ≡ Some child
child_named-NamingLine rows parent name child keyed names =
    sym (λ i. child_named rows (names.parent_is i) (names.name_is i))
    ∙ child_named-at rows names.line names.at keyed names.within names.is
    ∙ ap (λ (c : ℕ). Some c) names.child_is

-- Paths.

pub and_then-and_then : (o : Option ℕ) (f g h : ℕ → Option ℕ) → ((c : ℕ) → f c ≡ option_and_then h (g c)) → option_and_then f o ≡ option_and_then h (option_and_then g o)
and_then-and_then None f g h same = refl
and_then-and_then (Some c) f g h same = same c

-- a path of one name more, at its front and at its end
pub walk-cons : (rows : Rows) (parent : ℕ) (name : List ℕ) (names : List (List ℕ)) (child : ℕ) → child_named rows parent name ≡ Some child → walk rows parent (name ∷ names) ≡ walk rows child names
unfolding walk
walk-cons rows parent name names child h = ap (option_and_then (λ c. walk rows c names)) h

pub walk-one : (rows : Rows) (parent : ℕ) (name : List ℕ) (child : ℕ) → child_named rows parent name ≡ Some child → walk rows parent (name ∷ []) ≡ Some child
unfolding walk
walk-one rows parent name child h = ap (option_and_then (λ c. walk rows c [])) h

pub walk-append : (rows : Rows) (ino : ℕ) (xs ys : List (List ℕ)) → walk rows ino (xs ++ ys) ≡ option_and_then (λ c. walk rows c ys) (walk rows ino xs)
unfolding walk
walk-append rows ino [] ys = refl
walk-append rows ino (x ∷ xs) ys =
    and_then-and_then (child_named rows ino x) (λ c. walk rows c (xs ++ ys)) (λ c. walk rows c xs) (λ c. walk rows c ys) (λ c. walk-append rows c xs ys)

-- the first step of a path
pub record Step (rows : Rows) (ino : ℕ) (name : List ℕ) (names : List (List ℕ)) (end : ℕ) : Type 0 where
  pub child : ℕ
  pub first : NamingLine rows ino name child
  pub rest : walk rows child names ≡ Some end

pub walk-step : (rows : Rows) (ino : ℕ) (name : List ℕ) (names : List (List ℕ)) (end : ℕ) → walk rows ino (name ∷ names) ≡ Some end → Step rows ino name names end
unfolding walk
walk-step rows ino name names end h =
    option_and_then_some (λ c. walk rows c names) (child_named rows ino name) end h
    (λ c is_child is_end. record { child = c; first = NamingLine-child_named rows ino name c is_child; rest = is_end })

-- going up n directories is going back along a path of n names
pub walk-up : (rows : Rows) (n ino above : ℕ) → IsKeyed rows → up rows n ino ≡ Some above → (names : List (List ℕ)) × (length names ≡ n) × (walk rows above names ≡ Some ino)
unfolding up walk
walk-up rows zero ino above keyed h = ([], refl, sym h)
walk-up rows (suc n) ino above keyed h =
    option_and_then_some (up rows n) (parent_of rows ino) above h
    (λ p is_parent is_above.
    let before : (names : List (List ℕ)) × (length names ≡ n) × (walk rows above names ≡ Some p) = walk-up rows n p above keyed is_above in
    let last : (name : List ℕ) × NamingLine rows p name ino = NamingLine-parent_of rows ino p is_parent in
    let step = walk-one rows p last.0 ino (child_named-NamingLine rows p last.0 ino keyed last.1) in (
      before.0 ++ last.0 ∷ [],
      omega (arith, length-append before.0 (last.0 ∷ []), before.1),
      walk-append rows above before.0 (last.0 ∷ []) ∙ ap (option_and_then (λ c. walk rows c (last.0 ∷ []))) before.2 ∙ step,
    ))

-- one directory more, counted from the top
pub up-more : (rows : Rows) (n ino : ℕ) → up rows (suc n) ino ≡ option_and_then (parent_of rows) (up rows n ino)
unfolding up
up-more rows zero ino = only (parent_of rows ino)
  where
    only : (o : Option ℕ) → option_and_then (λ p. Some p) o ≡ o
    only None = refl
    only (Some p) = refl
up-more rows (suc n) ino = and_then-and_then (parent_of rows ino) (up rows (suc n)) (up rows n) (parent_of rows) (up-more rows n)

-- Bounds.

-- k is the line of the last name of a path of at least one name
abbrev EndsAt : Rows → ℕ → ℕ → Type 0
EndsAt rows ino k = (name : List ℕ) × (names : List (List ℕ)) × (walk rows ino (name ∷ names) ≡ Some (child_of_row (row rows k)))

-- the lines of a path, each once
record Trail (rows : Rows) (ino : ℕ) (names : List (List ℕ)) : Type 0 where
  lines : List ℕ
  count : length lines ≡ length names
  distinct : IsDistinct eqb lines
  within : (k : ℕ) → list_any (eqb k) lines ≡ true → k < length rows
  ends : (k : ℕ) → list_any (eqb k) lines ≡ true → EndsAt rows ino k

not_among : (k : ℕ) (lines : List ℕ) → list_any (eqb k) lines ≡ false → AllByRecursion (λ y. eqb k y ≡ false) lines
not_among k [] h = tt
not_among k (l ∷ lines) h =
    let parts = or_parts (eqb k l) (list_any (eqb k) lines) h in
    (parts.0, not_among k lines parts.1)

-- the line of the first name, and those of the rest
longer_trail : (rows : Rows) (ino : ℕ) (name : List ℕ) (names : List (List ℕ)) (end : ℕ) → IsKeyed rows → IsAcyclic rows → (s : Step rows ino name names end) → Trail rows s.child names → Trail rows ino (name ∷ names)
unfolding IsDistinct
longer_trail rows ino name names end keyed acyclic s t =
    let k = s.first.line in
    let named : child_named rows ino name ≡ Some s.child = child_named-NamingLine rows ino name s.child keyed s.first in
    let child : child_of_row (row rows k) ≡ s.child = ap child_of_row s.first.is ∙ s.first.child_is in
    let fresh : list_any (eqb k) t.lines ≡ false =
    false_from_ne_true (list_any (eqb k) t.lines) (λ again.
    let back : EndsAt rows s.child k = t.ends k again in
    let returns : walk rows s.child (back.0 ∷ back.1) ≡ Some s.child = back.2 ∙ ap (λ (c : ℕ). Some c) child in
    let none : back.0 ∷ back.1 ≡ [] = acyclic.no_return s.child (back.0 ∷ back.1) returns in
    cc)
    in
    record {
      lines = k ∷ t.lines;
      count = omega (arith, t.count);
      distinct = (not_among k t.lines fresh, t.distinct);
      within = λ j among. ⊎_elim (λ here. subst (λ n. n < length rows) (sym (eqb-true j k here)) s.first.within) (t.within j) (or_cases (eqb j k) (list_any (eqb j) t.lines) among);
      ends = λ j among.
          ⊎_elim
          (λ here. (name, [], walk-one rows ino name s.child named ∙ ap (λ (c : ℕ). Some c) (sym child) ∙ ap (λ n. Some (child_of_row (row rows n))) (sym (eqb-true j k here))))
          (λ there. let more : EndsAt rows s.child j = t.ends j there in (name, more.0 ∷ more.1, walk-cons rows ino name (more.0 ∷ more.1) s.child named ∙ more.2))
          (or_cases (eqb j k) (list_any (eqb j) t.lines) among);
    }

trail : (rows : Rows) (ino : ℕ) (names : List (List ℕ)) (end : ℕ) → IsKeyed rows → IsAcyclic rows → walk rows ino names ≡ Some end → Trail rows ino names
unfolding IsDistinct
trail rows ino [] end keyed acyclic h =
    record { lines = []; count = refl; distinct = tt; within = λ k among. cc; ends = λ k among. cc }
trail rows ino (name ∷ names) end keyed acyclic h =
    let s = walk-step rows ino name names end h in
    longer_trail rows ino name names end keyed acyclic s (trail rows s.child names end keyed acyclic s.rest)

-- no path is longer than the table, neither down nor up
pub walk-bound : (rows : Rows) (ino : ℕ) (names : List (List ℕ)) (end : ℕ) → IsKeyed rows → IsAcyclic rows → walk rows ino names ≡ Some end → length names ≤ length rows
walk-bound rows ino names end keyed acyclic h =
    let t = trail rows ino names end keyed acyclic h in
    omega (arith, length-le_from_distinct_below t.lines (length rows) t.distinct t.within, t.count)

pub up-bound : (rows : Rows) (n ino above : ℕ) → IsKeyed rows → IsAcyclic rows → up rows n ino ≡ Some above → n ≤ length rows
up-bound rows n ino above keyed acyclic h =
    let path : (names : List (List ℕ)) × (length names ≡ n) × (walk rows above names ≡ Some ino) = walk-up rows n ino above keyed h in
    omega (arith, walk-bound rows above path.0 ino keyed acyclic path.2, path.1)

-- The names below a parent.

-- the test holds of one line at most
OnceAtMost : (Option NameRow → Bool) → Rows → Type 0
OnceAtMost test rows = (j k : ℕ) → test (row rows j) ≡ true → test (row rows k) ≡ true → j ≡ k

none_passes : (test : Option NameRow → Bool) (rows : Rows) → ((j : ℕ) → j < length rows → test (row rows j) ≡ false) → count_by test rows ≡ 0
none_passes test [] none = refl
none_passes test (o ∷ rows) none =
    let head : test o ≡ false = none 0 (omega arith) in
    sum_by-cons (λ x. cond (test x) 1 0) o rows ∙ (λ i. cond (head i) 1 0 + none_passes test rows (λ j below. none (suc j) (omega arith)) i)

one_passes : (test : Option NameRow → Bool) (rows : Rows) → OnceAtMost test rows → count_by test rows ≤ 1
unfolding OnceAtMost
one_passes test [] once = omega arith
one_passes test (o ∷ rows) once = by_head (test o) refl (one_passes test rows (λ j k h i. omega (arith, once (suc j) (suc k) h i)))
  where
    by_head : (b : Bool) → test o ≡ b → count_by test rows ≤ 1 → count_by test (o ∷ rows) ≤ 1
    by_head true e rest =
        let none = none_passes test rows (λ j below. false_from_ne_true (test (row rows j)) (λ h. absurd (omega (arith, once 0 (suc j) e h)))) in
        omega (arith, sum_by-cons (λ x. cond (test x) 1 0) o rows, ap {B = ℕ} (λ (b : Bool). cond b 1 0) e, none)
    by_head false e rest = omega (arith, sum_by-cons (λ x. cond (test x) 1 0) o rows, ap {B = ℕ} (λ (b : Bool). cond b 1 0) e, rest)

-- a line adds the name that it has below the parent
count_of_row : (parent : ℕ) (name : List ℕ) (o : Option NameRow) → count_by (λ x. is_same x name) (name_below parent o) ≡ cond (is_entry parent name o) 1 0
count_of_row parent name None = refl
count_of_row parent name (Some r) = by_parent (r.parent == parent)
  where
    by_parent : (b : Bool) → count_by (λ x. is_same x name) (cond b (r.name ∷ []) []) ≡ cond (b && is_same r.name name) 1 0
    by_parent true = omega (arith, sum_by-cons (λ x. cond (is_same x name) 1 0) r.name [])
    by_parent false = refl

count_of_rows : (parent : ℕ) (name : List ℕ) (rows : Rows) → count_by (λ x. is_same x name) (names_below rows parent) ≡ count_by (is_entry parent name) rows
count_of_rows parent name [] = refl
count_of_rows parent name (o ∷ rows) =
    sum_by-append (λ x. cond (is_same x name) 1 0) (name_below parent o) (names_below rows parent)
    ∙ (λ i. count_of_row parent name o i + count_of_rows parent name rows i)
    ∙ sym (sum_by-cons (λ x. cond (is_entry parent name x) 1 0) o rows)

-- in a keyed table each of them stands once
pub names_below-once : (rows : Rows) (parent : ℕ) (name : List ℕ) → IsKeyed rows → count_by (λ x. is_same x name) (names_below rows parent) ≤ 1
unfolding OnceAtMost
names_below-once rows parent name keyed =
    omega (arith, count_of_rows parent name rows, one_passes (is_entry parent name) rows (keyed.one_line parent name))

-- What the look-ups say where a name is to be added.

row-within : (rows : Rows) (k : ℕ) (test : Option NameRow → Bool) → test None ≡ false → test (row rows k) ≡ true → k < length rows
row-within [] k test fails h = absurd (both_ways (test None) fails h)
row-within (o ∷ rows) zero test fails h = omega arith
row-within (o ∷ rows) (suc k) test fails h = omega (arith, row-within rows k test fails h)

-- a name that is not found is in no line
pub find_name-none : (rows : Rows) (parent : ℕ) (name : List ℕ) → find_name rows parent name ≡ None → (k : ℕ) → is_entry parent name (row rows k) ≡ false
find_name-none rows parent name h k = false_from_ne_true (is_entry parent name (row rows k)) (look (first_row_from (is_entry parent name) 0 rows) refl h)
  where
    look : (o : Option (ℕ × Option NameRow)) → first_row_from (is_entry parent name) 0 rows ≡ o → option_and_then (λ found. Some (line_and_child found)) o ≡ None → is_entry parent name (row rows k) ≡ true → ⊥
    look None e g entry = both_ways (is_entry parent name (row rows k)) (first_row-none (is_entry parent name) rows e k (row-within rows k (is_entry parent name) refl entry)) entry
    look (Some found) e g entry = cc

-- a free line that is found is a line of the table and has no name
pub free_line-some : (rows : Rows) (k : ℕ) → free_line rows ≡ Some k → (k < length rows) × (row rows k ≡ None)
free_line-some rows k h =
    option_and_then_some (λ found. Some found.0) (first_row_from is_free_row 0 rows) k h
    (λ found is_found is_line.
    let first : IsFirstRow is_free_row rows found.0 found.1 = first_row-is is_free_row rows found.0 found.1 is_found in
    let same : found.0 ≡ k = same_Some found.0 k is_line in
    let empty : row rows found.0 ≡ None = first.is ∙ free found.1 first.passes in
    subst (λ n. (n < length rows) × (row rows n ≡ None)) same (first.within, empty))
  where
    free : (o : Option NameRow) → is_free_row o ≡ true → o ≡ None
    free None e = refl
    free (Some r) e = cc
