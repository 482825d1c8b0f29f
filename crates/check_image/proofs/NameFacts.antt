-- The directory above an inode, found from the last line to the first; and the way up from it.
use Rattle.std.proofs.Common.{◌≡◌, ◌≢◌, ℕ, suc, ◌+◌, ◌<◌, List, [], ◌∷◌, length, drop, get_or, Bool, true, false, cond, Option, Some, None, refl, sym, ◌∙◌, ap, subst, arith, inl, inr}
use Rattle.std.specs.Prelude.{◌==◌, ◌||◌, slice_index_or, option_and_then}
use Rattle.std.proofs.Math.ListN.{set}
use Rattle.std.proofs.Math.Seq.{drop-cons}
use Rattle.std.proofs.lemmas.Bool.{cases_eq, cases_lt, eq-eqb, ne_eqb, both_ways}
use Rattle.std.proofs.lemmas.List.{get_or_default, get_or_past, get_or-set_same, get_or-set_other}
use Rattle.k_reading.specs.layout_model.Lines.{NameRow}
use Rattle.k_reading.specs.layout_model.Names.{Rows, row, is_entry, is_child, parent_of_row, first_row_from, parent_of, holds_above, ends_at_root}
use Rattle.k_reading.specs.layout_model.TableLaws.{is_entry-own, is_entry-parts}
use Rattle.k_reading.specs.image_model.Live.{is_directory}
use Rattle.k_reading.specs.image_model.Rules.{IsPlaced}
use Rattle.k_reading.specs.image_model.Volume.{Volume, inode}
use Rattle.k_reading.specs.image_laws.ClimbLaws.{ends-reaches, reaches-ends, ends_at_root-root}
use Rattle.check_image.specs.Above.{HasChildBelow, HaveChildrenBelow, IsAbove, IsOnly}

-- the parent in the row that a look-up finds
abbrev parent_found : Option (ℕ × Option NameRow) → Option ℕ
parent_found o = option_and_then (λ found. Some (parent_of_row found.1)) o

same_parent : (test : Option NameRow → Bool) (n m : ℕ) (rows : Rows) → parent_found (first_row_from test n rows) ≡ parent_found (first_row_from test m rows)
same_parent test n m [] = refl
same_parent test n m (r ∷ rows) = by (test r) (same_parent test (n + 1) (m + 1) rows)
  where
    by : (b : Bool) → parent_found (first_row_from test (n + 1) rows) ≡ parent_found (first_row_from test (m + 1) rows)
        → parent_found (cond b (Some (n, r)) (first_row_from test (n + 1) rows)) ≡ parent_found (cond b (Some (m, r)) (first_row_from test (m + 1) rows))
    by true later = refl
    by false later = later

parent-here : (o : Option NameRow) (rows : Rows) (ino : ℕ) → is_child ino o ≡ true → parent_of (o ∷ rows) ino ≡ Some (parent_of_row o)
parent-here o rows ino is = ap (λ b. parent_found (cond b (Some (0, o)) (first_row_from (is_child ino) (0 + 1) rows))) is

parent-later : (o : Option NameRow) (rows : Rows) (ino : ℕ) → is_child ino o ≡ false → parent_of (o ∷ rows) ino ≡ parent_of rows ino
parent-later o rows ino other =
    ap (λ b. parent_found (cond b (Some (0, o)) (first_row_from (is_child ino) (0 + 1) rows))) other ∙ same_parent (is_child ino) (0 + 1) 0 rows

-- the rows from line k on
from-line : (rows : Rows) (k : ℕ) (o : Option NameRow) → k < length rows → row rows k ≡ o → drop k rows ≡ o ∷ drop (k + 1) rows
from-line rows k o within is =
    drop-cons rows k None within ∙ ap (λ r. r ∷ drop (suc k) rows) is ∙ ap (λ n. o ∷ drop n rows) {x = suc k} {y = k + 1} (omega arith)

-- one row more, free or not
pub above-free : (rows : Rows) (above : List (Option ℕ)) (k : ℕ) → k < length rows → row rows k ≡ None → IsAbove (drop (k + 1) rows) above
    → IsAbove (drop k rows) above
above-free rows above k within free is ino =
    is ino ∙ sym (parent-later None (drop (k + 1) rows) ino refl) ∙ ap (λ l. parent_of l ino) (sym (from-line rows k None within free))

above-set : (rows : Rows) (above : List (Option ℕ)) (k : ℕ) (r : NameRow) → k < length rows → row rows k ≡ Some r → r.child < length above
    → IsAbove (drop (k + 1) rows) above → IsAbove (drop k rows) (set above r.child (Some r.parent))
above-set rows above k r within is inside before ino = at ∙ ap (λ l. parent_of l ino) (sym (from-line rows k (Some r) within is))
  where
    at : slice_index_or (set above r.child (Some r.parent)) ino None ≡ parent_of (Some r ∷ drop (k + 1) rows) ino
    at = elim (cases_eq ino r.child) [
      | inl same ↦
          ap (λ n. slice_index_or (set above r.child (Some r.parent)) n None) same ∙ get_or-set_same above r.child (Some r.parent) None inside
          ∙ sym (parent-here (Some r) (drop (k + 1) rows) ino (eq-eqb r.child ino (sym same)))
      | inr other ↦
          get_or-set_other above r.child ino (Some r.parent) None other ∙ before ino
          ∙ sym (parent-later (Some r) (drop (k + 1) rows) ino (ne_eqb r.child ino (λ e. other (sym e))))
    ]

pub above-line : (rows : Rows) (above : List (Option ℕ)) (k child parent : ℕ) (r : NameRow) → k < length rows → row rows k ≡ Some r → child ≡ r.child
    → parent ≡ r.parent → r.child < length above → IsAbove (drop (k + 1) rows) above → IsAbove (drop k rows) (set above child (Some parent))
above-line rows above k child parent r within is same_child same_parent inside before =
    subst (λ n. IsAbove (drop k rows) (set above n (Some parent))) (sym same_child)
    (subst (λ n. IsAbove (drop k rows) (set above r.child (Some n))) (sym same_parent) (above-set rows above k r within is inside before))

-- a row that was read, and its child
pub row-read : (rows : Rows) (k : ℕ) (o : Option NameRow) → k < length rows → o ≡ get_or rows k o → row rows k ≡ o
row-read rows k o within is = get_or_default rows k None o within ∙ sym is

pub child-read : (rows : Rows) (count k : ℕ) (r : NameRow) → HaveChildrenBelow count rows → row rows k ≡ Some r → r.child < count
child-read rows count k r each is = subst (HasChildBelow count) is (each k)

-- One step up.
pub ends-here : (rows : Rows) (n ino : ℕ) → ino ≡ 0 → ends_at_root rows n ino ≡ true
ends-here rows n ino root = ap (ends_at_root rows n) root ∙ ends_at_root-root rows n

pub ends-up : (rows : Rows) (n ino parent : ℕ) → ino ≢ 0 → parent_of rows ino ≡ Some parent → ends_at_root rows (suc n) ino ≡ ends_at_root rows n parent
unfolding ends_at_root
ends-up rows n ino parent below above =
    ap (λ b. b || holds_above (ends_at_root rows n) (parent_of rows ino)) (ne_eqb ino 0 below) ∙ ap (holds_above (ends_at_root rows n)) above

pub ends-stops : (rows : Rows) (n ino : ℕ) → ino ≢ 0 → parent_of rows ino ≡ None → ends_at_root rows (suc n) ino ≡ false
unfolding ends_at_root
ends-stops rows n ino below none =
    ap (λ b. b || holds_above (ends_at_root rows n) (parent_of rows ino)) (ne_eqb ino 0 below) ∙ ap (holds_above (ends_at_root rows n)) none

pub ends-last : (rows : Rows) (ino : ℕ) → ends_at_root rows 0 ino ≡ (ino == 0)
unfolding ends_at_root
ends-last rows ino = refl

-- No later line has the name, and one has.
pub only-kept : (rows : Rows) (k : ℕ) (r : NameRow) → ((m : ℕ) → k < m → m < length rows → is_entry r.parent r.name (row rows m) ≡ false) → IsOnly rows k r
only-kept rows k r none later s behind is parent name = elim (cases_lt later (length rows)) [
  | inl within ↦
      both_ways (is_entry r.parent r.name (row rows later)) (none later behind within)
      (ap (λ p. is_entry p r.name (row rows later)) (sym parent) ∙ ap (λ n. is_entry s.parent n (row rows later)) (sym name)
      ∙ is_entry-own (row rows later) s is)
  | inr past ↦ let free : row rows later ≡ None = get_or_past rows later None past in cc
]

pub only-fails : (rows : Rows) (k later : ℕ) (r : NameRow) → k < later → is_entry r.parent r.name (row rows later) ≡ true → IsOnly rows k r → ⊥
only-fails rows k later r behind has only =
    let parts = is_entry-parts r.parent r.name (row rows later) has in
    only later parts.0 behind parts.1 parts.2 parts.3

-- Rule 9 at a line, by its three tests.
pub placed-kept : (v : Volume) (k : ℕ) (r : NameRow) → is_directory (inode v r.parent).kind ≡ true → IsOnly v.names k r
    → ends_at_root v.names 15 r.parent ≡ true → IsPlaced v k r
placed-kept v k r parent only ends =
    let reaches = ends-reaches v.names 15 r.parent ends in
    record { parent = parent; only = only; steps = (reaches.steps, omega (arith, reaches.within), reaches.root) }

pub placed-ends : (v : Volume) (k : ℕ) (r : NameRow) → IsPlaced v k r → ends_at_root v.names 15 r.parent ≡ true
placed-ends v k r placed =
    let steps = placed.steps in
    reaches-ends v.names 15 r.parent (record { steps = steps.0; within = let few : steps.0 < 16 = steps.1 in omega arith; root = steps.2 })
