-- No path leads back where going up ends: how a table whose directories have one name each, and in which going up from
-- each inode comes to an end, is seen to be acyclic.
use Rattle.std.specs.Prelude.{◌≡◌, ℕ, zero, suc, ◌+◌, ◌-◌, ◌<◌, ◌≤◌, List, [], ◌∷◌, length, true, Option, Some, None, option_and_then, unwrap_or, refl}
use Rattle.std.proofs.Common.{arith, ap, sym, ◌∙◌, subst, zero-add}
use Rattle.std.proofs.lemmas.Bool.{eq-eqb, both_ways, or_left, or_right}
use Rattle.layout_model.specs.Lines.{NameRow}
use Rattle.layout_model.specs.Names.{Rows, row, is_child, is_below_parent, has_entries, parent_of_row, first_row_from, parent_of, up, walk}
use Rattle.layout_model.specs.RowLaws.{first_row-is, first_row-none}
use Rattle.layout_model.specs.TableLaws.{walk-step, is_child-parts, and_then-and_then, up-more}
use Rattle.layout_model.specs.Tables.{IsAcyclic, IsFirstRow, NamingLine}

-- an inode below which there are names has one name at most
pub record HasOneNameEach (rows : Rows) : Type 0 where
  pub one_line : (j k : ℕ) (r s : NameRow) → row rows j ≡ Some r → row rows k ≡ Some s → r.child ≡ s.child → has_entries rows r.child ≡ true → j ≡ k

-- a line below a parent shows that it has entries
has_line : (parent : ℕ) (rows : Rows) (k : ℕ) (r : NameRow) → row rows k ≡ Some r → r.parent ≡ parent → has_entries rows parent ≡ true
has_line parent [] k r is below = cc
has_line parent (o ∷ rows) zero r is below =
    or_left (is_below_parent parent o) (has_entries rows parent) (ap (is_below_parent parent) is ∙ eq-eqb r.parent parent below)
has_line parent (o ∷ rows) (suc k) r is below =
    or_right (is_below_parent parent o) (has_entries rows parent) (has_line parent rows k r is below)

-- the one line that names a child with entries tells its directory
parent_of-NamingLine : (rows : Rows) (parent : ℕ) (name : List ℕ) (child : ℕ) → HasOneNameEach rows → has_entries rows child ≡ true → NamingLine rows parent name child → parent_of rows child ≡ Some parent
parent_of-NamingLine rows parent name child one entries names = look (first_row_from (is_child child) 0 rows) refl
  where
    look : (o : Option (ℕ × Option NameRow)) → first_row_from (is_child child) 0 rows ≡ o → option_and_then (λ found. Some (parent_of_row found.1)) o ≡ Some parent
    look None e =
        let own : is_child child (row rows names.line) ≡ true = ap (is_child child) names.is ∙ eq-eqb names.at.child child names.child_is in
        absurd (both_ways (is_child child (row rows names.line)) (first_row-none (is_child child) rows e names.line names.within) own)
    look (Some found) e =
        let first : IsFirstRow (is_child child) rows found.0 found.1 = first_row-is (is_child child) rows found.0 found.1 e in
        let parts = is_child-parts child found.1 first.passes in
        let r : NameRow = parts.0 in
        let same : found.0 ≡ names.line =
        one.one_line found.0 names.line r names.at (first.is ∙ parts.1) names.is (parts.2 ∙ sym names.child_is)
        (ap (has_entries rows) parts.2 ∙ entries)
        in
        let row_is : found.1 ≡ Some names.at = sym first.is ∙ ap (row rows) same ∙ names.is in
        ap (λ (x : Option NameRow). Some (parent_of_row x)) row_is ∙ ap (λ (p : ℕ). Some p) names.parent_is

-- a path is gone back by going up, where its end has entries
up-walk : (rows : Rows) (ino : ℕ) (names : List (List ℕ)) (end : ℕ) → HasOneNameEach rows → has_entries rows end ≡ true → walk rows ino names ≡ Some end → (up rows (length names) end ≡ Some ino) × (has_entries rows ino ≡ true)
unfolding up walk
up-walk rows ino [] end one entries h =
    let same : ino ≡ end = ap (λ (o : Option ℕ). unwrap_or o 0) h in
    (ap (λ (i : ℕ). Some i) (sym same), subst (λ i. has_entries rows i ≡ true) (sym same) entries)
up-walk rows ino (name ∷ names) end one entries h =
    let s = walk-step rows ino name names end h in
    let rest : (up rows (length names) end ≡ Some s.child) × (has_entries rows s.child ≡ true) = up-walk rows s.child names end one entries s.rest in (
      up-more rows (length names) end ∙ ap (option_and_then (parent_of rows)) rest.0 ∙ parent_of-NamingLine rows ino name s.child one rest.1 s.first,
      has_line ino rows s.first.line s.first.at s.first.is s.first.parent_is,
    )

suc-add : (n m : ℕ) → suc n + m ≡ suc (n + m)
suc-add n m = omega arith

-- n directories up, and from there m more
pub up-add : (rows : Rows) (n m ino : ℕ) → up rows (n + m) ino ≡ option_and_then (up rows m) (up rows n ino)
unfolding up
up-add rows zero m ino = ap (λ k. up rows k ino) (zero-add m)
up-add rows (suc n) m ino =
    ap (λ k. up rows k ino) (suc-add n m)
    ∙ and_then-and_then (parent_of rows ino) (up rows (n + m)) (up rows n) (up rows m) (up-add rows n m)

-- above an inode without a name there is nothing
pub up-past : (rows : Rows) (n m ino top : ℕ) → up rows n ino ≡ Some top → parent_of rows top ≡ None → n < m → up rows m ino ≡ None
unfolding up
up-past rows n m ino top h none above =
    let split : n + suc (m - n - 1) ≡ m = omega (arith, above) in
    ap (λ k. up rows k ino) (sym split) ∙ up-add rows n (suc (m - n - 1)) ino ∙ ap (option_and_then (up rows (suc (m - n - 1)))) h
    ∙ ap (option_and_then (up rows (m - n - 1))) none

-- going round again and again
up-round : (rows : Rows) (m n ino : ℕ) → up rows (suc m) ino ≡ Some ino → (k : ℕ) × (n ≤ k) × (up rows k ino ≡ Some ino)
unfolding up
up-round rows m zero ino h = (0, omega arith, refl)
up-round rows m (suc n) ino h =
    let before : (k : ℕ) × (n ≤ k) × (up rows k ino ≡ Some ino) = up-round rows m n ino h in
    (suc m + before.0, omega (arith, before.1), up-add rows (suc m) before.0 ino ∙ ap (option_and_then (up rows before.0)) h ∙ before.2)

-- going up that has ended does not go on
no_end : (rows : Rows) (n ino : ℕ) → ((k : ℕ) × (n ≤ k) × (up rows k ino ≡ Some ino)) → up rows n ino ≡ None → ⊥
no_end rows n ino (k, far, round) h =
    let split : n + (k - n) ≡ k = omega (arith, far) in
    let ended : up rows k ino ≡ None = ap (λ j. up rows j ino) (sym split) ∙ up-add rows n (k - n) ino ∙ ap (option_and_then (up rows (k - n))) h in
    cc

pub IsAcyclic-from_up : (rows : Rows) → HasOneNameEach rows → ((ino : ℕ) → (n : ℕ) × (up rows n ino ≡ None)) → IsAcyclic rows
IsAcyclic-from_up rows one ends = record { no_return = back }
  where
    back : (ino : ℕ) (names : List (List ℕ)) → walk rows ino names ≡ Some ino → names ≡ []
    back ino [] h = refl
    back ino (name ∷ names) h =
        let s = walk-step rows ino name names ino h in
        let entries = has_line ino rows s.first.line s.first.at s.first.is s.first.parent_is in
        let round = up-walk rows ino (name ∷ names) ino one entries h in
        let end : (n : ℕ) × (up rows n ino ≡ None) = ends ino in
        absurd (no_end rows end.0 ino (up-round rows (length names) end.0 ino round.0) end.1)
