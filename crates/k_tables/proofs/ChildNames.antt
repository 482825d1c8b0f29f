-- How often a name stands among those below a directory: once where it leads to a child, and else not.
use Rattle.std.proofs.Common.{◌≡◌, ℕ, zero, suc, ◌+◌, ◌<◌, ◌≤◌, Bool, true, false, cond, ◌&&◌, List, [], ◌∷◌, length, get_or, All, Option, Some, None, refl, sym, ◌∙◌, ap, subst, arith}
use Rattle.std.specs.Prelude.{◌==◌, count_by, is_some, option_and_then}
use Rattle.std.proofs.lemmas.Bool.{both_ways, eqb-true}
use Rattle.std.proofs.lemmas.List.Elements.{All-append}
use Rattle.std.proofs.lemmas.List.Sums.{sum_by-append, sum_by-cons}
use Rattle.k_names.specs.layout_model.Fields.{is_same}
use Rattle.layout_model.specs.Lines.{NameRow}
use Rattle.layout_model.specs.Names.{Rows, row, is_entry, child_named, find_name}
use Rattle.layout_model.specs.TableLaws.{find_name-none, is_entry-own, names_below-once, NamingLine-child_named}
use Rattle.layout_model.specs.Tables.{IsKeyed, NamingLine, name_below, names_below}
use Rattle.name_laws.specs.volume_laws.Lists.{count_by-at, count_by-some}

count_of_row : (parent : ℕ) (name : List ℕ) (o : Option NameRow) → count_by (λ x. is_same x name) (name_below parent o) ≡ cond (is_entry parent name o) 1 0
count_of_row parent name None = refl
count_of_row parent name (Some r) = by_parent (r.parent == parent)
  where
    by_parent : (b : Bool) → count_by (λ x. is_same x name) (cond b (r.name ∷ []) []) ≡ cond (b && is_same r.name name) 1 0
    by_parent true = omega (arith, sum_by-cons (λ x. cond (is_same x name) 1 0) r.name [])
    by_parent false = refl

count_of_rows : (parent : ℕ) (name : List ℕ) (rows : Rows) → count_by (λ x. is_same x name) (names_below rows parent) ≡ count_by (is_entry parent name) rows
count_of_rows parent name [] = refl
count_of_rows parent name (o ∷ rows) =
    sum_by-append (λ x. cond (is_same x name) 1 0) (name_below parent o) (names_below rows parent)
    ∙ (λ i. count_of_row parent name o i + count_of_rows parent name rows i)
    ∙ sym (sum_by-cons (λ x. cond (is_entry parent name x) 1 0) o rows)

find_none : (rows : Rows) (parent : ℕ) (name : List ℕ) (f : Option (ℕ × ℕ)) → find_name rows parent name ≡ f
    → child_named rows parent name ≡ None → find_name rows parent name ≡ None
find_none rows parent name None is none = is
find_none rows parent name (Some found) is none =
    let never : Some found.1 ≡ None = sym (ap (option_and_then (λ (f : ℕ × ℕ). Some f.1)) is) ∙ none in
    cc

entry : (rows : Rows) (parent : ℕ) (name : List ℕ) (child : ℕ) → (l : NamingLine rows parent name child) → is_entry parent name (row rows l.line) ≡ true
entry rows parent name child l =
    subst (λ p. is_entry p name (row rows l.line) ≡ true) l.parent_is
    (subst (λ n. is_entry l.at.parent n (row rows l.line) ≡ true) l.name_is (is_entry-own (row rows l.line) l.at l.is))

empty : (rows : Rows) (parent : ℕ) (name : List ℕ) → find_name rows parent name ≡ None → count_by (is_entry parent name) rows ≡ 0
empty rows parent name none = by (count_by (is_entry parent name) rows) refl
  where
    by : (n : ℕ) → count_by (is_entry parent name) rows ≡ n → count_by (is_entry parent name) rows ≡ 0
    by zero is = is
    by (suc n) is =
        let found = count_by-some (is_entry parent name) rows None (omega (arith, is)) in
        absurd (both_ways (is_entry parent name (row rows found.0)) (find_name-none rows parent name none found.0) found.2)

-- a name that a row has below the parent leads to a child
named-some : (rows : Rows) (parent k : ℕ) (r : NameRow) → row rows k ≡ Some r → r.parent ≡ parent
    → is_some (child_named rows parent r.name) ≡ true
named-some rows parent k r is below = by (find_name rows parent r.name) refl
  where
    by : (f : Option (ℕ × ℕ)) → find_name rows parent r.name ≡ f → is_some (child_named rows parent r.name) ≡ true
    by None none =
        let own : is_entry parent r.name (row rows k) ≡ true =
        subst (λ p. is_entry p r.name (row rows k) ≡ true) below (is_entry-own (row rows k) r is)
        in
        absurd (both_ways (is_entry parent r.name (row rows k)) (find_name-none rows parent r.name none k) own)
    by (Some found) found_is = ap (λ f. is_some (option_and_then (λ (f : ℕ × ℕ). Some f.1) f)) found_is

all-one : (P : List ℕ → Type 0) (name : List ℕ) → P name → All P (name ∷ [])
all-one P name holds = λ k d below. at k d below
  where
    at : (k : ℕ) (d : List ℕ) → k < length (name ∷ []) → P (get_or (name ∷ []) k d)
    at zero d below = holds
    at (suc k) d below = absurd (omega arith)

-- what holds of the name of each row below a parent holds of all names below it
all-below : (P : List ℕ → Type 0) (parent : ℕ) (rows : Rows)
    → ((k : ℕ) (r : NameRow) → row rows k ≡ Some r → r.parent ≡ parent → P r.name) → All P (names_below rows parent)
all-below P parent [] holds = λ k d below. absurd (omega arith)
all-below P parent (None ∷ rows) holds = all-below P parent rows (λ k. holds (suc k))
all-below P parent (Some r ∷ rows) holds =
    All-append P (name_below parent (Some r)) (names_below rows parent) (own (r.parent == parent) refl) (all-below P parent rows (λ k. holds (suc k)))
  where
    own : (b : Bool) → (r.parent == parent) ≡ b → All P (cond b (r.name ∷ []) [])
    own true is = all-one P r.name (holds 0 r refl (eqb-true r.parent parent is))
    own false is = λ k d below. absurd (omega arith)

pub below-lead : (rows : Rows) (parent : ℕ) → All (λ name. is_some (child_named rows parent name) ≡ true) (names_below rows parent)
below-lead rows parent = all-below (λ name. is_some (child_named rows parent name) ≡ true) parent rows (named-some rows parent)

pub count-child : (rows : Rows) (parent : ℕ) (name : List ℕ) → IsKeyed rows
    → count_by (λ x. is_same x name) (names_below rows parent) ≡ cond (is_some (child_named rows parent name)) 1 0
count-child rows parent name keyed = by (child_named rows parent name) refl
  where
    by : (o : Option ℕ) → child_named rows parent name ≡ o
        → count_by (λ x. is_same x name) (names_below rows parent) ≡ cond (is_some (child_named rows parent name)) 1 0
    by None none =
        let missing : count_by (is_entry parent name) rows ≡ 0 = empty rows parent name (find_none rows parent name (find_name rows parent name) refl none) in
        count_of_rows parent name rows ∙ missing ∙ sym (ap (λ (o : Option ℕ). cond (is_some o) 1 0) none)
    by (Some child) is =
        let line = NamingLine-child_named rows parent name child is in
        let least : 1 ≤ count_by (is_entry parent name) rows =
        count_by-at (is_entry parent name) rows line.line None line.within (entry rows parent name child line)
        in
        let most = names_below-once rows parent name keyed in
        let same = count_of_rows parent name rows in
        let one : count_by (λ x. is_same x name) (names_below rows parent) ≡ 1 = omega (arith, least, most, same) in
        one ∙ sym (ap (λ (o : Option ℕ). cond (is_some o) 1 0) is)
