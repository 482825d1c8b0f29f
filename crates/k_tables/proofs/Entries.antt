-- Whether a directory has entries, by its height.
use Rattle.std.proofs.Common.{◌≡◌, ℕ, suc, ◌≤◌, Bool, true, false, List, [], ◌∷◌, length, Option, Some, None, refl, sym, ◌∙◌, ap, subst, arith}
use Rattle.std.specs.Prelude.{nat_lt, ◌==◌, ◌||◌, IsSome, option_and_then}
use Rattle.std.proofs.lemmas.Bool.{both_ways, eqb-true}
use Rattle.std.proofs.lemmas.Bool.Decides.{nat_tests}
use Rattle.layout_model.specs.Lines.{NameRow}
use Rattle.layout_model.specs.Names.{Rows, row, is_entry, find_name, has_entries, walk, HasHeight}
use Rattle.layout_model.specs.TableLaws.{is_entry-own, find_name-none, walk-one, walk-step}
use Rattle.name_laws.specs.RowLaws.{has_entries-line}
use Rattle.name_laws.specs.k_split_model.Spaces.{entries_of}
use Rattle.posix_tables.specs.Names.{has_entries as has_entries_in}
use Rattle.name_laws.specs.EntryLaws.{has_entries-rows}

-- a line below the parent
pub record LineBelow (rows : Rows) (parent : ℕ) : Type 0 where
  pub line : ℕ
  pub at : NameRow
  pub is : row rows line ≡ Some at
  pub below : at.parent ≡ parent

line-below : (rows : Rows) (parent : ℕ) → has_entries rows parent ≡ true → LineBelow rows parent
line-below [] parent has = cc
line-below (None ∷ rows) parent has = later (line-below rows parent has)
  where
    later : LineBelow rows parent → LineBelow (None ∷ rows) parent
    later l = record { line = suc l.line; at = l.at; is = l.is; below = l.below }
line-below (Some r ∷ rows) parent has = by (r.parent == parent) refl has (line-below rows parent)
  where
    by : (b : Bool) → (r.parent == parent) ≡ b → (b || has_entries rows parent) ≡ true
        → (has_entries rows parent ≡ true → LineBelow rows parent) → LineBelow (Some r ∷ rows) parent
    by true is has later = record { line = 0; at = r; is = refl; below = eqb-true r.parent parent is }
    by false is has later =
        let l : LineBelow rows parent = later has in
        record { line = suc l.line; at = l.at; is = l.is; below = l.below }

-- a line below a directory shows a path of one name
one_name : (rows : Rows) (parent : ℕ) → LineBelow rows parent → (name : List ℕ) × (child : ℕ) × (walk rows parent (name ∷ []) ≡ Some child)
one_name rows parent l = by (find_name rows parent l.at.name) refl
  where
    by : (o : Option (ℕ × ℕ)) → find_name rows parent l.at.name ≡ o
        → (name : List ℕ) × (child : ℕ) × (walk rows parent (name ∷ []) ≡ Some child)
    by None none =
        let own : is_entry parent l.at.name (row rows l.line) ≡ true =
        subst (λ p. is_entry p l.at.name (row rows l.line) ≡ true) l.below (is_entry-own (row rows l.line) l.at l.is)
        in
        absurd (both_ways (is_entry parent l.at.name (row rows l.line)) (find_name-none rows parent l.at.name none l.line) own)
    by (Some found) is =
        (l.at.name, found.1, walk-one rows parent l.at.name found.1 (ap (option_and_then (λ (f : ℕ × ℕ). Some f.1)) is))

-- a directory without entries has no path
no_path : (rows : Rows) (parent : ℕ) (names : List (List ℕ)) → has_entries rows parent ≡ false → IsSome (walk rows parent names)
    → length names ≡ 0
no_path rows parent [] none leads = refl
no_path rows parent (name ∷ names) none leads = by (walk rows parent (name ∷ names)) refl leads
  where
    by : (o : Option ℕ) → walk rows parent (name ∷ names) ≡ o → IsSome o → length (name ∷ names) ≡ 0
    by None is some = cc
    by (Some end) is some =
        let step = walk-step rows parent name names end is in
        absurd (both_ways (has_entries rows parent) none
        (has_entries-line rows parent step.first.line step.first.at step.first.is step.first.parent_is))

pub entries-height : (rows : Rows) (parent h : ℕ) → HasHeight rows parent h → nat_lt 0 h ≡ has_entries_in (entries_of rows) parent
entries-height rows parent h height = by (has_entries rows parent) refl ∙ sym (has_entries-rows rows parent)
  where
    by : (b : Bool) → has_entries rows parent ≡ b → nat_lt 0 h ≡ has_entries rows parent
    by true has =
        let path = one_name rows parent (line-below rows parent has) in
        let some : IsSome (walk rows parent (path.0 ∷ [])) = subst (λ (o : Option ℕ). IsSome o) (sym path.2) refl in
        let least : 1 ≤ h = height.none_longer (path.0 ∷ []) some in
        let high : nat_lt 0 h ≡ true = grind (arith, nat_tests) in
        high ∙ sym has
    by false none =
        let longest = height.some in
        let flat : h ≡ 0 = sym longest.1 ∙ no_path rows parent longest.0 none longest.2 in
        ap (nat_lt 0) flat ∙ sym none
