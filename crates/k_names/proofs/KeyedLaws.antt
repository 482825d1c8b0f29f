-- No two lines have the same parent and name, where a line is freed, gets a name that no other line has, or gets the
-- name of a line that is freed.
use Rattle.std.proofs.Common.{◌≡◌, ◌≢◌, ◌<◌, ℕ, List, length, true, false, ap, arith, subst, sym, ◌∙◌, inl, inr}
use Rattle.std.proofs.lemmas.Bool.{cases_eq}
use Rattle.std.proofs.lemmas.List.{get_or-set_other, get_or-set_same, length-set}
use Rattle.std.specs.Prelude.{None, Some, slice_set}
use Rattle.layout_model.specs.Lines.{NameRow}
use Rattle.layout_model.specs.Names.{Rows, is_entry, row}
use Rattle.layout_model.specs.TableLaws.{is_entry-parts}
use Rattle.layout_model.specs.Tables.{IsKeyed}

pub cleared-keyed : (rows : Rows) (line : ℕ) → line < length rows → IsKeyed rows → IsKeyed (slice_set rows line None)
cleared-keyed rows line within keyed = record {
  one_line = λ parent name j k h g. keyed.one_line parent name j k (was j parent name h) (was k parent name g);
}
  where
    was : (k parent : ℕ) (name : List ℕ) → is_entry parent name (row (slice_set rows line None) k) ≡ true → is_entry parent name (row rows k) ≡ true
    was k parent name entry = elim (cases_eq k line) [
      | inl same ↦
          let gone : row (slice_set rows line None) k ≡ None = ap (row (slice_set rows line None)) same ∙ get_or-set_same rows line None None within in
          let never : false ≡ true = sym (ap (is_entry parent name) gone) ∙ entry in
          cc
      | inr apart ↦ sym (ap (is_entry parent name) (get_or-set_other rows line k None None apart)) ∙ entry
    ]

same_some : (a b : NameRow) → Some a ≡ Some b → a ≡ b
same_some a b same = cc

module _ (rows : Rows) (target line : ℕ) (r : NameRow) (keyed : IsKeyed rows) (freed : target < length rows) (within : line < length rows)
    (has : is_entry r.parent r.name (row rows target) ≡ true) where
  abbrev none : Rows
  none = slice_set rows target None

  abbrev new : Rows
  new = slice_set none line (Some r)

  -- what a line has that is in use afterwards, beside the one that gets the name
  was : (k parent : ℕ) (name : List ℕ) → k ≢ line → is_entry parent name (row new k) ≡ true → (k ≢ target) × (is_entry parent name (row rows k) ≡ true)
  was k parent name other entry =
      let before : is_entry parent name (row none k) ≡ true = sym (ap (is_entry parent name) (get_or-set_other none line k (Some r) None other)) ∙ entry in
      let apart : k ≢ target =
      λ at.
      (let gone : row none k ≡ None = ap (row none) at ∙ get_or-set_same rows target None None freed in
      let never : false ≡ true = sym (ap (is_entry parent name) gone) ∙ before in
      cc)
      in (apart, sym (ap (is_entry parent name) (get_or-set_other rows target k None None apart)) ∙ before)

  -- none of them has the name
  apart-named : (j k parent : ℕ) (name : List ℕ) → j ≡ line → k ≢ line → is_entry parent name (row new j) ≡ true
      → is_entry parent name (row new k) ≡ true → ⊥
  apart-named j k parent name at other entry_j entry_k =
      let here : row new j ≡ Some r = ap (row new) at ∙ get_or-set_same none line (Some r) None (omega (arith, within, length-set rows target None)) in
      let own = is_entry-parts parent name (row new j) entry_j in
      let row_is : r ≡ own.0 = same_some r own.0 (sym here ∙ own.1) in
      let parent_is : r.parent ≡ parent = ap (λ (s : NameRow). s.parent) row_is ∙ own.2 in
      let name_is : r.name ≡ name = ap (λ (s : NameRow). s.name) row_is ∙ own.3 in
      let there : is_entry parent name (row rows target) ≡ true = subst (λ p. is_entry p name (row rows target) ≡ true) parent_is
      (subst (λ n. is_entry r.parent n (row rows target) ≡ true) name_is has) in
      let before = was k parent name other entry_k in
      before.0 (keyed.one_line parent name k target before.1 there)

  pub new-keyed : IsKeyed new
  new-keyed = record {
    one_line = λ parent name j k entry_j entry_k. elim (cases_eq j line) [
      | inl j_at ↦ elim (cases_eq k line) [
        | inl k_at ↦ j_at ∙ sym k_at
        | inr other ↦ absurd (apart-named j k parent name j_at other entry_j entry_k)
      ]
      | inr j_other ↦ elim (cases_eq k line) [
        | inl k_at ↦ absurd (apart-named k j parent name k_at j_other entry_k entry_j)
        | inr k_other ↦ keyed.one_line parent name j k (was j parent name j_other entry_j).1 (was k parent name k_other entry_k).1
      ]
    ];
  }

-- a name that no other line has
module _ (rows : Rows) (line : ℕ) (r : NameRow) (keyed : IsKeyed rows) (within : line < length rows)
    (new : (k : ℕ) → is_entry r.parent r.name (row rows k) ≡ true → k ≡ line) where
  abbrev named : Rows
  named = slice_set rows line (Some r)

  old : (k parent : ℕ) (name : List ℕ) → k ≢ line → is_entry parent name (row named k) ≡ true → is_entry parent name (row rows k) ≡ true
  old k parent name other entry = sym (ap (is_entry parent name) (get_or-set_other rows line k (Some r) None other)) ∙ entry

  only : (j k parent : ℕ) (name : List ℕ) → j ≡ line → is_entry parent name (row named j) ≡ true → is_entry parent name (row named k) ≡ true → k ≡ line
  only j k parent name at entry_j entry_k = elim (cases_eq k line) [
    | inl same ↦ same
    | inr other ↦
        let here : row named j ≡ Some r = ap (row named) at ∙ get_or-set_same rows line (Some r) None within in
        let own = is_entry-parts parent name (row named j) entry_j in
        let row_is : r ≡ own.0 = same_some r own.0 (sym here ∙ own.1) in
        let parent_is : parent ≡ r.parent = sym (ap (λ (s : NameRow). s.parent) row_is ∙ own.2) in
        let name_is : name ≡ r.name = sym (ap (λ (s : NameRow). s.name) row_is ∙ own.3) in
        new k (subst (λ p. is_entry p r.name (row rows k) ≡ true) parent_is (subst (λ n. is_entry parent n (row rows k) ≡ true) name_is (old k parent name other entry_k)))
  ]

  pub set-keyed : IsKeyed named
  set-keyed = record {
    one_line = λ parent name j k entry_j entry_k. elim (cases_eq j line) [
      | inl j_at ↦ j_at ∙ sym (only j k parent name j_at entry_j entry_k)
      | inr j_other ↦ elim (cases_eq k line) [
        | inl k_at ↦ only k j parent name k_at entry_k entry_j ∙ sym k_at
        | inr k_other ↦ keyed.one_line parent name j k (old j parent name j_other entry_j) (old k parent name k_other entry_k)
      ]
    ];
  }
