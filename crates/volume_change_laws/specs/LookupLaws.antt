-- What each name leads to after a change: the new name to the child, one that went nowhere, and each other one where it led.
use Rattle.std.specs.Prelude.{◌≡◌, ◌≢◌, ◌⊎◌, ℕ, ◌<◌, List, length, true, false, cond, slice_set, Option, Some, None, option_and_then, refl}
use Rattle.std.proofs.Common.{ap, sym, ◌∙◌, subst, inl, inr}
use Rattle.std.proofs.lemmas.Bool.{cases_eq, cases_Bool, cond-true, cond-false, false_from_ne_true}
use Rattle.name_laws.specs.volume_laws.layout_model.Lines.{NameRow}
use Rattle.name_laws.specs.volume_laws.layout_model.Names.{Rows, row, is_entry, line_and_child, child_named}
use Rattle.name_laws.specs.volume_laws.layout_model.TableLaws.{is_entry-own, is_entry-parts}
use Rattle.name_laws.specs.volume_laws.layout_model.Tables.{IsKeyed}
use Rattle.name_laws.specs.RowLaws.{first_row-nothing, row-below}
use Rattle.name_laws.specs.SetLaws.{keyed-freed, row-freed, child_named-past, child_named-set, child_named-taken, child_named-freed, child_named-freed_other}
use Rattle.name_laws.specs.volume_laws.Changes.{row-set_same, row-set_other}

-- a name leads to the child of a row where it is that row's, and else where it led
abbrev pub leads_to : NameRow → (ℕ → List ℕ → Option ℕ) → ℕ → List ℕ → Option ℕ
leads_to r names parent name = cond (is_entry parent name (Some r)) (Some r.child) (names parent name)

-- it leads nowhere where it is that row's
abbrev pub leads_nowhere : NameRow → (ℕ → List ℕ → Option ℕ) → ℕ → List ℕ → Option ℕ
leads_nowhere r names parent name = cond (is_entry parent name (Some r)) None (names parent name)

pub names-taken : (rows : Rows) (line : ℕ) (r : NameRow) (parent : ℕ) (name : List ℕ) → line < length rows
    → row rows line ≡ None
    → child_named rows r.parent r.name ≡ None
    → child_named (slice_set rows line (Some r)) parent name ≡ leads_to r (child_named rows) parent name
names-taken rows line r parent name within free new = child_named-taken rows line r parent name within free (λ entry.
    let parts = is_entry-parts parent name (Some r) entry in
    let same : Some r ≡ Some parts.0 = parts.1 in
    let is : r ≡ parts.0 = cc in
    subst (λ p. child_named rows p name ≡ None) (ap (λ (x : NameRow). x.parent) is ∙ parts.2)
    (subst (λ n. child_named rows r.parent n ≡ None) (ap (λ (x : NameRow). x.name) is ∙ parts.3) new))

pub names-freed : (rows : Rows) (line : ℕ) (r : NameRow) (parent : ℕ) (name : List ℕ) → IsKeyed rows
    → row rows line ≡ Some r
    → child_named (slice_set rows line None) parent name ≡ leads_nowhere r (child_named rows) parent name
names-freed rows line r parent name keyed is = elim (cases_Bool (is_entry parent name (Some r))) [
  | inl own ↦
      let parts = is_entry-parts parent name (Some r) own in
      let same : Some r ≡ Some parts.0 = parts.1 in
      let its : r ≡ parts.0 = cc in
      let gone = child_named-freed rows line r keyed is in
      subst (λ p. child_named (slice_set rows line None) p name ≡ None) (ap (λ (x : NameRow). x.parent) its ∙ parts.2)
      (subst (λ n. child_named (slice_set rows line None) r.parent n ≡ None) (ap (λ (x : NameRow). x.name) its ∙ parts.3) gone)
      ∙ sym (cond-true (is_entry parent name (Some r)) None (child_named rows parent name) own)
  | inr other ↦
      child_named-freed_other rows line parent name (ap (is_entry parent name) is ∙ other)
      ∙ sym (cond-false (is_entry parent name (Some r)) None (child_named rows parent name) other)
]

-- a line goes over to another row, whose name is new or its own
pub names-moved : (rows : Rows) (line : ℕ) (r s : NameRow) (parent : ℕ) (name : List ℕ) → IsKeyed rows
    → row rows line ≡ Some r
    → ((k : ℕ) → is_entry s.parent s.name (row rows k) ≡ true → k ≡ line)
    → child_named (slice_set rows line (Some s)) parent name ≡ leads_to s (leads_nowhere r (child_named rows)) parent name
names-moved rows line r s parent name keyed is new = elim (cases_Bool (is_entry parent name (Some s))) [
  | inl own ↦
      let parts = is_entry-parts parent name (Some s) own in
      let same : Some s ≡ Some parts.0 = parts.1 in
      let its : s ≡ parts.0 = cc in
      let found = child_named-set rows line s (row-below rows line r is) keyed new in
      subst (λ p. child_named (slice_set rows line (Some s)) p name ≡ Some s.child) (ap (λ (x : NameRow). x.parent) its ∙ parts.2)
      (subst (λ n. child_named (slice_set rows line (Some s)) s.parent n ≡ Some s.child) (ap (λ (x : NameRow). x.name) its ∙ parts.3) found)
      ∙ sym (cond-true (is_entry parent name (Some s)) (Some s.child) (leads_nowhere r (child_named rows) parent name) own)
  | inr other ↦
      elsewhere other (cases_Bool (is_entry parent name (Some r)))
      ∙ sym (cond-false (is_entry parent name (Some s)) (Some s.child) (leads_nowhere r (child_named rows) parent name) other)
]
  where
    none_has : is_entry parent name (Some s) ≡ false → is_entry parent name (Some r) ≡ true → (k : ℕ)
        → is_entry parent name (row (slice_set rows line (Some s)) k) ≡ false
    none_has other own k = elim (cases_eq k line) [
      | inl here ↦
          ap (λ n. is_entry parent name (row (slice_set rows line (Some s)) n)) here
          ∙ ap (is_entry parent name) (row-set_same rows line (Some s) (row-below rows line r is)) ∙ other
      | inr apart ↦
          ap (is_entry parent name) (row-set_other rows line (Some s) k apart)
          ∙ false_from_ne_true (is_entry parent name (row rows k)) (λ entry. apart (keyed.one_line parent name k line entry (ap (is_entry parent name) is ∙ own)))
    ]

    elsewhere : is_entry parent name (Some s) ≡ false
        → (is_entry parent name (Some r) ≡ true) ⊎ (is_entry parent name (Some r) ≡ false)
        → child_named (slice_set rows line (Some s)) parent name ≡ leads_nowhere r (child_named rows) parent name
    elsewhere other (inl own) =
        ap (λ o. option_and_then (λ (found : ℕ × ℕ). Some found.1) (option_and_then (λ found. Some (line_and_child found)) o))
        (first_row-nothing (is_entry parent name) 0 (slice_set rows line (Some s)) (none_has other own))
        ∙ sym (cond-true (is_entry parent name (Some r)) None (child_named rows parent name) own)
    elsewhere other (inr apart) =
        child_named-past rows line (Some s) parent name (ap (is_entry parent name) is ∙ apart) other
        ∙ sym (cond-false (is_entry parent name (Some r)) None (child_named rows parent name) apart)

-- the same where a line of that name was freed first
pub names-moved_over : (rows : Rows) (line : ℕ) (r s : NameRow) (target : ℕ) (t : NameRow) (parent : ℕ) (name : List ℕ)
    → IsKeyed rows
    → row rows line ≡ Some r → row rows target ≡ Some t → line ≢ target → t.parent ≡ s.parent → t.name ≡ s.name
    → child_named (slice_set (slice_set rows target None) line (Some s)) parent name ≡ leads_to s (leads_nowhere r (child_named rows)) parent name
names-moved_over rows line r s target t parent name keyed is target_is apart same_parent same_name =
    names-moved freed line r s parent name (keyed-freed rows target keyed)
    (row-set_other rows target None line apart ∙ is) new
    ∙ beside (cases_Bool (is_entry parent name (Some s)))
  where
    freed : Rows
    freed = slice_set rows target None

    same_key : (p : ℕ) (n : List ℕ) → is_entry p n (Some t) ≡ is_entry p n (Some s)
    same_key p n = λ i. is_entry p n (Some (record { parent = same_parent i; child = t.child; name = same_name i }))

    new : (k : ℕ) → is_entry s.parent s.name (row freed k) ≡ true → k ≡ line
    new k entry =
        let parts = is_entry-parts s.parent s.name (row freed k) entry in
        let was = row-freed rows target k parts.0 parts.1 in
        let own : is_entry s.parent s.name (row rows k) ≡ true =
        ap (is_entry s.parent s.name) (was.1 ∙ sym parts.1) ∙ entry
        in
        let there : is_entry s.parent s.name (row rows target) ≡ true =
        ap (is_entry s.parent s.name) target_is ∙ same_key s.parent s.name ∙ is_entry-own (Some s) s refl
        in
        absurd (was.0 (keyed.one_line s.parent s.name k target own there))

    beside : (is_entry parent name (Some s) ≡ true) ⊎ (is_entry parent name (Some s) ≡ false)
        → leads_to s (leads_nowhere r (child_named freed)) parent name ≡ leads_to s (leads_nowhere r (child_named rows)) parent name
    beside (inl own) =
        cond-true (is_entry parent name (Some s)) _ _ own ∙ sym (cond-true (is_entry parent name (Some s)) _ _ own)
    beside (inr other) =
        let stays : child_named freed parent name ≡ child_named rows parent name =
        child_named-freed_other rows target parent name
        (ap (is_entry parent name) target_is ∙ same_key parent name ∙ other)
        in
        ap (λ o. cond (is_entry parent name (Some s)) (Some s.child) (cond (is_entry parent name (Some r)) None o)) stays
