-- Which paths lead where after one line was taken for a new node, or freed of one without entries.
use Rattle.std.specs.Prelude.{◌≡◌, ◌≢◌, ◌⊎◌, ℕ, ◌<◌, ◌≤◌, List, [], ◌∷◌, ◌++◌, length, true, false, slice_set, Some, None, option_and_then, refl}
use Rattle.std.proofs.Common.{ap, sym, ◌∙◌, inl, inr}
use Rattle.std.proofs.lemmas.Bool.{both_ways, cases_Bool, eq-eqb, false_from_ne_true}
use Rattle.std.proofs.lemmas.Option.{option_and_then_some, same_Some}
use Rattle.volume_laws.specs.layout_model.Lines.{NameRow}
use Rattle.volume_laws.specs.layout_model.Names.{Rows, row, is_entry, is_child, child_named, names_of, has_entries, walk}
use Rattle.volume_laws.specs.layout_model.TableLaws.{is_entry-parts, child_named-at, child_named-NamingLine, walk-cons, walk-one, walk-append, walk-step}
use Rattle.volume_laws.specs.layout_model.Tables.{IsKeyed, NamingLine}
use Rattle.name_laws.specs.RowLaws.{row-below, has_entries-line, names_of-one_line}
use Rattle.name_laws.specs.SetLaws.{is_entry-apart, child_named-past, child_named-set, row-freed, has_entries-taken_other}

-- from an inode without entries only the empty path leads on
pub walk-empty : (rows : Rows) (ino : ℕ) (names : List (List ℕ)) (end : ℕ) → has_entries rows ino ≡ false
    → walk rows ino names ≡ Some end → ino ≡ end
unfolding walk
walk-empty rows ino [] end empty leads = same_Some ino end leads
walk-empty rows ino (name ∷ names) end empty leads =
    let step = walk-step rows ino name names end leads in
    absurd (both_ways (has_entries rows ino) empty
    (has_entries-line rows ino step.first.line step.first.at step.first.is step.first.parent_is))

-- ---- a line is taken

-- a path that led somewhere leads there still
pub walk-kept : (rows : Rows) (line : ℕ) (r : NameRow) (ino : ℕ) (names : List (List ℕ)) (end : ℕ)
    → row rows line ≡ None → child_named rows r.parent r.name ≡ None
    → walk rows ino names ≡ Some end → walk (slice_set rows line (Some r)) ino names ≡ Some end
unfolding walk
walk-kept rows line r ino [] end free new leads = leads
walk-kept rows line r ino (name ∷ names) end free new leads =
    option_and_then_some (λ c. walk rows c names) (child_named rows ino name) end leads
    (λ c is_child rest.
    let other : is_entry ino name (Some r) ≡ false =
    is_entry-apart ino name r (λ parent_is name_is.
    let none : child_named rows ino name ≡ None = sym (λ i. child_named rows (parent_is i) (name_is i)) ∙ new in
    let clash : None ≡ Some c = sym none ∙ is_child in
    cc)
    in
    walk-cons (slice_set rows line (Some r)) ino name names c
    (child_named-past rows line (Some r) ino name (ap (is_entry ino name) free) other ∙ is_child)
    ∙ walk-kept rows line r c names end free new rest)

-- the new name is found behind each path to its directory
pub walk-new : (rows : Rows) (line : ℕ) (r : NameRow) (ino : ℕ) (names : List (List ℕ)) → line < length rows
    → IsKeyed rows → row rows line ≡ None
    → ((k : ℕ) → is_entry r.parent r.name (row rows k) ≡ true → k ≡ line) → child_named rows r.parent r.name ≡ None
    → walk rows ino names ≡ Some r.parent → walk (slice_set rows line (Some r)) ino (names ++ r.name ∷ []) ≡ Some r.child
walk-new rows line r ino names within keyed free new none leads =
    let others = slice_set rows line (Some r) in
    walk-append others ino names (r.name ∷ [])
    ∙ ap (option_and_then (λ c. walk others c (r.name ∷ []))) (walk-kept rows line r ino names r.parent free none leads)
    ∙ walk-one others r.parent r.name r.child (child_named-set rows line r within keyed new)

-- the child of the entry that was set
entry_child : (rows : Rows) (line : ℕ) (r : NameRow) (ino : ℕ) (name : List ℕ) (c : ℕ) → line < length rows
    → IsKeyed rows → ((k : ℕ) → is_entry r.parent r.name (row rows k) ≡ true → k ≡ line)
    → is_entry ino name (Some r) ≡ true → child_named (slice_set rows line (Some r)) ino name ≡ Some c → c ≡ r.child
entry_child rows line r ino name c within keyed new entry is_child =
    let parts = is_entry-parts ino name (Some r) entry in
    let is : r ≡ parts.0 = same_Some r parts.0 parts.1 in
    let parent_is : r.parent ≡ ino = ap (λ (x : NameRow). x.parent) is ∙ parts.2 in
    let name_is : r.name ≡ name = ap (λ (x : NameRow). x.name) is ∙ parts.3 in
    same_Some c r.child (sym is_child
    ∙ sym (λ i. child_named (slice_set rows line (Some r)) (parent_is i) (name_is i))
    ∙ child_named-set rows line r within keyed new)

-- and no other path leads where none led: a path leads where it led, or to the new child
pub walk-taken : (rows : Rows) (line : ℕ) (r : NameRow) (ino : ℕ) (names : List (List ℕ)) (end : ℕ)
    → line < length rows → IsKeyed rows → row rows line ≡ None
    → ((k : ℕ) → is_entry r.parent r.name (row rows k) ≡ true → k ≡ line) → has_entries rows r.child ≡ false
    → r.parent ≢ r.child
    → walk (slice_set rows line (Some r)) ino names ≡ Some end → (walk rows ino names ≡ Some end) ⊎ (end ≡ r.child)
unfolding walk
walk-taken rows line r ino [] end within keyed free new empty apart leads = inl leads
walk-taken rows line r ino (name ∷ names) end within keyed free new empty apart leads =
    option_and_then_some (λ c. walk (slice_set rows line (Some r)) c names)
    (child_named (slice_set rows line (Some r)) ino name) end leads
    (λ c is_child rest. elim (cases_Bool (is_entry ino name (Some r))) [
      | inl entry ↦
          let still : has_entries (slice_set rows line (Some r)) r.child ≡ false = has_entries-taken_other rows line r r.child free apart ∙ empty in
          let same : c ≡ r.child = entry_child rows line r ino name c within keyed new entry is_child in
          inr (sym (walk-empty (slice_set rows line (Some r)) c names end
          (ap (has_entries (slice_set rows line (Some r))) same ∙ still) rest) ∙ same)
      | inr away ↦
          let before : child_named rows ino name ≡ Some c = sym (child_named-past rows line (Some r) ino name (ap (is_entry ino name) free) away) ∙ is_child in
          elim (walk-taken rows line r c names end within keyed free new empty apart rest) [
            | inl led ↦ inl (walk-cons rows ino name names c before ∙ led)
            | inr here ↦ inr here
          ]
    ])

-- ---- a line is freed

-- a path that leads somewhere led there
pub walk-led : (rows : Rows) (line : ℕ) (ino : ℕ) (names : List (List ℕ)) (end : ℕ) → IsKeyed rows
    → walk (slice_set rows line None) ino names ≡ Some end → walk rows ino names ≡ Some end
unfolding walk
walk-led rows line ino [] end keyed leads = leads
walk-led rows line ino (name ∷ names) end keyed leads =
    let step = walk-step (slice_set rows line None) ino name names end leads in
    let before = row-freed rows line step.first.line step.first.at step.first.is in
    let named : NamingLine rows ino name step.child =
    record {
      line = step.first.line;
      at = step.first.at;
      within = row-below rows step.first.line step.first.at before.1;
      is = before.1;
      parent_is = step.first.parent_is;
      name_is = step.first.name_is;
      child_is = step.first.child_is;
    }
    in
    walk-cons rows ino name names step.child (child_named-NamingLine rows ino name step.child keyed named)
    ∙ walk-led rows line step.child names end keyed step.rest

-- a path to another inode than the child, which has no entries, leads there still
pub walk-stays : (rows : Rows) (line : ℕ) (r : NameRow) (ino : ℕ) (names : List (List ℕ)) (end : ℕ) → IsKeyed rows
    → row rows line ≡ Some r → has_entries rows r.child ≡ false → end ≢ r.child
    → walk rows ino names ≡ Some end → walk (slice_set rows line None) ino names ≡ Some end
unfolding walk
walk-stays rows line r ino [] end keyed is empty apart leads = leads
walk-stays rows line r ino (name ∷ names) end keyed is empty apart leads =
    option_and_then_some (λ c. walk rows c names) (child_named rows ino name) end leads
    (λ c is_child rest.
    let other : c ≢ r.child = λ e. apart (sym (walk-empty rows c names end (ap (has_entries rows) e ∙ empty) rest) ∙ e) in
    let away : is_entry ino name (row rows line) ≡ false =
    false_from_ne_true (is_entry ino name (row rows line)) (λ entry.
    let parts = is_entry-parts ino name (row rows line) entry in
    let same : r ≡ parts.0 = same_Some r parts.0 (sym is ∙ parts.1) in
    let parent_is : r.parent ≡ ino = ap (λ (x : NameRow). x.parent) same ∙ parts.2 in
    let name_is : r.name ≡ name = ap (λ (x : NameRow). x.name) same ∙ parts.3 in
    let own : child_named rows r.parent r.name ≡ Some r.child = child_named-at rows line r keyed (row-below rows line r is) is in
    other (same_Some c r.child (sym is_child ∙ sym (λ i. child_named rows (parent_is i) (name_is i)) ∙ own)))
    in
    walk-cons (slice_set rows line None) ino name names c (child_named-past rows line None ino name away refl ∙ is_child)
    ∙ walk-stays rows line r c names end keyed is empty apart rest)

-- no path leads to a child whose one line was freed
pub walk-gone : (rows : Rows) (line : ℕ) (r : NameRow) (ino : ℕ) (names : List (List ℕ)) → row rows line ≡ Some r
    → names_of rows r.child ≤ 1 → ino ≢ r.child
    → walk (slice_set rows line None) ino names ≢ Some r.child
unfolding walk
walk-gone rows line r ino [] is few apart leads = apart (same_Some ino r.child leads)
walk-gone rows line r ino (name ∷ names) is few apart leads =
    let step = walk-step (slice_set rows line None) ino name names r.child leads in
    let before = row-freed rows line step.first.line step.first.at step.first.is in
    let other : step.child ≢ r.child =
    λ e. before.0 (names_of-one_line rows r.child step.first.line line few
    (ap (is_child r.child) before.1 ∙ eq-eqb step.first.at.child r.child (step.first.child_is ∙ e))
    (ap (is_child r.child) is ∙ eq-eqb r.child r.child refl))
    in
    walk-gone rows line r step.child names is few other step.rest
