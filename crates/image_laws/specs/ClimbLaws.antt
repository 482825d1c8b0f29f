-- Laws of going up in a table of names of any kind, also one in which a directory has two names or a path leads back.
use Rattle.std.specs.Prelude.{◌≡◌, ◌≢◌, ℕ, zero, suc, ◌+◌, ◌-◌, ◌≤◌, ◌==◌, Bool, true, false, Option, Some, None, option_and_then, refl}
use Rattle.std.proofs.Common.{arith, inl, inr, ap, sym, ◌∙◌, subst}
use Rattle.std.proofs.lemmas.Bool.{both_ways, cases_lt, eq-eqb, eqb-true, or_cases, or_left, or_right}
use Rattle.std.proofs.lemmas.Option.{option_and_then_some, same_Some}
use Rattle.volume_laws.specs.layout_model.Lines.{NameRow}
use Rattle.volume_laws.specs.layout_model.Names.{Rows, row, is_child, parent_of_row, first_row_from, parent_of, up, holds_above, ends_at_root}
use Rattle.volume_laws.specs.layout_model.RowLaws.{first_row-is, first_row-none}
use Rattle.volume_laws.specs.layout_model.TableLaws.{is_child-parts}
use Rattle.volume_laws.specs.layout_model.Tables.{IsFirstRow}
use Rattle.volume_laws.specs.layout_model.UpLaws.{up-add, up-past}

-- The directory above an inode is the parent in the lowest line whose child it is.
pub record IsLowestName (rows : Rows) (ino : ℕ) (r : NameRow) : Type 0 where
  pub line : ℕ
  pub first : IsFirstRow (is_child ino) rows line (Some r)

pub parent_of-lowest : (rows : Rows) (ino parent : ℕ) → parent_of rows ino ≡ Some parent → (r : NameRow) × IsLowestName rows ino r × (r.parent ≡ parent)
parent_of-lowest rows ino parent h =
    option_and_then_some (λ found. Some (parent_of_row found.1)) (first_row_from (is_child ino) 0 rows) parent h
    (λ found is_found is_parent.
    let first : IsFirstRow (is_child ino) rows found.0 found.1 = first_row-is (is_child ino) rows found.0 found.1 is_found in
    let parts = is_child-parts ino found.1 first.passes in (
      parts.0,
      record { line = found.0; first = subst (IsFirstRow (is_child ino) rows found.0) parts.1 first },
      sym (ap parent_of_row parts.1) ∙ same_Some (parent_of_row found.1) parent is_parent,
    ))

pub parent_of-none : (rows : Rows) (ino : ℕ) → parent_of rows ino ≡ None → (r : NameRow) → IsLowestName rows ino r → ⊥
parent_of-none rows ino h r lowest = look (first_row_from (is_child ino) 0 rows) refl h
  where
    look : (o : Option (ℕ × Option NameRow)) → first_row_from (is_child ino) 0 rows ≡ o → option_and_then (λ found. Some (parent_of_row found.1)) o ≡ None → ⊥
    look None e g =
        both_ways (is_child ino (row rows lowest.line)) (first_row-none (is_child ino) rows e lowest.line lowest.first.within)
        (ap (is_child ino) lowest.first.is ∙ lowest.first.passes)
    look (Some found) e g = cc

-- The fold decides whether some number of steps, up to n, leads to the root.
pub record ReachesRoot (rows : Rows) (n ino : ℕ) : Type 0 where
  pub steps : ℕ
  pub within : steps ≤ n
  pub root : up rows steps ino ≡ Some 0

one_more : (rows : Rows) (n ino parent : ℕ) → parent_of rows ino ≡ Some parent → ReachesRoot rows n parent → ReachesRoot rows (suc n) ino
unfolding up
one_more rows n ino parent above r =
    record { steps = suc r.steps; within = omega (arith, r.within); root = ap (option_and_then (up rows r.steps)) above ∙ r.root }

at_root : (rows : Rows) (n ino : ℕ) → (ino == 0) ≡ true → ReachesRoot rows n ino
unfolding up
at_root rows n ino h = record { steps = 0; within = omega arith; root = ap (λ (i : ℕ). Some i) (eqb-true ino 0 h) }

above-some : (test : ℕ → Bool) (o : Option ℕ) → holds_above test o ≡ true → (parent : ℕ) × (o ≡ Some parent) × (test parent ≡ true)
above-some test None h = cc
above-some test (Some parent) h = (parent, refl, h)

pub ends-reaches : (rows : Rows) (n ino : ℕ) → ends_at_root rows n ino ≡ true → ReachesRoot rows n ino
unfolding ends_at_root
ends-reaches rows zero ino h = at_root rows 0 ino h
ends-reaches rows (suc n) ino h =
    elim (or_cases (ino == 0) (holds_above (ends_at_root rows n) (parent_of rows ino)) h) [
      | inl here ↦ at_root rows (suc n) ino here
      | inr later ↦
          let above : (parent : ℕ) × (parent_of rows ino ≡ Some parent) × (ends_at_root rows n parent ≡ true) =
          above-some (ends_at_root rows n) (parent_of rows ino) later
          in
          one_more rows n ino above.0 above.1 (ends-reaches rows n above.0 above.2)
    ]

reaches-steps : (rows : Rows) (n k ino : ℕ) → k ≤ n → up rows k ino ≡ Some 0 → ends_at_root rows n ino ≡ true
unfolding up ends_at_root
reaches-steps rows zero zero ino within h = eq-eqb ino 0 (same_Some ino 0 h)
reaches-steps rows zero (suc k) ino within h = absurd (omega arith)
reaches-steps rows (suc n) zero ino within h =
    or_left (ino == 0) (holds_above (ends_at_root rows n) (parent_of rows ino)) (eq-eqb ino 0 (same_Some ino 0 h))
reaches-steps rows (suc n) (suc k) ino within h =
    option_and_then_some (up rows k) (parent_of rows ino) 0 h
    (λ parent is_parent is_root.
    or_right (ino == 0) (holds_above (ends_at_root rows n) (parent_of rows ino))
    (ap (holds_above (ends_at_root rows n)) is_parent ∙ reaches-steps rows n k parent (omega arith) is_root))

pub reaches-ends : (rows : Rows) (n ino : ℕ) → ReachesRoot rows n ino → ends_at_root rows n ino ≡ true
reaches-ends rows n ino r = reaches-steps rows n r.steps ino r.within r.root

-- The root is reached from itself; and within more steps, where within fewer.
pub ends_at_root-root : (rows : Rows) (n : ℕ) → ends_at_root rows n 0 ≡ true
unfolding ends_at_root
ends_at_root-root rows zero = refl
ends_at_root-root rows (suc n) = refl

pub ends_at_root-more : (rows : Rows) (m n ino : ℕ) → m ≤ n → ends_at_root rows m ino ≡ true → ends_at_root rows n ino ≡ true
ends_at_root-more rows m n ino more h =
    let r = ends-reaches rows m ino h in
    reaches-ends rows n ino (record { steps = r.steps; within = omega (arith, r.within); root = r.root })

-- A way up that comes back to an inode, and did not come to the root before, never does.
round_again : (rows : Rows) (m ino fuel n : ℕ) → up rows (suc m) ino ≡ Some ino → ((k : ℕ) → k ≤ m → up rows k ino ≢ Some 0) → n ≤ fuel → up rows n ino ≢ Some 0
round_again rows m ino zero n back apart within h = apart n (omega arith) h
round_again rows m ino (suc fuel) n back apart within h =
    elim (cases_lt m n) [
      | inr early ↦ apart n early h
      | inl late ↦
          let split : suc m + (n - suc m) ≡ n = omega arith in
          let shorter : up rows (n - suc m) ino ≡ Some 0 =
          sym (ap (λ k. up rows k ino) (sym split) ∙ up-add rows (suc m) (n - suc m) ino ∙ ap (option_and_then (up rows (n - suc m))) back) ∙ h
          in
          round_again rows m ino fuel (n - suc m) back apart (omega arith) shorter
    ]

pub return-no_root : (rows : Rows) (m ino : ℕ) → up rows (suc m) ino ≡ Some ino → ((k : ℕ) → k ≤ m → up rows k ino ≢ Some 0) → (n : ℕ) → ends_at_root rows n ino ≡ false
return-no_root rows m ino back apart n = none (ends_at_root rows n ino) refl
  where
    none : (b : Bool) → ends_at_root rows n ino ≡ b → b ≡ false
    none false e = refl
    none true e =
        let r = ends-reaches rows n ino e in
        absurd (round_again rows m ino r.steps r.steps back apart (omega arith) r.root)

-- A way up that stops at another inode than the root, and did not come to the root before, never does.
pub stop-no_root : (rows : Rows) (m ino top : ℕ) → up rows m ino ≡ Some top → parent_of rows top ≡ None → ((k : ℕ) → k ≤ m → up rows k ino ≢ Some 0) → (n : ℕ) → ends_at_root rows n ino ≡ false
stop-no_root rows m ino top stop none_above apart n = none (ends_at_root rows n ino) refl
  where
    none : (b : Bool) → ends_at_root rows n ino ≡ b → b ≡ false
    none false e = refl
    none true e =
        let r = ends-reaches rows n ino e in
        elim (cases_lt m r.steps) [
          | inr early ↦ absurd (apart r.steps early r.root)
          | inl late ↦ absurd (let past : up rows r.steps ino ≡ None = up-past rows m r.steps ino top stop none_above late in cc (past, r.root))
        ]
