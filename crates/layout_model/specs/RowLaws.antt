-- Laws of look-ups in a table of names.
use Rattle.std.specs.Prelude.{◌≡◌, ℕ, zero, suc, ◌+◌, ◌<◌, [], ◌∷◌, length, Bool, true, false, cond, Option, Some, None, refl}
use Rattle.std.proofs.Common.{arith, subst}
use Rattle.layout_model.specs.Lines.{NameRow}
use Rattle.layout_model.specs.Names.{Rows, row, first_row_from}
use Rattle.layout_model.specs.Tables.{IsFirstRow}

-- what a look-up says of the line that it finds
abbrev Found : (Option NameRow → Bool) → ℕ → Rows → Option (ℕ × Option NameRow) → Type 0
Found test n rows None = (j : ℕ) → j < length rows → test (row rows j) ≡ false
Found test n rows (Some found) = (j : ℕ) × (found.0 ≡ n + j) × IsFirstRow test rows j found.1

before_more : (test : Option NameRow → Bool) (r : Option NameRow) (rows : Rows) (k : ℕ) → test r ≡ false → ((j : ℕ) → j < k → test (row rows j) ≡ false) → (j : ℕ) → j < suc k → test (row (r ∷ rows) j) ≡ false
before_more test r rows k fails before zero below = fails
before_more test r rows k fails before (suc j) below = before j (omega arith)

found_later : (test : Option NameRow → Bool) (n : ℕ) (r : Option NameRow) (rows : Rows) → test r ≡ false → (o : Option (ℕ × Option NameRow)) → Found test (n + 1) rows o → Found test n (r ∷ rows) o
found_later test n r rows fails None none = before_more test r rows (length rows) fails none
found_later test n r rows fails (Some found) (j, place, first) =
    (suc j, omega arith, record { within = omega (arith, first.within); is = first.is; passes = first.passes; before = before_more test r rows j fails first.before })

found_at : (test : Option NameRow → Bool) (n : ℕ) (r : Option NameRow) (rows : Rows) → Found test (n + 1) rows (first_row_from test (n + 1) rows) → (b : Bool) → test r ≡ b → Found test n (r ∷ rows) (cond b (Some (n, r)) (first_row_from test (n + 1) rows))
found_at test n r rows later true e =
    (0, omega arith, record { within = omega arith; is = refl; passes = e; before = λ j below. absurd (omega arith) })
found_at test n r rows later false e = found_later test n r rows e (first_row_from test (n + 1) rows) later

found : (test : Option NameRow → Bool) (n : ℕ) (rows : Rows) → Found test n rows (first_row_from test n rows)
found test n [] = λ j below. absurd (omega arith)
found test n (r ∷ rows) = found_at test n r rows (found test (n + 1) rows) (test r) refl

-- the line that is found is the first one that passes
pub first_row-is : (test : Option NameRow → Bool) (rows : Rows) (k : ℕ) (r : Option NameRow) → first_row_from test 0 rows ≡ Some (k, r) → IsFirstRow test rows k r
first_row-is test rows k r h =
    let f : Found test 0 rows (Some (k, r)) = subst (Found test 0 rows) h (found test 0 rows) in
    let place : f.0 ≡ k = omega arith in
    subst (λ n. IsFirstRow test rows n r) place f.2

-- none is found only where none passes
pub first_row-none : (test : Option NameRow → Bool) (rows : Rows) → first_row_from test 0 rows ≡ None → (j : ℕ) → j < length rows → test (row rows j) ≡ false
first_row-none test rows h = subst (Found test 0 rows) h (found test 0 rows)
