-- Numbers that are counted in claims and in views.
use Rattle.std.proofs.Common.{◌≡◌, ℕ, ◌+◌, ◌≤◌, cond, eqb, [], ◌∷◌, ap, arith, length-append}
use Rattle.std.specs.Prelude.{Option, Some, None}
use Rattle.std.proofs.lemmas.Bool.Decides.{nat_tests}
use Rattle.std.proofs.lemmas.List.Sums.{count_by-le-length, sum_by-cons, sum_by-append}
use Rattle.oplog_entry.specs.image_model.pm_model.Parts.{Part}
use Rattle.layout_model.specs.declared.lines.Draft.{Draft}
use Rattle.oplog_tail.specs.declared.views.Claim.{Claim}
use Rattle.oplog_tail.specs.declared.views.Knows.{Knows}
use Rattle.oplog_entry.specs.declared.claims.Mark.{Mark}
use Rattle.oplog_tail.specs.declared.views.Opened.{Opened}
use Rattle.oplog_tail.specs.Views.{claim, claims_of, held_count, held_with, is_written, joined, settled, times_in, with_full, with_held, written_of, number_of}
use Rattle.list_laws.specs.Numbers.{one_if, count_with-append, count_with-one}

-- one number more
pub times_in-held : (x n : ℕ) (v : Knows) (line : Part) → v.held ≡ None → times_in x (with_held v n line) ≡ times_in x v + one_if n x
times_in-held x n v line idle = omega (arith, ap (held_with x) idle)

pub times_in-full : (x n : ℕ) (v : Knows) → times_in x (with_full v n) ≡ times_in x v + one_if n x
times_in-full x n v = omega (arith, count_with-append (λ (n : ℕ). n) x v.full (n ∷ []), count_with-one (λ (m : ℕ). m) x n)

-- a number that is settled is counted as before
pub times_in-settled : (x n : ℕ) (v : Knows) (line : Part) (d : Draft) (mark : Mark) → v.held ≡ Some (record { number = n; line = line }) → times_in x (settled v n d mark) ≡ times_in x v
times_in-settled x n v line d mark held = omega (arith, ap (held_with x) held, count_with-append number_of x v.claims (claim n d mark ∷ []), count_with-one number_of x (claim n d mark))

-- what two seats claimed, where the second has nothing under way
pub times_in-joined : (x : ℕ) (v w : Knows) → w.held ≡ None → times_in x (joined v w) ≡ times_in x v + times_in x w
times_in-joined x v w idle = omega (arith, ap (held_with x) idle, count_with-append number_of x w.claims v.claims, count_with-append (λ (n : ℕ). n) x w.full v.full)

pub claims_of-joined : (v w : Knows) → w.held ≡ None → claims_of (joined v w) ≡ claims_of v + claims_of w
claims_of-joined v w idle = omega (arith, ap held_count idle, length-append w.claims v.claims, length-append w.full v.full)

pub claims_of-settled : (n : ℕ) (v : Knows) (line : Part) (d : Draft) (mark : Mark) → v.held ≡ Some (record { number = n; line = line }) → claims_of (settled v n d mark) ≡ claims_of v
claims_of-settled n v line d mark held = omega (arith, ap held_count held, length-append v.claims (claim n d mark ∷ []))

pub claims_of-full : (n : ℕ) (v : Knows) → claims_of (with_full v n) ≡ claims_of v + 1
claims_of-full n v = omega (arith, length-append v.full (n ∷ []))

pub claims_of-held : (n : ℕ) (v : Knows) (line : Part) → v.held ≡ None → claims_of (with_held v n line) ≡ claims_of v + 1
claims_of-held n v line idle = omega (arith, ap held_count idle)

abbrev pub written_one : Mark → ℕ
written_one mark = cond (is_written mark) 1 0

pub written_of-settled : (n : ℕ) (v : Knows) (d : Draft) (mark : Mark) → written_of (settled v n d mark) ≡ written_of v + written_one mark
written_of-settled n v d mark =
    let f : Claim → ℕ = λ c. written_one c.mark in
    omega (arith, sum_by-append f v.claims (claim n d mark ∷ []), sum_by-cons f (claim n d mark) [])

pub written_of-joined : (v w : Knows) → written_of (joined v w) ≡ written_of v + written_of w
written_of-joined v w = omega (arith, sum_by-append (λ (c : Claim). written_one c.mark) w.claims v.claims)

pub written_of-le : (v : Knows) → written_of v ≤ claims_of v
written_of-le v = omega (arith, count_by-le-length (λ (c : Claim). is_written c.mark) v.claims)

held_with-le : (x : ℕ) (h : Option Opened) → held_with x h ≤ held_count h
held_with-le x None = omega arith
held_with-le x (Some o) = grind (arith, nat_tests)

pub times_in-le : (x : ℕ) (v : Knows) → times_in x v ≤ claims_of v
times_in-le x v =
    omega (arith, count_by-le-length (λ (c : Claim). eqb c.number x) v.claims, count_by-le-length (λ (n : ℕ). eqb n x) v.full, held_with-le x v.held)
