-- Whether an inode and a name line are left.
use Rattle.std.proofs.Common.{◌≡◌, ℕ, suc, ◌+◌, Bool, true, false, cond, not, List, [], ◌∷◌, length, Option, Some, None, refl, sym, ◌∙◌, ap, arith}
use Rattle.std.specs.Prelude.{◌==◌, nat_lt, position, count_by, is_some, option_and_then}
use Rattle.std.specs.List.{prefix_len}
use Rattle.std.proofs.lemmas.Bool.Decides.{nat_tests}
use Rattle.std.proofs.lemmas.List.Sums.{sum_by-cons}
use Rattle.layout_model.specs.Names.{Rows, first_row_from, free_line, is_free_row}

-- what passes none is counted as none
none_counted : (b : Bool) (n m count : ℕ) → nat_lt n m ≡ not (count == 0)
    → nat_lt (cond (not b) (1 + n) 0) (suc m) ≡ not ((cond b 1 0 + count) == 0)
none_counted true n m count same = grind (arith, nat_tests)
none_counted false n m count same =
    let more : nat_lt (1 + n) (suc m) ≡ nat_lt n m = grind (arith, nat_tests) in
    let none : 0 + count ≡ count = omega arith in
    more ∙ same ∙ ap (λ k. not (k == 0)) (sym none)

place-counted : {X : Type 0} (p : X → Bool) (xs : List X)
    → nat_lt (prefix_len (λ x. not (p x)) xs) (length xs) ≡ not (count_by p xs == 0)
place-counted p [] = refl
place-counted p (x ∷ xs) =
    none_counted (p x) (prefix_len (λ y. not (p y)) xs) (length xs) (count_by p xs) (place-counted p xs)
    ∙ ap (λ n. not (n == 0)) (sym (sum_by-cons (λ y. cond (p y) 1 0) x xs))

by_test : (b : Bool) (n : ℕ) (count : ℕ) → b ≡ not (count == 0) → is_some (cond b (Some n) None) ≡ not (count == 0)
by_test true n count same = same
by_test false n count same = same

-- there is a first one exactly where one is counted
position-counted : {X : Type 0} (p : X → Bool) (xs : List X) → is_some (position p xs) ≡ not (count_by p xs == 0)
position-counted p xs = by_test (nat_lt (prefix_len (λ x. not (p x)) xs) (length xs)) (prefix_len (λ x. not (p x)) xs) (count_by p xs) (place-counted p xs)

not_not : (b c : Bool) → c ≡ not b → b ≡ not c
not_not true c same = ap not (sym same)
not_not false c same = ap not (sym same)

pub counted-some : {X : Type 0} (p : X → Bool) (xs : List X) (n : ℕ) → Some n ≡ position p xs → (count_by p xs == 0) ≡ false
counted-some p xs n is = not_not (count_by p xs == 0) true (ap is_some is ∙ position-counted p xs)

pub counted-none : {X : Type 0} (p : X → Bool) (xs : List X) → None ≡ position p xs → (count_by p xs == 0) ≡ true
counted-none p xs is = not_not (count_by p xs == 0) false (ap (λ (o : Option ℕ). is_some o) is ∙ position-counted p xs)

-- the same of the lines of a table
abbrev line_found : Rows → ℕ → Option ℕ
line_found rows k = option_and_then (λ found. Some found.0) (first_row_from is_free_row k rows)

line-counted : (rows : Rows) (k : ℕ) → is_some (line_found rows k) ≡ not (count_by is_free_row rows == 0)
line-counted [] k = refl
line-counted (None ∷ rows) k =
    let one : true ≡ not ((1 + count_by is_free_row rows) == 0) = grind (arith, nat_tests) in
    one ∙ ap (λ n. not (n == 0)) (sym (sum_by-cons (λ o. cond (is_free_row o) 1 0) None rows))
line-counted (Some r ∷ rows) k =
    let none : 0 + count_by is_free_row rows ≡ count_by is_free_row rows = omega arith in
    line-counted rows (k + 1)
    ∙ ap (λ n. not (n == 0)) (sym (sum_by-cons (λ o. cond (is_free_row o) 1 0) (Some r) rows ∙ none))

pub lines-some : (rows : Rows) (line : ℕ) → Some line ≡ free_line rows → nat_lt (count_by is_free_row rows) 1 ≡ false
lines-some rows line is =
    let left : (count_by is_free_row rows == 0) ≡ false = not_not (count_by is_free_row rows == 0) true (ap is_some is ∙ line-counted rows 0) in
    grind (arith, nat_tests)

pub lines-none : (rows : Rows) → None ≡ free_line rows → (count_by is_free_row rows == 0) ≡ true
lines-none rows is = not_not (count_by is_free_row rows == 0) false (ap (λ (o : Option ℕ). is_some o) is ∙ line-counted rows 0)
