-- How many numbers of a range pass a test, piece by piece.
use Rattle.std.specs.Prelude.{◌≡◌, ◌<◌, ◌≤◌, ◌+◌, ◌-◌, ◌++◌, ℕ, zero, suc, Bool, true, false, cond, [], ◌∷◌, length, filter, count_by, refl}
use Rattle.std.specs.List.{range_with_len}
use Rattle.std.proofs.Common.{arith, ap, ◌∙◌, sym}
use Rattle.std.proofs.lemmas.List.FromFn.{length-range_with_len}
use Rattle.std.proofs.lemmas.List.Sums.{count_by-le-length, length-filter, sum_by-append, sum_by-cons}

-- one, where the test holds
abbrev pub one_if : Bool → ℕ
one_if b = cond b 1 0

-- a range is its front, and what lies behind
range_apart : (a m n : ℕ) → range_with_len a (m + n) ≡ range_with_len a m ++ range_with_len (a + m) n
range_apart a zero n = let same : zero + n ≡ n = omega arith in let here : a + zero ≡ a = omega arith in (λ i. range_with_len (sym here i) (same i))
range_apart a (suc m) n =
    let more : suc m + n ≡ suc (m + n) = omega arith in
    let here : a + suc m ≡ a + 1 + m = omega arith in
    ap (range_with_len a) more ∙ (ap (λ xs. a ∷ xs) (range_apart (a + 1) m n) ∙ ap (λ b. a ∷ (range_with_len (a + 1) m ++ range_with_len b n)) (sym here))

pub count_apart : (p : ℕ → Bool) (a m n : ℕ) → count_by p (range_with_len a (m + n)) ≡ count_by p (range_with_len a m) + count_by p (range_with_len (a + m) n)
count_apart p a m n = ap (count_by p) (range_apart a m n) ∙ sum_by-append (λ x. one_if (p x)) (range_with_len a m) (range_with_len (a + m) n)

-- one of them
pub count_one : (p : ℕ → Bool) (a : ℕ) → count_by p (range_with_len a 1) ≡ one_if (p a)
count_one p a = let sum = sum_by-cons (λ x. one_if (p x)) a [] in sum ∙ (omega arith)

pub count_more : (p : ℕ → Bool) (a n : ℕ) → count_by p (range_with_len a (n + 1)) ≡ count_by p (range_with_len a n) + one_if (p (a + n))
count_more p a n = count_apart p a n 1 ∙ ap (λ m. count_by p (range_with_len a n) + m) (count_one p (a + n))

pub count_at_most : (p : ℕ → Bool) (a n : ℕ) → count_by p (range_with_len a n) ≤ n
count_at_most p a n = let most = count_by-le-length p (range_with_len a n) in let long = length-range_with_len a n in omega (arith, most, long)

-- where none passes, each fails
pub none_pass : (p : ℕ → Bool) (a n : ℕ) → count_by p (range_with_len a n) ≡ 0 → (m : ℕ) → a ≤ m → m < a + n → p m ≡ false
none_pass p a n none m from to = by (p m) refl where
  front : count_by p (range_with_len a n) ≡ count_by p (range_with_len a (m - a)) + (one_if (p m) + count_by p (range_with_len (m + 1) (n - (m - a) - 1)))
  front =
      let whole : n ≡ (m - a) + (1 + (n - (m - a) - 1)) = omega (arith, from, to) in
      let here : a + (m - a) ≡ m = omega (arith, from) in
      ap (λ k. count_by p (range_with_len a k)) whole
      ∙ (count_apart p a (m - a) (1 + (n - (m - a) - 1))
      ∙ ap (λ b. count_by p (range_with_len a (m - a)) + count_by p (range_with_len b (1 + (n - (m - a) - 1)))) here
      ∙ ap (λ k. count_by p (range_with_len a (m - a)) + k) (count_apart p m 1 (n - (m - a) - 1) ∙ ap (λ k. k + count_by p (range_with_len (m + 1) (n - (m - a) - 1))) (count_one p m)))

  by : (b : Bool) → p m ≡ b → p m ≡ false
  by false is = is
  by true is = let one : one_if (p m) ≡ 1 = ap one_if is in absurd (omega (arith, one, front, none))

-- the holes among them
pub length_of : (p : ℕ → Bool) (a n : ℕ) → length (filter p (range_with_len a n)) ≡ count_by p (range_with_len a n)
length_of p a n = length-filter p (range_with_len a n)
