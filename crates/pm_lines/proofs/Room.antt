-- There is room for a pair of each word, since no two pairs are of one word.
use Rattle.std.proofs.Common.{◌≡◌, ◌≢◌, ◌<◌, ◌≤◌, refl, ℕ, zero, suc, cond, List, length, sym, ◌∙◌, arith, ⊎_elim, eq-eqb}
use Rattle.std.specs.Prelude.{◌==◌}
use Rattle.std.proofs.lemmas.Bool.{cases_lt, cases_eq, ne_eqb}
use Rattle.pm_lines.specs.declared.pairs.Pair.{Pair}
use Rattle.pm_lines.specs.Pairs.{pair_at, IsLinked, HasNoPair}
use Rattle.pm_lines.proofs.WordCells.{pair_apart}

-- no two of the first m numbers that f gives are the same
abbrev IsDistinctBelow : (ℕ → ℕ) → ℕ → Type 0
IsDistinctBelow f m = (a b : ℕ) → a < m → b < m → f a ≡ f b → a ≡ b

-- f, with f m in place of n
without : (ℕ → ℕ) → ℕ → ℕ → ℕ → ℕ
without f n m k = cond (f k == n) (f m) (f k)

without-at : (f : ℕ → ℕ) (n m k : ℕ) → f k ≡ n → without f n m k ≡ f m
unfolding without
without-at f n m k at = rw (eq-eqb (f k) n at) refl

without-other : (f : ℕ → ℕ) (n m k : ℕ) → f k ≢ n → without f n m k ≡ f k
unfolding without
without-other f n m k other = rw (ne_eqb (f k) n other) refl

without-below : (f : ℕ → ℕ) (n m : ℕ) → ((k : ℕ) → k < suc m → f k < suc n) → IsDistinctBelow f (suc m) → (k : ℕ) → k < m → without f n m k < n
without-below f n m below distinct k h = ⊎_elim
    (λ (at : f k ≡ n).
    let last : f m ≢ n = λ e. let same : k ≡ m = distinct k m (omega arith) (omega arith) (at ∙ sym e) in omega arith in
    rw (without-at f n m k at) (omega (arith, below m (omega arith))))
    (λ (other : f k ≢ n). rw (without-other f n m k other) (omega (arith, below k (omega arith))))
    (cases_eq (f k) n)

without-distinct : (f : ℕ → ℕ) (n m : ℕ) → IsDistinctBelow f (suc m) → IsDistinctBelow (without f n m) m
without-distinct f n m distinct a b below_a below_b same = ⊎_elim
    (λ (at_a : f a ≡ n). ⊎_elim
    (λ (at_b : f b ≡ n). distinct a b (omega arith) (omega arith) (at_a ∙ sym at_b))
    (λ (other_b : f b ≢ n).
    let last : m ≡ b = distinct m b (omega arith) (omega arith) (sym (without-at f n m a at_a) ∙ same ∙ without-other f n m b other_b) in
    absurd (omega arith))
    (cases_eq (f b) n))
    (λ (other_a : f a ≢ n). ⊎_elim
    (λ (at_b : f b ≡ n).
    let last : a ≡ m = distinct a m (omega arith) (omega arith) (sym (without-other f n m a other_a) ∙ same ∙ without-at f n m b at_b) in
    absurd (omega arith))
    (λ (other_b : f b ≢ n). distinct a b (omega arith) (omega arith) (sym (without-other f n m a other_a) ∙ same ∙ without-other f n m b other_b))
    (cases_eq (f b) n))
    (cases_eq (f a) n)

-- m numbers below n, no two of them the same, are at most n
at_most : (n m : ℕ) (f : ℕ → ℕ) → ((k : ℕ) → k < m → f k < n) → IsDistinctBelow f m → m ≤ n
at_most n zero f below distinct = omega arith
at_most zero (suc m) f below distinct = let none : f m < 0 = below m (omega arith) in omega arith
at_most (suc n) (suc m) f below distinct =
    let fewer : m ≤ n = at_most n m (without f n m) (without-below f n m below distinct) (without-distinct f n m distinct) in
    omega arith

-- where a word has no pair there are fewer pairs than words
pub pairs-fewer : (values : List ℕ) (pairs : List Pair) (word : ℕ) → IsLinked values pairs → HasNoPair pairs word → word < length values → length pairs < length values
pairs-fewer values pairs word linked none within =
    let f : ℕ → ℕ = λ k. cond (k == length pairs) word (pair_at pairs k).word in
    let at : (k : ℕ) → k ≡ length pairs → f k ≡ word = λ k e. rw (eq-eqb k (length pairs) e) refl in
    let before : (k : ℕ) → k < length pairs → f k ≡ (pair_at pairs k).word = λ k h. let other : k ≢ length pairs = omega arith in rw (ne_eqb k (length pairs) other) refl in
    let below : (k : ℕ) → k < suc (length pairs) → f k < length values = λ k h. ⊎_elim
    (λ (b : k < length pairs). rw (before k b) (linked.within k b))
    (λ (l : length pairs ≤ k). rw (at k (omega arith)) within)
    (cases_lt k (length pairs))
    in
    let distinct : IsDistinctBelow f (suc (length pairs)) = λ a b below_a below_b same. ⊎_elim
    (λ (ha : a < length pairs). ⊎_elim
    (λ (hb : b < length pairs). ⊎_elim
    (λ (e : a ≡ b). e)
    (λ (ne : a ≢ b). absurd (pair_apart values pairs linked a b ha hb ne (sym (before a ha) ∙ same ∙ before b hb)))
    (cases_eq a b))
    (λ (lb : length pairs ≤ b). absurd (none a ha (sym (before a ha) ∙ same ∙ at b (omega arith))))
    (cases_lt b (length pairs)))
    (λ (la : length pairs ≤ a). ⊎_elim
    (λ (hb : b < length pairs). absurd (none b hb (sym (before b hb) ∙ sym same ∙ at a (omega arith))))
    (λ (lb : length pairs ≤ b). omega arith)
    (cases_lt b (length pairs)))
    (cases_lt a (length pairs))
    in
    let most : suc (length pairs) ≤ length values = at_most (length values) (suc (length pairs)) f below distinct in
    omega arith
