-- What one append leaves in the list, and in the view of the pass.
use Rattle.std.specs.List.{range_with_len}
use Rattle.std.proofs.Common.{ap, add-zero, arith, ◌∙◌, ◌+◌, zero, suc, ◌≡◌, ℕ, Bool, true, false, cond, List, [], ◌∷◌, ◌++◌, sym, refl, append-nil}

-- a list with one entry more, or with none
pub one_more_or_none : (b : Bool) (xs : List ℕ) (e : ℕ) → cond b (xs ++ e ∷ []) xs ≡ xs ++ cond b (e ∷ []) []
one_more_or_none true xs e = refl
one_more_or_none false xs e = sym (append-nil xs)

-- a number more behind those from a on
pub range_push : (a n : ℕ) → range_with_len a n ++ (a + n) ∷ [] ≡ range_with_len a (suc n)
range_push a zero = ap (λ (m : ℕ). m ∷ []) (add-zero a)
range_push a (suc n) =
    let same : a + suc n ≡ (a + 1) + n = omega arith in
    ap (λ (m : ℕ). range_with_len a (suc n) ++ m ∷ []) same ∙ ap (λ (l : List ℕ). a ∷ l) (range_push (a + 1) n)
