-- The first bad line.
use Rattle.std.proofs.Common.{◌≡◌, ℕ, ◌+◌, ◌<◌, ◌≤◌, List, Bool, cond, sym, length, refl, ◌∙◌, ap, arith, true, false, Some, None, zero-add}
use Rattle.std.specs.Prelude.{nat_lt, option_map}
use Rattle.std.specs.List.{position_or_len, range_with_len}
use Rattle.std.proofs.lemmas.Bool.{le-ltb, lt-ltb, ltb-false}
use Rattle.std.proofs.lemmas.List.FromFn.{get_or-range_with_len, length-range_with_len}
use Rattle.std.proofs.lemmas.List.Sums.{fails_before_first, position_or_len_is}
use Rattle.script_text.specs.declared.kinds.Kind.{Kind}
use Rattle.script_text.specs.Scripts.{breaks_at, first_bad}

-- line k, counted from 0, is bad, and none before it
pub first_bad-some : (kinds : List Kind) (k : ℕ) → k < length kinds → ((j : ℕ) → j < k → breaks_at kinds j ≡ false) → breaks_at kinds k ≡ true → first_bad kinds ≡ Some (k + 1)
unfolding first_bad
first_bad-some kinds k within before here =
    let n = length-range_with_len 0 (length kinds) in
    let at : position_or_len (breaks_at kinds) (range_with_len 0 (length kinds)) ≡ k =
    position_or_len_is (breaks_at kinds) (range_with_len 0 (length kinds)) k 0 (omega arith)
    (λ j lt. ap (breaks_at kinds) (get_or-range_with_len 0 (length kinds) j 0 (omega arith) ∙ zero-add j) ∙ before j lt)
    (λ lt. ap (breaks_at kinds) (get_or-range_with_len 0 (length kinds) k 0 within ∙ zero-add k) ∙ here) in
    let inside : nat_lt (position_or_len (breaks_at kinds) (range_with_len 0 (length kinds))) (length (range_with_len 0 (length kinds))) ≡ true = lt-ltb _ _ (omega arith) in
    rw (inside, at) refl

-- no line is bad
pub first_bad-none : (kinds : List Kind) → ((j : ℕ) → j < length kinds → breaks_at kinds j ≡ false) → first_bad kinds ≡ None
unfolding first_bad
first_bad-none kinds good =
    let n = length-range_with_len 0 (length kinds) in
    let at : position_or_len (breaks_at kinds) (range_with_len 0 (length kinds)) ≡ length kinds =
    position_or_len_is (breaks_at kinds) (range_with_len 0 (length kinds)) (length kinds) 0 (omega arith)
    (λ j lt. ap (breaks_at kinds) (get_or-range_with_len 0 (length kinds) j 0 lt ∙ zero-add j) ∙ good j lt)
    (λ lt. absurd (omega arith)) in
    let outside : nat_lt (position_or_len (breaks_at kinds) (range_with_len 0 (length kinds))) (length (range_with_len 0 (length kinds))) ≡ false = le-ltb _ _ (omega arith) in
    rw outside refl

-- where there is no first bad line, no line is bad
first_none : (kinds : List Kind) (test : Bool) (at : ℕ) → option_map (λ k. k + 1) (cond test (Some at) None) ≡ None → test ≡ false
first_none kinds true at h = cc
first_none kinds false at h = refl

pub none_bad : (kinds : List Kind) → first_bad kinds ≡ None → (j : ℕ) → j < length kinds → breaks_at kinds j ≡ false
unfolding first_bad
none_bad kinds h j lt =
    let places : List ℕ = range_with_len 0 (length kinds) in
    let n = length-range_with_len 0 (length kinds) in
    let outside = first_none kinds (nat_lt (position_or_len (breaks_at kinds) places) (length places)) (position_or_len (breaks_at kinds) places) h in
    let far : length places ≤ position_or_len (breaks_at kinds) places = ltb-false (position_or_len (breaks_at kinds) places) (length places) outside in
    let here = get_or-range_with_len 0 (length kinds) j 0 lt ∙ zero-add j in
    ap (breaks_at kinds) (sym here) ∙ fails_before_first (breaks_at kinds) places j 0 (omega arith)
