-- What the parts of a map before, in and behind a range make together.
use Rattle.std.proofs.Common.{◌≡◌, ℕ, suc, ◌+◌, ◌-◌, ◌<◌, ◌≤◌, Bool, true, false, cond, not, nat_le, List, [], ◌∷◌, length, get_or, take, refl, sym, ◌∙◌, ap, subst, inl, inr, arith}
use Rattle.std.specs.Prelude.{All, sum_by, count_by}
use Rattle.std.proofs.lemmas.Bool.{cases_Bool, ltb-true, le-ltb}
use Rattle.std.proofs.lemmas.Bool.Decides.{nat_tests}
use Rattle.std.proofs.lemmas.List.{take_more, length-take-le, get_or-take, get_or_default}
use Rattle.std.proofs.lemmas.List.Sums.{sum_by-cons, count_by-le-length}
use Rattle.extent_model.specs.declared.extent_words.Extent.{Extent}
use Rattle.extent_model.specs.Extents.{is_between, holds, block_count, IsExtent, ComesAfter, IsCanonical}
use Rattle.extent_model.specs.Maps.{IsPart, Replaces}
use Rattle.extent_map.specs.Pieces.{shared, overlaps, Appends, AppendsBetween}
use Rattle.extent_model.specs.Facts.{disk_at-past, IsCanonical-tail, IsCanonical-push}

-- a front of the one spelling with the next extent, which comes after the one before it
pub canonical_more : (es : List Extent) (i : ℕ) (d : Extent) → i < length es → IsCanonical (take i es) → IsExtent (get_or es i d) → (0 < i → ComesAfter (get_or es (i - 1) d) (get_or es i d)) → IsCanonical (take (i + 1) es)
canonical_more es i d lt c ok after =
    rw (take_more es i d lt) (IsCanonical-push (take i es) (get_or es i d) c ok (λ k e last.
    let size = length-take-le i es (omega arith) in
    let read : get_or (take i es) k e ≡ get_or es (i - 1) d = get_or-take i es k e (omega arith) ∙ get_or_default es k e d (omega arith) ∙ ap (λ n. get_or es n d) (omega arith) in
    subst (λ x. ComesAfter x (get_or es i d)) (sym read) (after (omega arith))))

-- the parts of a map before and behind a range
pub outside_part : (from to : ℕ) (es low high : List Extent) → from ≤ to → to ≤ 4096 → IsCanonical es → AppendsBetween 0 from es [] low → AppendsBetween to 4096 es low high → IsPart (λ b. not (is_between from to b)) es high
outside_part from to es low high le in_file c first second = record {
  canonical = second.canonical;
  blocks = λ b. second.blocks b ∙ (elim (cases_Bool (is_between to 4096 b)) [
    | inl behind ↦
        let out : is_between from to b ≡ false = grind (arith, nat_tests) in
        rw (behind, out) refl
    | inr not_behind ↦ rw not_behind (first.blocks b ∙ elim (cases_Bool (is_between 0 from b)) [
      | inl before ↦
          let out : is_between from to b ≡ false = grind (arith, nat_tests) in
          rw (before, out) refl
      | inr not_before ↦ rw not_before (elim (cases_Bool (is_between from to b)) [
        | inl inside ↦ rw inside refl
        | inr out ↦ rw out (sym (disk_at-past es b c (grind (arith, nat_tests))))
      ])
    ])
  ]);
}

-- a map with a run in the place of a range
pub with_run_map : (run : Extent) (es low mid high : List Extent) → run.file + run.count ≤ 4096 → IsCanonical es → AppendsBetween 0 run.file es [] low → Appends run low mid → AppendsBetween (run.file + run.count) 4096 es mid high → Replaces run es high
with_run_map run es low mid high in_file c first second third = record {
  canonical = third.canonical;
  blocks = λ b. third.blocks b ∙ (elim (cases_Bool (is_between (run.file + run.count) 4096 b)) [
    | inl behind ↦
        let out : holds run b ≡ false = grind (arith, nat_tests) in
        rw (behind, out) refl
    | inr not_behind ↦ rw not_behind (second.map.blocks b ∙ elim (cases_Bool (holds run b)) [
      | inl held ↦ rw held refl
      | inr out ↦ rw out (first.blocks b ∙ elim (cases_Bool (is_between 0 run.file b)) [
        | inl before ↦ rw before refl
        | inr not_before ↦ rw not_before (sym (disk_at-past es b c (grind (arith, nat_tests))))
      ])
    ])
  ]);
}

abbrev one_if : Bool → ℕ
one_if b = cond b 1 0

at_most_one : (b : Bool) → one_if b ≤ 1
at_most_one true = omega arith
at_most_one false = omega arith

-- what begins behind a range has no part before it
count_none : (from : ℕ) (es : List Extent) → All (λ e. from ≤ e.file) es → count_by (overlaps 0 from) es ≡ 0
count_none from [] behind = refl
count_none from (x ∷ es) behind =
    let no_part : overlaps 0 from x ≡ false = le-ltb _ _ (omega (arith, behind 0 x (omega arith))) in
    omega (arith, sum_by-cons (λ e. one_if (overlaps 0 from e)) x es, ap one_if no_part, count_none from es (λ k d lt. behind (suc k) d (omega arith)))

-- at most one extent has a part both before a range and behind it
pub overlaps_count : (from to : ℕ) (es : List Extent) → from ≤ to → IsCanonical es → count_by (overlaps 0 from) es + count_by (overlaps to 4096) es ≤ length es + 1
overlaps_count from to [] le c = omega arith
overlaps_count from to (x ∷ es) le c =
    let before = sum_by-cons (λ e. one_if (overlaps 0 from e)) x es in
    let behind = sum_by-cons (λ e. one_if (overlaps to 4096 e)) x es in
    let one = at_most_one (overlaps 0 from x) in
    elim (cases_Bool (overlaps to 4096 x)) [
      | inl part ↦
          let past : to < x.file + x.count = (let l = ltb-true _ _ part in omega arith) in
          let none = count_none from es (λ k d lt. omega (arith, (c.rising 0 (suc k) d (omega arith) (omega arith)).after)) in
          let all = count_by-le-length (overlaps to 4096) es in
          let this : one_if (overlaps to 4096 x) ≡ 1 = ap one_if part in
          omega (arith, before, behind, one, none, all, this)
      | inr no_part ↦
          let rest = overlaps_count from to es le (IsCanonical-tail x es c) in
          let this : one_if (overlaps to 4096 x) ≡ 0 = ap one_if no_part in
          omega (arith, before, behind, one, rest, this)
    ]

-- the blocks of a map are those before a range, in it and behind it
pub shared_sum : (from to : ℕ) (es : List Extent) → from ≤ to → to ≤ 4096 → All IsExtent es → sum_by (shared 0 from) es + sum_by (shared from to) es + sum_by (shared to 4096) es ≡ block_count es
shared_sum from to [] le in_file c = refl
shared_sum from to (x ∷ es) le in_file c =
    let a = sum_by-cons (shared 0 from) x es in
    let b = sum_by-cons (shared from to) x es in
    let d = sum_by-cons (shared to 4096) x es in
    let e = sum_by-cons (λ (e : Extent). e.count) x es in
    let rest = shared_sum from to es le in_file (λ k d lt. c (suc k) d (omega arith)) in
    let ok = c 0 x (omega arith) in
    omega (arith, a, b, d, e, rest, ok.in_file)

-- the blocks of a map are those before a block and those from it on
pub cut_sum : (from : ℕ) (es : List Extent) → All IsExtent es → sum_by (shared 0 from) es + sum_by (shared from 4096) es ≡ block_count es
cut_sum from [] c = refl
cut_sum from (x ∷ es) c =
    let a = sum_by-cons (shared 0 from) x es in
    let b = sum_by-cons (shared from 4096) x es in
    let e = sum_by-cons (λ (e : Extent). e.count) x es in
    let rest = cut_sum from es (λ k d lt. c (suc k) d (omega arith)) in
    let ok = c 0 x (omega arith) in
    omega (arith, a, b, e, rest, ok.in_file)

-- what a map has from a block on, of which none is past 4,096
pub cut_part : (from : ℕ) (es part : List Extent) → IsCanonical es → IsPart (is_between from 4096) es part → IsPart (λ b. nat_le from b) es part
cut_part from es part c h = record {
  canonical = h.canonical;
  blocks = λ b. h.blocks b ∙ (elim (cases_Bool (is_between from 4096 b)) [
    | inl inside ↦
        let behind : nat_le from b ≡ true = grind (arith, nat_tests) in
        rw (inside, behind) refl
    | inr out ↦ rw out (elim (cases_Bool (nat_le from b)) [
      | inl behind ↦ rw behind (sym (disk_at-past es b c (grind (arith, nat_tests))))
      | inr before ↦ rw before refl
    ])
  ]);
}
