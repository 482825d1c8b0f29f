-- The bytes of a file that is cut, lengthened or written over, each by its place.
use Rattle.std.specs.Prelude.{◌≡◌, ◌⊎◌, ℕ, ◌+◌, ◌-◌, ◌<◌, ◌≤◌, true, false, cond, nat_lt, List, ◌++◌, length, min, take, drop, replicate, slice_index}
use Rattle.std.proofs.Common.{arith, ap, ◌∙◌, sym, inl, inr}
use Rattle.std.proofs.lemmas.Bool.{cases_lt}
use Rattle.std.proofs.lemmas.Bool.Decides.{nat_tests}
use Rattle.std.proofs.lemmas.List.{get_or-append_right, get_or-drop, get_or-replicate, get_or-take, get_or_append_left, get_or_past, length-append, length-replicate, length-take}
use Rattle.world_image_laws.specs.posix_tables.Bytes.{overwritten, resized}

min_rest : (m n : ℕ) → min m n + (m - n) ≡ m
min_rest m n = grind arith

pub length-resized : (xs : List ℕ) (m : ℕ) → length (resized xs m) ≡ m
length-resized xs m =
    length-append (take m xs) (replicate (m - length xs) 0)
    ∙ (λ k. length-take m xs k + length-replicate {A = ℕ} (m - length xs) 0 k)
    ∙ min_rest m (length xs)

below_is : (i m : ℕ) → i < m → nat_lt i m ≡ true
below_is i m below = grind (arith, nat_tests)

not_below : (i m : ℕ) → m ≤ i → nat_lt i m ≡ false
not_below i m past = grind (arith, nat_tests)

pub index-resized : (xs : List ℕ) (m i : ℕ) → slice_index (resized xs m) i ≡ cond (nat_lt i m) (slice_index xs i) 0
index-resized xs m i = by (cases_lt i m) (cases_lt i (length xs)) where
  by : (i < m) ⊎ (m ≤ i) → (i < length xs) ⊎ (length xs ≤ i) → slice_index (resized xs m) i ≡ cond (nat_lt i m) (slice_index xs i) 0
  by (inl below) (inl there) =
      let size = length-take m xs in
      let within : i < length (take m xs) = grind arith in
      get_or_append_left (take m xs) (replicate (m - length xs) 0) 0 i within ∙ get_or-take m xs i 0 below ∙ sym (ap (λ b. cond b (slice_index xs i) 0) (below_is i m below))
  by (inl below) (inr past) =
      let size = length-take m xs in
      let short : length (take m xs) ≡ length xs = grind arith in
      let zero_at : i - length xs < m - length xs = omega (arith, below, past) in
      get_or-append_right (take m xs) (replicate (m - length xs) 0) (length xs) i 0 short past
      ∙ get_or-replicate (m - length xs) (i - length xs) 0 0 zero_at
      ∙ sym (get_or_past xs i 0 past)
      ∙ sym (ap (λ b. cond b (slice_index xs i) 0) (below_is i m below))
  by (inr above) either =
      get_or_past (resized xs m) i 0 (let size = length-resized xs m in omega (arith, size, above)) ∙ sym (ap (λ b. cond b (slice_index xs i) 0) (not_below i m above))

-- what is written where it is written, and else what was there
abbrev pub written_at : List ℕ → ℕ → List ℕ → ℕ → ℕ
written_at old start new i = cond (nat_lt i start) (slice_index old i) (cond (nat_lt i (start + length new)) (slice_index new (i - start)) (slice_index old i))

pub index-overwritten : (old : List ℕ) (start : ℕ) (new : List ℕ) (i : ℕ) → slice_index (overwritten old start new) i ≡ written_at old start new i
index-overwritten old start new i = by (cases_lt i start) (cases_lt i (start + length new)) where
  both : length (resized old start ++ new) ≡ start + length new
  both = length-append (resized old start) new ∙ ap (λ n. n + length new) (length-resized old start)

  by : (i < start) ⊎ (start ≤ i) → (i < start + length new) ⊎ (start + length new ≤ i) → slice_index (overwritten old start new) i ≡ written_at old start new i
  by (inl before) either =
      let within : i < length (resized old start ++ new) = (let size = both in omega (arith, size, before)) in
      let inside : i < length (resized old start) = (let size = length-resized old start in omega (arith, size, before)) in
      get_or_append_left (resized old start ++ new) (drop (start + length new) old) 0 i within
      ∙ get_or_append_left (resized old start) new 0 i inside
      ∙ index-resized old start i
      ∙ ap (λ b. cond b (slice_index old i) 0) (below_is i start before)
      ∙ sym (ap (λ b. cond b (slice_index old i) (cond (nat_lt i (start + length new)) (slice_index new (i - start)) (slice_index old i))) (below_is i start before))
  by (inr after) (inl before) =
      let within : i < length (resized old start ++ new) = (let size = both in omega (arith, size, before)) in
      get_or_append_left (resized old start ++ new) (drop (start + length new) old) 0 i within
      ∙ get_or-append_right (resized old start) new start i 0 (length-resized old start) after
      ∙ sym (λ k. cond (not_below i start after k) (slice_index old i) (cond (below_is i (start + length new) before k) (slice_index new (i - start)) (slice_index old i)))
  by (inr after) (inr past) =
      let back : start + length new + (i - (start + length new)) ≡ i = omega (arith, past) in
      get_or-append_right (resized old start ++ new) (drop (start + length new) old) (start + length new) i 0 both past
      ∙ get_or-drop (start + length new) old (i - (start + length new)) 0
      ∙ ap (λ n. slice_index old n) back
      ∙ sym (λ k. cond (not_below i start after k) (slice_index old i) (cond (not_below i (start + length new) past k) (slice_index new (i - start)) (slice_index old i)))
