-- New bytes between others, each by its place.
use Rattle.std.specs.Prelude.{◌≡◌, ◌⊎◌, ℕ, ◌+◌, ◌-◌, ◌*◌, ◌/◌, ◌%◌, ◌^◌, ◌<◌, ◌≤◌, true, cond, nat_lt, List, ◌++◌, drop, length, slice_index}
use Rattle.std.proofs.Common.{arith, ap, ◌∙◌, sym, subst, inl, inr}
use Rattle.std.proofs.lemmas.Bool.{cases_lt}
use Rattle.std.proofs.lemmas.Bool.Decides.{nat_tests}
use Rattle.std.proofs.lemmas.Grind.{same_number_lists}
use Rattle.std.proofs.lemmas.List.{get_or-append_right, get_or_append_left, length-append}
use Rattle.world_image_laws.specs.posix_tables.Bytes.{resized}
use Rattle.write_jobs.specs.Contents.{framed, framed_bytes, SpellBytes, staged_bytes}
use Rattle.write_jobs.proofs.Bytes.{index-resized, length-resized}

below_is : (i m : ℕ) → i < m → nat_lt i m ≡ true
below_is i m below = grind (arith, nat_tests)

module _ (front : List ℕ) (at : ℕ) (new back : List ℕ) where
  size : length (resized front at ++ new) ≡ at + length new
  size = length-append (resized front at) new ∙ ap (λ n. n + length new) (length-resized front at)

  -- before them
  pub framed_front : (i : ℕ) → i < at → slice_index (framed front at new back) i ≡ slice_index front i
  framed_front i low =
      get_or_append_left (resized front at ++ new) back 0 i (let n = size in omega (arith, n, low))
      ∙ get_or_append_left (resized front at) new 0 i (let n = length-resized front at in omega (arith, n, low))
      ∙ index-resized front at i
      ∙ ap (λ b. cond b (slice_index front i) 0) (below_is i at low)

  -- one of them
  pub framed_new : (i k : ℕ) → i ≡ at + k → k < length new → slice_index (framed front at new back) i ≡ slice_index new k
  framed_new i k is within =
      get_or_append_left (resized front at ++ new) back 0 i (let n = size in omega (arith, n, is, within))
      ∙ get_or-append_right (resized front at) new at i 0 (length-resized front at) (omega (arith, is))
      ∙ ap (slice_index new) (let same : i - at ≡ k = omega (arith, is) in same)

  -- behind them
  pub framed_back : (i k : ℕ) → i ≡ at + length new + k → slice_index (framed front at new back) i ≡ slice_index back k
  framed_back i k is =
      get_or-append_right (resized front at ++ new) back (at + length new) i 0 size (omega (arith, is))
      ∙ ap (slice_index back) (let same : i - (at + length new) ≡ k = omega (arith, is) in same)

  -- they are bytes
  pub framed_small : ((n : ℕ) → slice_index front n < 256) → ((n : ℕ) → slice_index new n < 256) → ((n : ℕ) → slice_index back n < 256) → (n : ℕ) → slice_index (framed front at new back) n < 256
  framed_small small_front small_new small_back n = by (cases_lt n at) (cases_lt n (at + length new)) where
    by : (n < at) ⊎ (at ≤ n) → (n < at + length new) ⊎ (at + length new ≤ n) → slice_index (framed front at new back) n < 256
    by (inl low) either = subst (λ b. b < 256) (sym (framed_front n low)) (small_front n)
    by (inr past) (inl inside) = subst (λ b. b < 256) (sym (framed_new n (n - at) (omega (arith, past)) (omega (arith, past, inside)))) (small_new (n - at))
    by (inr past) (inr behind) = subst (λ b. b < 256) (sym (framed_back n (n - (at + length new)) (omega (arith, behind)))) (small_back (n - (at + length new)))

  -- words that spell so many of them spell the blocks
  pub spell_framed : (words : List ℕ) (count : ℕ) → length words ≡ 512 * count
      → ((k : ℕ) → k < 4096 * count → slice_index words (k / 8) / 256 ^ (k % 8) % 256 ≡ slice_index (framed front at new back) k)
      → SpellBytes words (framed_bytes front at new back count)
  spell_framed words count all each = record {
    count = (let n = length-resized (framed front at new back) (4096 * count) in omega (arith, n, all));
    each = λ i within.
        let low : i < 4096 * count = (let n = length-resized (framed front at new back) (4096 * count) in omega (arith, n, within)) in
        each i low ∙ sym (index-resized (framed front at new back) (4096 * count) i ∙ ap (λ b. cond b (slice_index (framed front at new back) i) 0) (below_is i (4096 * count) low));
  }

-- Where those before and behind are the old ones, they are what the blocks are to hold.
resized_same : (xs ys : List ℕ) (m : ℕ) → ((i : ℕ) → i < m → slice_index xs i ≡ slice_index ys i) → resized xs m ≡ resized ys m
resized_same xs ys m same =
    same_number_lists (resized xs m) (resized ys m) (length-resized xs m ∙ sym (length-resized ys m)) (λ i within.
    let low : i < m = (let n = length-resized xs m in omega (arith, n, within)) in
    index-resized xs m i
    ∙ ap (λ b. cond b (slice_index xs i) 0) (below_is i m low)
    ∙ same i low
    ∙ sym (index-resized ys m i ∙ ap (λ b. cond b (slice_index ys i) 0) (below_is i m low)))

pub framed_old : (old front new back : List ℕ) (at count : ℕ) → ((i : ℕ) → i < at → slice_index front i ≡ slice_index old i) → back ≡ drop (at + length new) old
    → framed_bytes front at new back count ≡ staged_bytes old at new count
framed_old old front new back at count before behind =
    λ k. resized (resized_same front old at before k ++ new ++ behind k) (4096 * count)
