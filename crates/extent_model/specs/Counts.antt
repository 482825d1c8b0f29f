-- The number of blocks of a map, counted file block by file block.
use Rattle.std.proofs.Common.{◌≡◌, ◌≢◌, ℕ, zero, suc, ◌+◌, ◌-◌, ◌<◌, ◌≤◌, Bool, true, false, cond, List, [], ◌∷◌, length, min, refl, sym, ◌∙◌, ap, inl, inr, arith}
use Rattle.std.specs.Prelude.{is_some}
use Rattle.std.proofs.lemmas.Bool.{cases_lt, cases_eq, cases_Bool}
use Rattle.std.proofs.lemmas.Bool.Decides.{nat_tests}
use Rattle.std.proofs.lemmas.List.Sums.{sum_by-cons}
use Rattle.extent_model.specs.declared.extent_words.Extent.{Extent}
use Rattle.extent_model.specs.Extents.{is_within, holds, disk_at, block_count, IsExtent, IsCanonical}
use Rattle.extent_model.specs.Facts.{IsCanonical-tail}
use Rattle.extent_model.specs.Spelling.{none_behind}

-- what a block adds to a number of blocks
abbrev pub one_if : Bool → ℕ
one_if b = cond b 1 0

-- how many of the blocks below n pass
unfoldable pub count_below : (ℕ → Bool) → ℕ → ℕ
count_below passes zero = 0
count_below passes (suc n) = count_below passes n + one_if (passes n)

-- whether a file block has a disk block
abbrev pub is_mapped : List Extent → ℕ → Bool
is_mapped es block = is_some (disk_at es block)

-- where at each block two tests give as much as two others, they count as much
pub count_below-balance : (f g h k : ℕ → Bool) (n : ℕ) → ((b : ℕ) → one_if (f b) + one_if (g b) ≡ one_if (h b) + one_if (k b)) → count_below f n + count_below g n ≡ count_below h n + count_below k n
unfolding count_below
count_below-balance f g h k zero each = refl
count_below-balance f g h k (suc n) each = omega (arith, count_below-balance f g h k n each, each n)

-- one more block
pub count_below-more : (f : ℕ → Bool) (n : ℕ) → count_below f (n + 1) ≡ count_below f n + one_if (f n)
unfolding count_below
count_below-more f n = ap (count_below f) {x = n + 1} {y = suc n} (omega arith)

-- no more blocks pass than there are
pub count_below-le : (f : ℕ → Bool) (n : ℕ) → count_below f n ≤ n
unfolding count_below
count_below-le f zero = omega arith
count_below-le f (suc n) = elim (cases_Bool (f n)) [
  | inl passes ↦ omega (arith, count_below-le f n, ap one_if passes)
  | inr fails ↦ omega (arith, count_below-le f n, ap one_if fails)
]

-- two tests that agree below n count the same
pub count_below-agree : (f g : ℕ → Bool) (n : ℕ) → ((b : ℕ) → b < n → f b ≡ g b) → count_below f n ≡ count_below g n
unfolding count_below
count_below-agree f g zero agree = refl
count_below-agree f g (suc n) agree =
    omega (arith, count_below-agree f g n (λ b lt. agree b (omega arith)), ap one_if (agree n (omega arith)))

-- blocks that fail add nothing
pub count_below-none : (f : ℕ → Bool) (low high : ℕ) → low ≤ high → ((b : ℕ) → low ≤ b → b < high → f b ≡ false) → count_below f high ≡ count_below f low
unfolding count_below
count_below-none f low zero le none = ap (count_below f) {x = 0} {y = low} (omega arith)
count_below-none f low (suc high) le none = elim (cases_eq low (suc high)) [
  | inl same ↦ ap (count_below f) (sym same)
  | inr apart ↦
      omega (arith, count_below-none f low high (omega arith) (λ b ge lt. none b ge (omega arith)), ap one_if (none high (omega arith) (omega arith)))
]

-- a test that nothing passes counts nothing
pub count_below-zero : (f : ℕ → Bool) (n : ℕ) → ((b : ℕ) → f b ≡ false) → count_below f n ≡ 0
unfolding count_below
count_below-zero f n none = count_below-none f 0 n (omega arith) (λ b ge lt. none b)

-- one block that no longer passes counts one less
pub count_below-less : (f g : ℕ → Bool) (n block : ℕ) → block < n → f block ≡ true → g block ≡ false → ((b : ℕ) → b ≢ block → g b ≡ f b) → count_below g n + 1 ≡ count_below f n
unfolding count_below
count_below-less f g zero block lt was is same = absurd (omega arith)
count_below-less f g (suc n) block lt was is same = elim (cases_eq block n) [
  | inl here ↦
      let before = count_below-agree g f n (λ b below. same b (omega arith)) in
      omega (arith, before, ap one_if (ap f (sym here) ∙ was), ap one_if (ap g (sym here) ∙ is))
  | inr apart ↦
      let below = count_below-less f g n block (omega arith) was is same in
      omega (arith, below, ap one_if (same n (omega arith)))
]

range_below : (first count n : ℕ) → count_below (λ b. is_within first count b) n ≡ min (n - first) count
unfolding count_below
range_below first count zero = omega arith
range_below first count (suc n) = elim (cases_Bool (is_within first count n)) [
  | inl inside ↦
      let low : first ≤ n = grind (arith, nat_tests, inside) in
      let high : n < first + count = grind (arith, nat_tests, inside) in
      omega (arith, range_below first count n, ap one_if inside)
  | inr outside ↦ elim (cases_lt n first) [
    | inl before ↦ omega (arith, range_below first count n, ap one_if outside)
    | inr behind ↦
        let past : first + count ≤ n = grind (arith, nat_tests, outside) in
        omega (arith, range_below first count n, ap one_if outside)
  ]
]

-- a range counts its blocks, where all of them are counted
pub count_below-range : (first count n : ℕ) → first + count ≤ n → count_below (λ b. is_within first count b) n ≡ count
count_below-range first count n fits = omega (arith, range_below first count n)

-- the number of blocks is that of the file blocks that have a disk block
pub block_count-mapped : (es : List Extent) → IsCanonical es → block_count es ≡ count_below (λ b. is_mapped es b) 4096
block_count-mapped [] c = sym (count_below-zero (λ b. is_mapped [] b) 4096 (λ b. refl))
block_count-mapped (e ∷ es) c =
    let ok : IsExtent e = c.each 0 e (omega arith) in
    let each : (b : ℕ) → one_if (is_mapped (e ∷ es) b) + one_if false ≡ one_if (is_within e.file e.count b) + one_if (is_mapped es b) = λ b. elim (cases_Bool (holds e b)) [
      | inl here ↦ rw (here, ap is_some (none_behind e es c b here)) refl
      | inr away ↦ rw away (omega arith)
    ] in
    omega (
      arith,
      sum_by-cons (λ (x : Extent). x.count) e es,
      block_count-mapped es (IsCanonical-tail e es c),
      count_below-range e.file e.count 4096 ok.in_file,
      count_below-zero (λ b. false) 4096 (λ b. refl),
      count_below-balance (λ b. is_mapped (e ∷ es) b) (λ b. false) (λ b. is_within e.file e.count b) (λ b. is_mapped es b) 4096 each,
    )

-- where at each block two maps have as many disk blocks as a third and a range, they have so in all
pub block_count-balance : (es fs gs : List Extent) (first count : ℕ) → IsCanonical es → IsCanonical fs → IsCanonical gs → first + count ≤ 4096 → ((b : ℕ) → one_if (is_mapped es b) + one_if (is_mapped fs b) ≡ one_if (is_mapped gs b) + one_if (is_within first count b)) → block_count es + block_count fs ≡ block_count gs + count
block_count-balance es fs gs first count c d e fits each =
    omega (
      arith,
      block_count-mapped es c,
      block_count-mapped fs d,
      block_count-mapped gs e,
      count_below-range first count 4096 fits,
      count_below-balance (λ b. is_mapped es b) (λ b. is_mapped fs b) (λ b. is_mapped gs b) (λ b. is_within first count b) 4096 each,
    )

length-le-block_count : (es : List Extent) → IsCanonical es → length es ≤ block_count es
length-le-block_count [] c = omega arith
length-le-block_count (e ∷ es) c =
    let ok : IsExtent e = c.each 0 e (omega arith) in
    omega (arith, sum_by-cons (λ (x : Extent). x.count) e es, length-le-block_count es (IsCanonical-tail e es c), ok.filled)

-- a map has at most 4,096 blocks, and so at most as many extents
pub block_count-le : (es : List Extent) → IsCanonical es → block_count es ≤ 4096
block_count-le es c = omega (arith, block_count-mapped es c, count_below-le (λ b. is_mapped es b) 4096)

pub length-le : (es : List Extent) → IsCanonical es → length es ≤ 4096
length-le es c = omega (arith, length-le-block_count es c, block_count-le es c)
