-- Blocks of a range, and the words that they hold while the range is stored.
use Rattle.std.specs.Prelude.{◌≡◌, ◌≢◌, ◌≤◌, ◌<◌, ℕ, ◌+◌, ◌-◌, ◌*◌, ◌/◌, true, List, length, max, Option, Some, None, IsSome, if◌then◌else◌, refl}
use Rattle.std.proofs.Common.{arith, ap, ◌∙◌, sym, subst}
use Rattle.pm_lines.specs.pm_model.declared.Cell.{Cell}
use Rattle.pm_lines.specs.pm_model.declared.Cell.TheVariants.{Single}
use Rattle.pm_lines.specs.pm_model.Cells.{cell, fenced, is_single, newest}
use Rattle.pm_lines.specs.pm_model.Images.{words_of}
use Rattle.extent_map.specs.extent_model.declared.extent_words.Extent.{Extent}
use Rattle.extent_map.specs.extent_model.Extents.{disk_at}
use Rattle.block_io.specs.Overwrites.{IsReached, MayOverwrite, piece, piece_from, StandsIn, word_with}
use Rattle.block_io.specs.Puts.{HoldsEither, is_reached, put_word}

-- a block of the range has a byte of it
pub byte_there : (first count m : ℕ) → 0 < count → IsReached first count m → (first ≤ max first (4096 * m)) × (max first (4096 * m) < first + count) × (max first (4096 * m) / 4096 ≡ m)
byte_there first count m some reached = (omega arith, omega (arith, some, reached.0), omega (arith, reached.1))

pub stands_in : (es : List Extent) (first count m b : ℕ) → 0 < count → IsReached first count m → disk_at es m ≡ Some b → StandsIn es first count (max first (4096 * m)) b
stands_in es first count m b some reached at =
    let there = byte_there first count m some reached in
    record { from = there.0; below = there.1; at = ap (disk_at es) there.2 ∙ at }

is_there : (o : Option ℕ) → IsSome o → (b : ℕ) × (o ≡ Some b)
is_there None is = cc
is_there (Some b) is = (b, refl)

-- the blocks of the range, by their numbers
pub in_range : (first count m : ℕ) → 0 < count → first / 4096 ≤ m → m < (first + count - 1) / 4096 + 1 → IsReached first count m
in_range first count m some low high = (omega (arith, some, high), omega (arith, low))

pub range_of : (first count m : ℕ) → IsReached first count m → (first / 4096 ≤ m) × (m < (first + count - 1) / 4096 + 1)
range_of first count m reached = (omega (arith, reached.1), omega (arith, reached.0))

module _ (es : List Extent) (first count : ℕ) (d : List Cell) (some : 0 < count) (may : MayOverwrite es first count d) where
  pub block_of : (m : ℕ) → IsReached first count m → (b : ℕ) × (disk_at es m ≡ Some b)
  block_of m reached =
      let there = byte_there first count m some reached in
      let has = is_there (disk_at es (max first (4096 * m) / 4096)) (may.mapped (max first (4096 * m)) there.0 there.1) in
      (has.0, ap (disk_at es) (sym there.2) ∙ has.1)

  pub within : (m b : ℕ) → IsReached first count m → disk_at es m ≡ Some b → 512 * b + 512 ≤ length d
  within m b reached at = may.in_device (max first (4096 * m)) b (stands_in es first count m b some reached at)

  pub one_candidate : (m i : ℕ) → IsReached first count m → disk_at es m ≡ Some (i / 512) → is_single (cell d i) ≡ true
  one_candidate m i reached at = may.single (max first (4096 * m)) (i / 512) i (stands_in es first count m (i / 512) some reached at) refl

  -- no two blocks of the range have one disk block
  pub same_block : (m n b : ℕ) → IsReached first count m → IsReached first count n → disk_at es m ≡ Some b → disk_at es n ≡ Some b → m ≡ n
  same_block m n b reached_m reached_n at_m at_n =
      sym (byte_there first count m some reached_m).2
      ∙ may.apart (max first (4096 * m)) (max first (4096 * n)) b (stands_in es first count m b some reached_m at_m) (stands_in es first count n b some reached_n at_n)
      ∙ (byte_there first count n some reached_n).2

  -- where blocks before block m were written, words of m are as they were
  pub apart : (m n i : ℕ) → IsReached first count m → first / 4096 ≤ n → n < m → m < (first + count - 1) / 4096 + 1 → disk_at es m ≡ Some (i / 512) → disk_at es n ≢ Some (i / 512)
  apart m n i reached low below high at same =
      omega (arith, below, same_block m n (i / 512) reached (in_range first count n some low (omega (arith, below, high))) at same)

  pub as_was : (m i : ℕ) (e : List Cell) → first / 4096 ≤ m → m < (first + count - 1) / 4096 + 1 → disk_at es m ≡ Some (i / 512)
      → ((j : ℕ) → ((n : ℕ) → first / 4096 ≤ n → n < m → disk_at es n ≢ Some (j / 512)) → cell e j ≡ cell d j) → cell e i ≡ cell d i
  as_was m i e low high at others = others i (λ n from below. apart m n i (in_range first count m some low high) from below high at)

-- ---- a word rests on what it held

-- word i, which held y
abbrev word_from : ℕ → List ℕ → ℕ → ℕ → ℕ → ℕ
word_from first bytes m i y =
    let place = 4096 * (i / 512) + (piece_from first m - 4096 * m) in
    if is_reached place (length (piece first bytes m)) i then put_word place (piece first bytes m) y i else y

pub each_same : (first : ℕ) (bytes : List ℕ) (m i : ℕ) (d e : List Cell) (c : Cell) → cell d i ≡ cell e i
    → HoldsEither (newest (cell d i)) (word_with first bytes m (words_of d) i) c → HoldsEither (newest (cell e i)) (word_with first bytes m (words_of e) i) c
each_same first bytes m i d e c same is = subst (λ y. HoldsEither y (word_from first bytes m i y) c) (ap newest same) is

pub done_same : (first : ℕ) (bytes : List ℕ) (m i : ℕ) (d e : List Cell) (c : Cell) → cell d i ≡ cell e i
    → fenced c ≡ Single (word_with first bytes m (words_of d) i) → fenced c ≡ Single (word_with first bytes m (words_of e) i)
done_same first bytes m i d e c same is = is ∙ ap (λ x. Single (word_from first bytes m i (newest x))) same
