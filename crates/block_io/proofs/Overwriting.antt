-- What a range that was stored leaves of the images.
use Rattle.std.specs.Prelude.{◌≡◌, ◌≢◌, ◌⊎◌, ◌≤◌, ◌<◌, ℕ, zero, suc, ◌+◌, ◌-◌, ◌*◌, ◌/◌, ◌%◌, ◌^◌, true, false, List, drop, length, max, take, Option, Some, None, slice_index, if◌then◌else◌, refl}
use Rattle.std.proofs.Common.{arith, ap, ◌∙◌, sym, subst, inl, inr, length-drop, length-take}
use Rattle.std.proofs.lemmas.Bool.{cases_eq, cases_lt}
use Rattle.std.proofs.lemmas.Bool.Decides.{nat_tests}
use Rattle.std.proofs.lemmas.List.{get_or-drop, get_or-take, get_or_past}
use Rattle.std.proofs.lemmas.Option.{same_Some}
use Rattle.pm_lines.specs.pm_model.declared.Cell.{Cell}
use Rattle.pm_lines.specs.pm_model.declared.Cell.TheVariants.{Single}
use Rattle.pm_lines.specs.pm_model.CellLaws.{settled-single}
use Rattle.pm_lines.specs.pm_model.Cells.{cell, IsCandidate, is_single, newest, Settles}
use Rattle.pm_lines.specs.pm_model.Frames.{KeepsSingle}
use Rattle.pm_lines.specs.pm_model.Images.{ComesFrom, Follows, Follows-same, IsImage, words_of}
use Rattle.pm_lines.specs.pm_model.Words.{byte_of, Words}
use Rattle.extent_map.specs.extent_model.declared.extent_words.Extent.{Extent}
use Rattle.extent_map.specs.extent_model.Extents.{disk_at}
use Rattle.block_io.specs.Overwrites.{IsBeside, IsBesideBlocks, IsOverwritten, IsOverwrittenWhole, IsReached, MayOverwrite, piece, piece_from, piece_to, StandsIn, word_with}
use Rattle.block_io.specs.Puts.{HoldsEither, is_in, with_bytes}
use Rattle.block_io.proofs.Before as written
use Rattle.block_io.proofs.Bytes.{bytes_put}
use Rattle.block_io.proofs.Reached.{in_range, one_candidate, range_of, stands_in}

-- ---- which block of the range a disk block is

pub Found : List Extent → ℕ → ℕ → ℕ → Type 0
Found es lo k b = ((m : ℕ) × (lo ≤ m) × (m < lo + k) × (disk_at es m ≡ Some b)) ⊎ ((m : ℕ) → lo ≤ m → m < lo + k → disk_at es m ≢ Some b)

is_or_not : (o : Option ℕ) (b : ℕ) → (o ≡ Some b) ⊎ (o ≢ Some b)
is_or_not None b = inr (λ e. cc)
is_or_not (Some x) b = elim (cases_eq x b) [ inl same ↦ inl (ap Some same) | inr other ↦ inr (λ e. other (same_Some x b e)) ]

pub find : (es : List Extent) (lo k b : ℕ) → Found es lo k b
unfolding Found
find es lo zero b = inr (λ m low high. absurd (omega (arith, low, high)))
find es lo (suc k) b = elim (is_or_not (disk_at es (lo + k)) b) [
  | inl here ↦ inl (lo + k, omega arith, omega arith, here)
  | inr not_here ↦ elim (find es lo k b) [
    | inl found ↦ inl (found.0, found.1, omega (arith, found.2), found.3)
    | inr none ↦
        inr (λ m low high. elim (cases_eq m (lo + k)) [
          | inl last ↦ subst (λ n. disk_at es n ≢ Some b) (sym last) not_here
          | inr before ↦ none m low (omega (arith, high, before))
        ])
  ]
]

-- ---- a byte of a piece

-- byte k of the device, in block m of the file
byte_of_piece : (first : ℕ) (bytes : List ℕ) (m p : ℕ) → IsReached first (length bytes) m → piece_from first m ≤ p → p < piece_to first (length bytes) m
    → slice_index (piece first bytes m) (p - piece_from first m) ≡ slice_index bytes (p - first)
byte_of_piece first bytes m p reached low high =
    get_or-take (piece_to first (length bytes) m - piece_from first m) (drop (piece_from first m - first) bytes) (p - piece_from first m) 0 (omega (arith, low, high))
    ∙ get_or-drop (piece_from first m - first) bytes (p - piece_from first m) 0
    ∙ ap (slice_index bytes) (omega (arith, low, high, reached.0, reached.1))

length_piece : (first : ℕ) (bytes : List ℕ) (m : ℕ) → 0 < length bytes → IsReached first (length bytes) m → length (piece first bytes m) ≡ piece_to first (length bytes) m - piece_from first m
length_piece first bytes m some reached =
    let n = piece_from first m - first in
    omega (arith, length-take (piece_to first (length bytes) m - piece_from first m) (drop n bytes), length-drop n bytes, some, reached.0, reached.1)

small_piece : (first : ℕ) (bytes : List ℕ) (m : ℕ) → ((n : ℕ) → slice_index bytes n < 256) → (n : ℕ) → slice_index (piece first bytes m) n < 256
small_piece first bytes m small n = by (piece_to first (length bytes) m - piece_from first m) where
  by : (k : ℕ) → slice_index (take k (drop (piece_from first m - first) bytes)) n < 256
  by k = elim (cases_lt n k) [
    | inl below ↦
        subst (λ x. x < 256) (sym (get_or-take k (drop (piece_from first m - first) bytes) n 0 below ∙ get_or-drop (piece_from first m - first) bytes n 0))
        (small (piece_from first m - first + n))
    | inr past ↦
        subst (λ x. x < 256) (sym (get_or_past (take k (drop (piece_from first m - first) bytes)) n 0 (omega (arith, past, length-take k (drop (piece_from first m - first) bytes))))) (omega arith)
  ]

-- byte k of a word that has the piece, where k is in the piece, and where it is not
module _ (first : ℕ) (bytes : List ℕ) (m b : ℕ) (f : Words) (some : 0 < length bytes) (small : (n : ℕ) → slice_index bytes n < 256) (reached : IsReached first (length bytes) m) where
  place : ℕ
  place = 4096 * b + (piece_from first m - 4096 * m)

  inside : (k p : ℕ) → first ≤ p → p < first + length bytes → p / 4096 ≡ m → k ≡ 4096 * b + p % 4096
      → byte_of (with_bytes place (piece first bytes m) f) k ≡ slice_index bytes (p - first)
  unfolding place
  inside k p low high at is =
      bytes_put place (piece first bytes m) f k (small_piece first bytes m small)
      ∙ ap (λ c. if c then slice_index (piece first bytes m) (k - place) else byte_of f k) is_within
      ∙ ap (slice_index (piece first bytes m)) (omega (arith, at, is, low, high))
      ∙ byte_of_piece first bytes m p reached (omega (arith, low, at)) (omega (arith, high, at))
    where
      size : length (piece first bytes m) ≡ piece_to first (length bytes) m - piece_from first m
      size = length_piece first bytes m some reached

      is_within : is_in place (length (piece first bytes m)) k ≡ true
      is_within = grind (arith, nat_tests, at, is, low, high, size)

  outside : (k : ℕ) → (k < place) ⊎ (place + (piece_to first (length bytes) m - piece_from first m) ≤ k) → byte_of (with_bytes place (piece first bytes m) f) k ≡ byte_of f k
  unfolding place
  outside k off =
      bytes_put place (piece first bytes m) f k (small_piece first bytes m small)
      ∙ ap (λ c. if c then slice_index (piece first bytes m) (k - place) else byte_of f k) is_without
    where
      size : length (piece first bytes m) ≡ piece_to first (length bytes) m - piece_from first m
      size = length_piece first bytes m some reached

      is_without : is_in place (length (piece first bytes m)) k ≡ false
      is_without = grind (arith, nat_tests, off, size)

-- ---- the images

-- a word beside all blocks is in none
pub beside_none : (es : List Extent) (first count i : ℕ) → 0 < count → IsBesideBlocks es first count i → (m : ℕ) → IsReached first count m → disk_at es m ≢ Some (i / 512)
beside_none es first count i some beside m reached at = beside (max first (4096 * m)) (i / 512) (stands_in es first count m (i / 512) some reached at) refl

module _ (es : List Extent) (first : ℕ) (bytes : List ℕ) (old new : List Cell) (some : 0 < length bytes) (small : (n : ℕ) → slice_index bytes n < 256)
    (may : MayOverwrite es first (length bytes) old)
    (others : (i : ℕ) → ((m : ℕ) → IsReached first (length bytes) m → disk_at es m ≢ Some (i / 512)) → Settles (cell old i) (cell new i))
    (each : (m i : ℕ) → IsReached first (length bytes) m → disk_at es m ≡ Some (i / 512) → HoldsEither (newest (cell old i)) (word_with first bytes m (words_of old) i) (cell new i)) where
  -- a word is in a block of the range, or in none
  Touched : ℕ → Type 0
  Touched i = (m : ℕ) × IsReached first (length bytes) m × (disk_at es m ≡ Some (i / 512))

  touched : (i : ℕ) → Touched i ⊎ ((m : ℕ) → IsReached first (length bytes) m → disk_at es m ≢ Some (i / 512))
  unfolding Touched Found
  touched i = elim (find es (first / 4096) ((first + length bytes - 1) / 4096 + 1 - first / 4096) (i / 512)) [
    | inl found ↦ inl (found.0, in_range first (length bytes) found.0 some found.1 (omega (arith, found.2)), found.3)
    | inr none ↦ inr (λ m reached. let range = range_of first (length bytes) m reached in none m range.0 (omega (arith, range.1)))
  ]

  is_touched : (i : ℕ) → Touched i ⊎ ¬ Touched i
  unfolding Touched
  is_touched i = elim (touched i) [ inl here ↦ inl here | inr none ↦ inr (λ here. none here.0 here.1 here.2) ]

  single : (i : ℕ) → Touched i → is_single (cell old i) ≡ true
  unfolding Touched
  single i here = one_candidate es first (length bytes) old some may here.0 i here.1 here.2

  untouched : (i : ℕ) → ¬ Touched i → Settles (cell old i) (cell new i)
  unfolding Touched
  untouched i off = others i (λ m reached at. off (m, reached, at))

  before : Words → Words
  before = written.before Touched is_touched old new single untouched

  before_in : (image : Words) (i m : ℕ) → IsReached first (length bytes) m → disk_at es m ≡ Some (i / 512) → before image i ≡ newest (cell old i)
  unfolding before Touched
  before_in image i m reached at = written.before_in Touched is_touched old new single untouched image i (m, reached, at)

  before_off : (image : Words) (i : ℕ) → ((m : ℕ) → IsReached first (length bytes) m → disk_at es m ≢ Some (i / 512)) → before image i ≡ image i
  unfolding before Touched
  before_off image i off = written.before_off Touched is_touched old new single untouched image i (λ here. off here.0 here.1 here.2)

  comes : (image : Words) → IsImage new image → ComesFrom old image (before image)
  unfolding before
  comes image is = written.comes Touched is_touched old new single untouched image is

  -- a byte of the range, in the block where it stands
  reached_at : (p b : ℕ) → StandsIn es first (length bytes) p b → IsReached first (length bytes) (p / 4096)
  reached_at p b stands = (let below = stands.below in omega (arith, below), let from = stands.from in omega (arith, from))

  word_at : (p b k : ℕ) → StandsIn es first (length bytes) p b → k ≡ 4096 * b + p % 4096 → disk_at es (p / 4096) ≡ Some (k / 8 / 512)
  word_at p b k stands is = stands.at ∙ ap Some (omega (arith, is))

  new_byte : (image : Words) (p b k : ℕ) → StandsIn es first (length bytes) p b → k ≡ 4096 * b + p % 4096 → image (k / 8) ≡ word_with first bytes (p / 4096) (words_of old) (k / 8)
      → byte_of image k ≡ slice_index bytes (p - first)
  unfolding place
  new_byte image p b k stands is word =
      ap (λ w. w / 256 ^ (k % 8) % 256) word
      ∙ inside first bytes (p / 4096) (k / 8 / 512) (words_of old) some small (reached_at p b stands) k p stands.from stands.below refl (omega (arith, is))

  old_byte : (image : Words) (m k : ℕ) → IsReached first (length bytes) m → disk_at es m ≡ Some (k / 8 / 512) → IsBeside es first (length bytes) k
      → image (k / 8) ≡ word_with first bytes m (words_of old) (k / 8) → byte_of image k ≡ byte_of (words_of old) k
  unfolding place
  old_byte image m k reached at beside word =
      ap (λ w. w / 256 ^ (k % 8) % 256) word ∙ outside first bytes m (k / 8 / 512) (words_of old) some small reached k off
    where
      -- else it is a byte of the range
      off : (k < 4096 * (k / 8 / 512) + (piece_from first m - 4096 * m))
          ⊎ (4096 * (k / 8 / 512) + (piece_from first m - 4096 * m) + (piece_to first (length bytes) m - piece_from first m) ≤ k)
      off = elim (cases_lt k (4096 * (k / 8 / 512) + (piece_from first m - 4096 * m))) [
        | inl low ↦ inl low
        | inr from ↦ elim (cases_lt k (4096 * (k / 8 / 512) + (piece_from first m - 4096 * m) + (piece_to first (length bytes) m - piece_from first m))) [
          | inr past ↦ inr past
          | inl below ↦
              let p : ℕ = 4096 * m + (k - 4096 * (k / 8 / 512)) in
              let block : p / 4096 ≡ m = omega arith in
              absurd (beside p (k / 8 / 512)
              (record { from = omega (arith, from); below = omega (arith, from, below); at = ap (disk_at es) block ∙ at })
              (omega arith))
        ]
      ]

  same_byte : (image : Words) (m k : ℕ) → IsReached first (length bytes) m → disk_at es m ≡ Some (k / 8 / 512) → byte_of (words_of old) k ≡ byte_of (before image) k
  same_byte image m k reached at = ap (λ w. w / 256 ^ (k % 8) % 256) (sym (before_in image (k / 8) m reached at))

  words_same : (image : Words) (i : ℕ) → IsBesideBlocks es first (length bytes) i → image i ≡ before image i
  words_same image i beside = sym (before_off image i (beside_none es first (length bytes) i some beside))

  bytes_same : (image : Words) → IsImage new image → (k : ℕ) → IsBeside es first (length bytes) k → byte_of image k ≡ byte_of (before image) k
  unfolding Touched
  bytes_same image is k beside = elim (touched (k / 8)) [
    | inl here ↦ elim (each here.0 (k / 8) here.1 here.2 (image (k / 8)) (is (k / 8))) [
      | inl same ↦ ap (λ w. w / 256 ^ (k % 8) % 256) same ∙ same_byte image here.0 k here.1 here.2
      | inr word ↦ old_byte image here.0 k here.1 here.2 beside word ∙ same_byte image here.0 k here.1 here.2
    ]
    | inr none ↦ ap (λ w. w / 256 ^ (k % 8) % 256) (sym (before_off image (k / 8) none))
  ]

  -- wherever the power goes
  pub overwritten : Follows (IsOverwritten es first bytes) old new
  overwritten image is = (
    before image,
    comes image is,
    record {
      each = λ p b stands.
          let k : ℕ = 4096 * b + p % 4096 in
          let at = word_at p b k stands refl in
          elim (each (p / 4096) (k / 8) (reached_at p b stands) at (image (k / 8)) (is (k / 8))) [
            | inl same ↦ inl (ap (λ w. w / 256 ^ (k % 8) % 256) same ∙ same_byte image (p / 4096) k (reached_at p b stands) at)
            | inr word ↦ inr (new_byte image p b k stands refl word)
          ];
      others = bytes_same image is;
      words = words_same image;
    },
  )

  -- at the end
  module _ (done : (m i : ℕ) → IsReached first (length bytes) m → disk_at es m ≡ Some (i / 512) → cell new i ≡ Single (word_with first bytes m (words_of old) i)) where
    pub overwritten_whole : Follows (IsOverwrittenWhole es first bytes) old new
    overwritten_whole image is = (
      before image,
      comes image is,
      record {
        each = λ p b stands.
            let k : ℕ = 4096 * b + p % 4096 in
            new_byte image p b k stands refl
            (subst (λ c. IsCandidate c (image (k / 8))) (done (p / 4096) (k / 8) (reached_at p b stands) (word_at p b k stands refl)) (is (k / 8)));
        others = bytes_same image is;
        words = words_same image;
      },
    )

    pub kept_single : KeepsSingle old new
    unfolding Touched
    kept_single i single = elim (touched i) [
      | inl here ↦ ap is_single (done here.0 i here.1 here.2)
      | inr none ↦ ap is_single (settled-single (cell old i) (cell new i) (others i none) single)
    ]

-- nothing is written
pub none_overwritten : (es : List Extent) (first : ℕ) (bytes : List ℕ) (d : List Cell) → Follows (IsOverwritten es first bytes) d d
none_overwritten es first bytes d = Follows-same (IsOverwritten es first bytes) d (λ f. record { each = λ p b stands. inl refl; others = λ k beside. refl; words = λ i beside. refl })

pub empty_overwritten : (es : List Extent) (first : ℕ) (bytes : List ℕ) (d : List Cell) → length bytes ≡ 0 → Follows (IsOverwrittenWhole es first bytes) d d
empty_overwritten es first bytes d empty =
    Follows-same (IsOverwrittenWhole es first bytes) d
    (λ f. record { each = λ p b stands. (let from = stands.from in let below = stands.below in absurd (omega (arith, empty, from, below))); others = λ k beside. refl; words = λ i beside. refl })
