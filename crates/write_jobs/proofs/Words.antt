-- The bytes of a word that was made of eight bytes, and the words of bytes.
use Rattle.std.specs.Prelude.{◌≡◌, ◌<◌, ◌+◌, ◌*◌, ◌/◌, ◌%◌, ◌^◌, ℕ, zero, suc, List, [], ◌∷◌, length, slice_index, refl}
use Rattle.std.specs.Int.{from_le_bytes, to_le_bytes, w64}
use Rattle.std.proofs.Common.{arith, ap, ◌∙◌, sym, get_or, lit<}
use Rattle.std.proofs.lemmas.List.FromFn.{get_or-map-range_with_len, length-map-range_with_len}
use Rattle.std.proofs.lemmas.Nat.{from_le_bytes-to_le_bytes_8, le_bytes_8}
use Rattle.pm_lines.specs.pm_model.Bytes.{word_at-bytes}
use Rattle.pm_lines.specs.pm_model.Words.{word_at}
use Rattle.write_jobs.specs.Contents.{words_in}

byte_in : (n j : ℕ) → j < 8 → slice_index (to_le_bytes w64 n) j ≡ n / 256 ^ j % 256
byte_in n zero below = omega arith
byte_in n (suc zero) below = refl
byte_in n (suc (suc zero)) below = refl
byte_in n (suc (suc (suc zero))) below = refl
byte_in n (suc (suc (suc (suc zero)))) below = refl
byte_in n (suc (suc (suc (suc (suc zero))))) below = refl
byte_in n (suc (suc (suc (suc (suc (suc zero)))))) below = refl
byte_in n (suc (suc (suc (suc (suc (suc (suc zero))))))) below = refl
byte_in n (suc (suc (suc (suc (suc (suc (suc (suc j)))))))) below = absurd (omega (arith, below))

module _ (bytes : List ℕ) (at : ℕ) (small : (n : ℕ) → slice_index bytes n < 256) where
  eight : List ℕ
  eight =
      slice_index bytes at ∷ slice_index bytes (at + 1) ∷ slice_index bytes (at + 2) ∷ slice_index bytes (at + 3)
      ∷ slice_index bytes (at + 4) ∷ slice_index bytes (at + 5) ∷ slice_index bytes (at + 6) ∷ slice_index bytes (at + 7) ∷ []

  all_small : (n : ℕ) → get_or eight n 0 < 256
  unfolding eight
  all_small zero = small at
  all_small (suc zero) = small (at + 1)
  all_small (suc (suc zero)) = small (at + 2)
  all_small (suc (suc (suc zero))) = small (at + 3)
  all_small (suc (suc (suc (suc zero)))) = small (at + 4)
  all_small (suc (suc (suc (suc (suc zero))))) = small (at + 5)
  all_small (suc (suc (suc (suc (suc (suc zero)))))) = small (at + 6)
  all_small (suc (suc (suc (suc (suc (suc (suc zero))))))) = small (at + 7)
  all_small (suc (suc (suc (suc (suc (suc (suc (suc n)))))))) = omega arith

  at_place : (j : ℕ) → j < 8 → slice_index eight j ≡ slice_index bytes (at + j)
  unfolding eight
  at_place zero below = let same : at ≡ at + 0 = omega arith in ap (slice_index bytes) same
  at_place (suc zero) below = refl
  at_place (suc (suc zero)) below = refl
  at_place (suc (suc (suc zero))) below = refl
  at_place (suc (suc (suc (suc zero)))) below = refl
  at_place (suc (suc (suc (suc (suc zero))))) below = refl
  at_place (suc (suc (suc (suc (suc (suc zero)))))) below = refl
  at_place (suc (suc (suc (suc (suc (suc (suc zero))))))) below = refl
  at_place (suc (suc (suc (suc (suc (suc (suc (suc j)))))))) below = absurd (omega (arith, below))

  -- byte j of the number that the eight bytes spell
  pub word_byte : (word j : ℕ)
      → word ≡ from_le_bytes w64
      (slice_index bytes at ∷ slice_index bytes (at + 1) ∷ slice_index bytes (at + 2) ∷ slice_index bytes (at + 3)
      ∷ slice_index bytes (at + 4) ∷ slice_index bytes (at + 5) ∷ slice_index bytes (at + 6) ∷ slice_index bytes (at + 7) ∷ [])
      → j < 8 → word / 256 ^ j % 256 ≡ slice_index bytes (at + j)
  unfolding eight
  word_byte word j is below =
      sym (byte_in word j below) ∙ (λ i. slice_index (le_bytes_8 eight word refl all_small is i) j) ∙ at_place j below

-- a word that has the eight bytes is the word there
pub word_is : (bytes : List ℕ) (i word : ℕ) → word < 2 ^ 64 → ((j : ℕ) → j < 8 → word / 256 ^ j % 256 ≡ slice_index bytes (8 * i + j)) → word_at bytes i ≡ word
word_is bytes i word fits is =
    word_at-bytes bytes i
    ∙ (λ k. from_le_bytes w64 (first k ∷ byte 1 (lit< tt) k ∷ byte 2 (lit< tt) k ∷ byte 3 (lit< tt) k ∷ byte 4 (lit< tt) k ∷ byte 5 (lit< tt) k ∷ byte 6 (lit< tt) k ∷ byte 7 (lit< tt) k ∷ []))
    ∙ from_le_bytes-to_le_bytes_8 word fits
  where
    byte : (j : ℕ) → j < 8 → slice_index bytes (8 * i + j) ≡ slice_index (to_le_bytes w64 word) j
    byte j below = sym (is j below) ∙ sym (byte_in word j below)

    first : slice_index bytes (8 * i) ≡ slice_index (to_le_bytes w64 word) 0
    first = ap (slice_index bytes) (omega arith) ∙ byte 0 (lit< tt)

-- so many words
pub length-words : (bytes : List ℕ) (count : ℕ) → length (words_in bytes count) ≡ count
length-words bytes count = length-map-range_with_len (word_at bytes) 0 count

pub index-words : (bytes : List ℕ) (count i : ℕ) → i < count → slice_index (words_in bytes count) i ≡ word_at bytes i
index-words bytes count i below = get_or-map-range_with_len (word_at bytes) 0 count i i 0 below (omega arith)

-- the words in bytes spell them
pub words-spell : (bytes : List ℕ) (count i : ℕ) → ((n : ℕ) → slice_index bytes n < 256) → i < 8 * count → slice_index (words_in bytes count) (i / 8) / 256 ^ (i % 8) % 256 ≡ slice_index bytes i
words-spell bytes count i small below =
    ap (λ w. w / 256 ^ (i % 8) % 256) (index-words bytes count (i / 8) (omega (arith, below)))
    ∙ word_byte bytes (8 * (i / 8)) small (word_at bytes (i / 8)) (i % 8) (word_at-bytes bytes (i / 8)) (omega arith)
    ∙ ap (slice_index bytes) (omega arith)
