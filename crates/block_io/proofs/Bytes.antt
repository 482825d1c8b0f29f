-- The bytes of a word that bytes were put into.
use Rattle.std.specs.Prelude.{◌≡◌, ◌<◌, ℕ, zero, suc, ◌+◌, ◌-◌, ◌*◌, ◌/◌, ◌%◌, ◌^◌, Bool, true, false, List, [], ◌∷◌, length, slice_index, if◌then◌else◌, refl}
use Rattle.std.specs.Int.{to_le_bytes, w64}
use Rattle.std.proofs.Common.{arith, ap, ◌∙◌, sym, get_or}
use Rattle.std.proofs.lemmas.Bool.Decides.{nat_tests}
use Rattle.std.proofs.lemmas.Nat.{le_bytes_8}
use Rattle.pm_lines.specs.pm_model.Words.{byte_of, Words}
use Rattle.block_io.specs.Puts.{byte_with, is_in, is_reached, put_byte, put_word, PutsBytes, with_bytes}

-- byte j of a number
pub byte_in : (n j : ℕ) → j < 8 → slice_index (to_le_bytes w64 n) j ≡ n / 256 ^ j % 256
byte_in n zero below = omega arith
byte_in n (suc zero) below = refl
byte_in n (suc (suc zero)) below = refl
byte_in n (suc (suc (suc zero))) below = refl
byte_in n (suc (suc (suc (suc zero)))) below = refl
byte_in n (suc (suc (suc (suc (suc zero))))) below = refl
byte_in n (suc (suc (suc (suc (suc (suc zero)))))) below = refl
byte_in n (suc (suc (suc (suc (suc (suc (suc zero))))))) below = refl
byte_in n (suc (suc (suc (suc (suc (suc (suc (suc j)))))))) below = absurd (omega (arith, below))

module _ (place : ℕ) (bytes : List ℕ) (old i : ℕ) (small : (n : ℕ) → slice_index bytes n < 256) where
  eight : List ℕ
  eight =
      put_byte place bytes old i 0 ∷ put_byte place bytes old i 1 ∷ put_byte place bytes old i 2 ∷ put_byte place bytes old i 3
      ∷ put_byte place bytes old i 4 ∷ put_byte place bytes old i 5 ∷ put_byte place bytes old i 6 ∷ put_byte place bytes old i 7 ∷ []

  small_byte : (j : ℕ) → j < 8 → put_byte place bytes old i j < 256
  small_byte j below = by (is_in place (length bytes) (8 * i + j)) where
    by : (b : Bool) → (if b then slice_index bytes (8 * i + j - place) else slice_index (to_le_bytes w64 old) j) < 256
    by true = small (8 * i + j - place)
    by false = omega (arith, byte_in old j below)

  all_small : (n : ℕ) → get_or eight n 0 < 256
  unfolding eight
  all_small zero = small_byte 0 (omega arith)
  all_small (suc zero) = small_byte 1 (omega arith)
  all_small (suc (suc zero)) = small_byte 2 (omega arith)
  all_small (suc (suc (suc zero))) = small_byte 3 (omega arith)
  all_small (suc (suc (suc (suc zero)))) = small_byte 4 (omega arith)
  all_small (suc (suc (suc (suc (suc zero))))) = small_byte 5 (omega arith)
  all_small (suc (suc (suc (suc (suc (suc zero)))))) = small_byte 6 (omega arith)
  all_small (suc (suc (suc (suc (suc (suc (suc zero))))))) = small_byte 7 (omega arith)
  all_small (suc (suc (suc (suc (suc (suc (suc (suc n)))))))) = omega arith

  written : to_le_bytes w64 (put_word place bytes old i) ≡ eight
  unfolding put_word eight
  written = le_bytes_8 eight (put_word place bytes old i) refl all_small refl

  at_place : (j : ℕ) → j < 8 → slice_index eight j ≡ put_byte place bytes old i j
  unfolding eight
  at_place zero below = refl
  at_place (suc zero) below = refl
  at_place (suc (suc zero)) below = refl
  at_place (suc (suc (suc zero))) below = refl
  at_place (suc (suc (suc (suc zero)))) below = refl
  at_place (suc (suc (suc (suc (suc zero))))) below = refl
  at_place (suc (suc (suc (suc (suc (suc zero)))))) below = refl
  at_place (suc (suc (suc (suc (suc (suc (suc zero))))))) below = refl
  at_place (suc (suc (suc (suc (suc (suc (suc (suc j)))))))) below = absurd (omega (arith, below))

  byte_of_word : (j : ℕ) → j < 8 → put_word place bytes old i / 256 ^ j % 256 ≡ put_byte place bytes old i j
  byte_of_word j below = sym (byte_in (put_word place bytes old i) j below) ∙ ap (λ bs. slice_index bs j) written ∙ at_place j below

-- THE LAW
pub bytes_put : PutsBytes
bytes_put place bytes f k small = by (is_reached place (length bytes) (k / 8)) refl where
  at : 8 * (k / 8) + k % 8 ≡ k
  at = omega arith

  was : (j : ℕ) → j ≡ k % 8 → slice_index (to_le_bytes w64 (f (k / 8))) j ≡ byte_of f k
  was j is = ap (slice_index (to_le_bytes w64 (f (k / 8)))) is ∙ byte_in (f (k / 8)) (k % 8) (omega arith)

  put : put_byte place bytes (f (k / 8)) (k / 8) (k % 8) ≡ byte_with place bytes f k
  put =
      ap (λ n. if is_in place (length bytes) n then slice_index bytes (n - place) else slice_index (to_le_bytes w64 (f (k / 8))) (k % 8)) at
      ∙ ap (λ x. if is_in place (length bytes) k then slice_index bytes (k - place) else x) (was (k % 8) refl)

  apart : is_reached place (length bytes) (k / 8) ≡ false → is_in place (length bytes) k ≡ false
  apart none = grind (arith, nat_tests, none)

  by : (b : Bool) → is_reached place (length bytes) (k / 8) ≡ b → byte_of (with_bytes place bytes f) k ≡ byte_with place bytes f k
  by true is =
      ap (λ c. (if c then put_word place bytes (f (k / 8)) (k / 8) else f (k / 8)) / 256 ^ (k % 8) % 256) is
      ∙ byte_of_word place bytes (f (k / 8)) (k / 8) small (k % 8) (omega arith)
      ∙ put
  by false is =
      ap (λ c. (if c then put_word place bytes (f (k / 8)) (k / 8) else f (k / 8)) / 256 ^ (k % 8) % 256) is
      ∙ ap (λ c. if c then slice_index bytes (k - place) else byte_of f k) (sym (apart is))

-- ---- bytes that are read

-- byte k of a block
pub read_byte : (f : Words) (block word j k v : ℕ) → j < 8 → k ≡ 8 * word + j → v ≡ f (512 * block + word) → slice_index (to_le_bytes w64 v) j ≡ byte_of f (4096 * block + k)
read_byte f block word j k v below at is =
    byte_in v j below
    ∙ (λ i. is i / 256 ^ j % 256)
    ∙ (λ i. f (place i) / 256 ^ (rest i) % 256)
  where
    place : 512 * block + word ≡ (4096 * block + k) / 8
    place = omega (arith, below, at)

    rest : j ≡ (4096 * block + k) % 8
    rest = omega (arith, below, at)
