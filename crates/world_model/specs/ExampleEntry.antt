-- An entry that does not begin at the front of its file.
use Rattle.std.specs.Prelude.{◌≡◌, ℕ, zero, suc, ◌+◌, ◌*◌, ◌/◌, ◌%◌, ◌^◌, List, ◌∷◌, ◌++◌, replicate, slice_index, refl}
use Rattle.std.proofs.Common.{arith, ap, ◌∙◌, sym}
use Rattle.std.proofs.Math.Nat.{zero-div}
use Rattle.name_laws.specs.volume_laws.image_model.layout_model.declared.lines.Draft.{Draft}
use Rattle.world_model.specs.Jobs.{HoldsWhole}
use Rattle.world_model.specs.Example.{volume_a}

-- An entry of file block 1 has the bytes from there on: block 10 of these words is zero, and so is what the file has behind
-- its first 4,096 bytes.
abbrev entry_b : Draft
entry_b = record { count = 1; order = 1; ino = 5; generation = 1; file_block = 1; staging = 1; staging_block = 0; staging_generation = 1; size = 4099 }

abbrev bytes_b : List ℕ
bytes_b = replicate 4096 7 ++ replicate 3 0

zero_at : (n i : ℕ) → slice_index (replicate n 0) i ≡ 0
zero_at zero i = refl
zero_at (suc n) zero = refl
zero_at (suc n) (suc i) = zero_at n i

behind : (n i : ℕ) (ys : List ℕ) → slice_index (replicate n 7 ++ ys) (n + i) ≡ slice_index ys i
behind zero i ys = ap (slice_index ys) (zero_plus i) where
  zero_plus : (k : ℕ) → 0 + k ≡ k
  zero_plus k = omega arith
behind (suc n) i ys = ap (slice_index (7 ∷ (replicate n 7 ++ ys))) (one_more n i) ∙ behind n i ys where
  one_more : (k l : ℕ) → suc k + l ≡ suc (k + l)
  one_more k l = omega arith

pub HoldsWhole-b : HoldsWhole volume_a (λ w. 0) entry_b bytes_b
HoldsWhole-b zero b i below at short = zero_byte (256 ^ ((4096 * b + i) % 8)) ∙ sym (behind 4096 i (replicate 3 0) ∙ zero_at 3 i) where
  zero_byte : (n : ℕ) → 0 / n % 256 ≡ 0
  zero_byte n = ap (λ k. k % 256) (zero-div n)
HoldsWhole-b (suc k) b i below at short = absurd (omega (arith, below))
