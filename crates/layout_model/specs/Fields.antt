-- Numbers in a line of bytes, little endian, by the place of their first byte.
use Rattle.std.specs.Prelude.{ℕ, ◌+◌, List, [], ◌∷◌, replicate, slice_index, Bool, nat_eq}
use Rattle.std.specs.Int.{from_le_bytes, w16, w32, w64}
use lib.Pointwise.{pointwise}

abbrev pub u16_at : List ℕ → ℕ → ℕ
u16_at bytes at = from_le_bytes w16 (slice_index bytes at ∷ slice_index bytes (at + 1) ∷ [])

abbrev pub u32_at : List ℕ → ℕ → ℕ
u32_at bytes at =
    from_le_bytes w32 (slice_index bytes at ∷ slice_index bytes (at + 1) ∷ slice_index bytes (at + 2) ∷ slice_index bytes (at + 3) ∷ [])

abbrev pub u64_at : List ℕ → ℕ → ℕ
u64_at bytes at =
    from_le_bytes w64
    (slice_index bytes at ∷ slice_index bytes (at + 1) ∷ slice_index bytes (at + 2) ∷ slice_index bytes (at + 3)
    ∷ slice_index bytes (at + 4) ∷ slice_index bytes (at + 5) ∷ slice_index bytes (at + 6) ∷ slice_index bytes (at + 7) ∷ [])

-- n bytes of value 0
abbrev pub zeros : ℕ → List ℕ
zeros n = replicate n 0

-- the two are the same bytes
abbrev pub is_same : List ℕ → List ℕ → Bool
is_same a b = pointwise nat_eq a b
