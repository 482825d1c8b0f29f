-- Bytes that are put into a memory, from a byte on; and what a word may hold while they are stored.
use Rattle.std.specs.Prelude.{◌≡◌, ◌⊎◌, ◌<◌, ℕ, ◌+◌, ◌-◌, ◌*◌, Bool, ◌&&◌, nat_le, nat_lt, List, [], ◌∷◌, length, slice_index, if◌then◌else◌}
use Rattle.std.specs.Int.{from_le_bytes, to_le_bytes, w64}
use Rattle.pm_lines.specs.pm_model.declared.Cell.{Cell}
use Rattle.pm_lines.specs.pm_model.Cells.{IsCandidate}
use Rattle.pm_lines.specs.pm_model.Words.{byte_of, Words}

-- byte k is one of `count` bytes from `place` on
abbrev pub is_in : ℕ → ℕ → ℕ → Bool
is_in place count k = nat_le place k && nat_lt k (place + count)

-- byte j of word i, which was `old`
abbrev pub put_byte : ℕ → List ℕ → ℕ → ℕ → ℕ → ℕ
put_byte place bytes old i j = if is_in place (length bytes) (8 * i + j) then slice_index bytes (8 * i + j - place) else slice_index (to_le_bytes w64 old) j

-- word i, which was `old`: the eight bytes
unfoldable pub put_word : ℕ → List ℕ → ℕ → ℕ → ℕ
put_word place bytes old i =
    from_le_bytes w64
    (put_byte place bytes old i 0 ∷ put_byte place bytes old i 1 ∷ put_byte place bytes old i 2 ∷ put_byte place bytes old i 3
    ∷ put_byte place bytes old i 4 ∷ put_byte place bytes old i 5 ∷ put_byte place bytes old i 6 ∷ put_byte place bytes old i 7 ∷ [])

-- some of the bytes are in word i
abbrev pub is_reached : ℕ → ℕ → ℕ → Bool
is_reached place count i = nat_lt place (8 * i + 8) && nat_lt (8 * i) (place + count)

-- THE MEMORY WITH THE BYTES: a word that none of them is in stays.
abbrev pub with_bytes : ℕ → List ℕ → Words → Words
with_bytes place bytes f i = if is_reached place (length bytes) i then put_word place bytes (f i) i else f i

-- what stands at byte k then
abbrev pub byte_with : ℕ → List ℕ → Words → ℕ → ℕ
byte_with place bytes f k = if is_in place (length bytes) k then slice_index bytes (k - place) else byte_of f k

abbrev pub PutsBytes : Type 0
PutsBytes =
    (place : ℕ) (bytes : List ℕ) (f : Words) (k : ℕ) → ((i : ℕ) → slice_index bytes i < 256)
    → byte_of (with_bytes place bytes f) k ≡ byte_with place bytes f k

-- a cell has no candidates but these two
abbrev pub HoldsEither : ℕ → ℕ → Cell → Type 0
HoldsEither a t c = (x : ℕ) → IsCandidate c x → (x ≡ a) ⊎ (x ≡ t)
