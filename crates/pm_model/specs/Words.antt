-- Words, lines and blocks, as numbers and as bytes. Numbers of several bytes are little endian.
-- A word has 8 bytes, a line 64 bytes or 8 words, a block 4,096 bytes, 512 words or 64 lines.
use Rattle.std.specs.Prelude.{ℕ, ◌+◌, ◌*◌, ◌/◌, ◌%◌, ◌^◌, ◌==◌, List, ◌++◌, take, drop, if◌then◌else◌}
use Rattle.std.specs.Int.{from_le_bytes, to_le_bytes, w64}

-- the content of a memory: the value of each word, by its number
abbrev pub Words : Type 0
Words = ℕ → ℕ

-- word i of a list of bytes; bytes past its end count as 0
unfoldable pub word_at : List ℕ → Words
word_at bytes i = from_le_bytes w64 (take 8 (drop (8 * i) bytes))

-- byte k, counted from the first byte of word 0
abbrev pub byte_of : Words → ℕ → ℕ
byte_of f k = f (k / 8) / 256 ^ (k % 8) % 256

-- the 64 bytes of a line
unfoldable pub line_bytes : Words → ℕ → List ℕ
line_bytes f line =
    to_le_bytes w64 (f (8 * line)) ++ to_le_bytes w64 (f (8 * line + 1))
    ++ to_le_bytes w64 (f (8 * line + 2)) ++ to_le_bytes w64 (f (8 * line + 3))
    ++ to_le_bytes w64 (f (8 * line + 4)) ++ to_le_bytes w64 (f (8 * line + 5))
    ++ to_le_bytes w64 (f (8 * line + 6)) ++ to_le_bytes w64 (f (8 * line + 7))

-- the content in which a line has the words of 64 bytes
abbrev pub with_line : ℕ → List ℕ → Words → Words
with_line line bytes f i = if i / 8 == line then word_at bytes (i % 8) else f i
