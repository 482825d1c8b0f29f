-- Bytes as the words of whole blocks.
use Rattle.std.specs.Prelude.{◌≡◌, ◌<◌, ◌*◌, ◌/◌, ◌%◌, ◌^◌, ℕ, List, ◌++◌, length, map, slice_index}
use Rattle.std.specs.List.{range_with_len}
use Rattle.pm_lines.specs.pm_model.Words.{word_at}
use Rattle.world_image_laws.specs.posix_tables.Bytes.{overwritten, resized}

-- The words spell the bytes, eight of them each, the first one lowest.
pub record SpellBytes (words bytes : List ℕ) : Type 0 where
  pub count : 8 * length words ≡ length bytes
  pub each : (i : ℕ) → i < length bytes → slice_index words (i / 8) / 256 ^ (i % 8) % 256 ≡ slice_index bytes i

-- so many words in bytes, from the first one on; bytes past the end count as zero
abbrev pub words_in : List ℕ → ℕ → List ℕ
words_in bytes count = map (word_at bytes) (range_with_len 0 count)

-- What so many blocks hold of a file: its old bytes there, with others over them from a place on, and zeros behind.
abbrev pub staged_bytes : List ℕ → ℕ → List ℕ → ℕ → List ℕ
staged_bytes old at new count = resized (overwritten old at new) (4096 * count)

-- New bytes from a place on, behind the bytes that stand before it, and before others.
abbrev pub framed : List ℕ → ℕ → List ℕ → List ℕ → List ℕ
framed front at new back = resized front at ++ new ++ back

-- So many blocks of them, with zeros behind.
abbrev pub framed_bytes : List ℕ → ℕ → List ℕ → List ℕ → ℕ → List ℕ
framed_bytes front at new back count = resized (framed front at new back) (4096 * count)
