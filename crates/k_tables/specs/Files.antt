-- The bytes of a file and its lines of 64 bytes, by its map.
use Rattle.std.specs.Prelude.{◌≡◌, ℕ, ◌+◌, ◌*◌, ◌/◌, ◌≤◌, List, length, map, Option, Some}
use Rattle.std.specs.List.{range_with_len}
use Rattle.pm_lines.specs.pm_model.declared.Cell.{Cell}
use Rattle.pm_lines.specs.pm_model.Words.{Words}
use Rattle.extent_map.specs.extent_model.declared.extent_words.Extent.{Extent}
use Rattle.extent_map.specs.extent_model.Extents.{disk_at}
use Rattle.name_laws.specs.image_model.Content.{byte_in}

-- the first n bytes of a file with this map
abbrev pub first_bytes : List Extent → Words → ℕ → List ℕ
first_bytes es f n = map (λ i. byte_in f (disk_at es (i / 4096)) i) (range_with_len 0 n)

-- a line of a disk block, or of a hole
abbrev pub line_in : Words → Option ℕ → ℕ → List ℕ
line_in f block line = map (λ k. byte_in f block (64 * line + k)) (range_with_len 0 64)

-- the disk blocks of the map lie in the device
abbrev pub IsInside : List Extent → List Cell → Type 0
IsInside es d = (block b : ℕ) → disk_at es block ≡ Some b → 512 * b + 512 ≤ length d
