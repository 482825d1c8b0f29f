-- What a relink finds and leaves, file block by file block.
use Rattle.std.specs.Prelude.{◌≡◌, ℕ, ◌+◌, ◌-◌, ◌<◌, ◌≤◌, not, IsSome, if◌then◌else◌, None, List}
use Rattle.extent_model.specs.declared.extent_words.Extent.{Extent}
use Rattle.extent_model.specs.Extents.{is_within, disk_at, block_count, IsCanonical}
use Rattle.extent_model.specs.Maps.{IsPart}

-- `block` is the first of `count` file blocks from `first` on that has no disk block
pub record IsFirstHole (es : List Extent) (first count block : ℕ) : Type 0 where
  pub behind : first ≤ block
  pub before : block < first + count
  pub hole : disk_at es block ≡ None
  pub earlier : (b : ℕ) → first ≤ b → b < block → IsSome (disk_at es b)

-- each of `count` file blocks from `first` on has a disk block
abbrev pub IsMapped : List Extent → ℕ → ℕ → Type 0
IsMapped es first count = (b : ℕ) → first ≤ b → b < first + count → IsSome (disk_at es b)

-- The disk blocks of `count` blocks of src from `from` on go to the blocks of dst from `to` on: `left` and
-- `linked` are the two maps afterwards, and `displaced` is what dst had there. All else stays.
pub record Moves (from to count : ℕ) (src dst left linked displaced : List Extent) : Type 0 where
  pub source : IsPart (λ b. not (is_within from count b)) src left
  pub canonical : IsCanonical linked
  pub target : (b : ℕ) → disk_at linked b ≡ (if is_within to count b then disk_at src (from + (b - to)) else disk_at dst b)
  pub freed : IsPart (is_within to count) dst displaced
  pub source_count : block_count left + count ≡ block_count src
  pub target_count : block_count linked + block_count displaced ≡ block_count dst + count
