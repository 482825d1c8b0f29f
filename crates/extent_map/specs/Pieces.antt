-- Parts of extents, and lists that grow by them.
use Rattle.std.specs.Prelude.{◌≡◌, ℕ, ◌+◌, ◌-◌, ◌<◌, ◌≤◌, Bool, nat_lt, if◌then◌else◌, List, length, slice_index_or, sum_by, count_by, min, max}
use Rattle.extent_model.specs.declared.extent_words.Extent.{Extent}
use Rattle.extent_model.specs.Extents.{is_between, disk_at, block_count, IsExtent, IsCanonical}
use Rattle.extent_model.specs.Maps.{Replaces}

-- where the part of an extent between two file blocks begins and ends, how many blocks it has, and whether it has any
abbrev pub start_from : ℕ → Extent → ℕ
start_from from e = max e.file from

abbrev pub end_before : ℕ → Extent → ℕ
end_before to e = min (e.file + e.count) to

abbrev pub shared : ℕ → ℕ → Extent → ℕ
shared from to e = end_before to e - start_from from e

abbrev pub overlaps : ℕ → ℕ → Extent → Bool
overlaps from to e = nat_lt (start_from from e) (end_before to e)

-- `part` is the part of the extent between the two file blocks
pub record IsPiece (from to : ℕ) (e part : Extent) : Type 0 where
  pub extent : IsExtent part
  pub start : part.file ≡ max e.file from
  pub end : part.file + part.count ≡ min (e.file + e.count) to
  pub disk : part.disk + e.file ≡ e.disk + part.file

-- `new` is `old` with one extent more, which may have become one with the last of old
pub record Appends (next : Extent) (old new : List Extent) : Type 0 where
  pub map : Replaces next old new
  pub few : length new ≤ length old + 1
  pub count : block_count new ≡ block_count old + next.count

-- `new` is `old` with the parts of the extents between the two file blocks
pub record AppendsBetween (from to : ℕ) (es old new : List Extent) : Type 0 where
  pub canonical : IsCanonical new
  pub blocks : (b : ℕ) → disk_at new b ≡ (if is_between from to b then disk_at es b else disk_at old b)
  pub few : length new ≤ length old + count_by (overlaps from to) es
  pub count : block_count new ≡ block_count old + sum_by (shared from to) es

-- n extents begin at the block or before it, and the others behind it
pub record IsBegun (es : List Extent) (block n : ℕ) : Type 0 where
  pub bound : n ≤ length es
  pub begun : (k : ℕ) (d : Extent) → k < n → (slice_index_or es k d).file ≤ block
  pub later : (k : ℕ) (d : Extent) → n ≤ k → k < length es → block < (slice_index_or es k d).file
