-- Words on pieces that are laid at other file blocks.
use Rattle.std.specs.Prelude.{ℕ, ◌+◌, ◌-◌, ◌≤◌, nat_le, if◌then◌else◌, Option, None, List}
use Rattle.extent_map.specs.extent_model.declared.extent_words.Extent.{Extent}
use Rattle.extent_map.specs.extent_model.Extents.{disk_at}

-- the extent's file blocks are among `count` blocks from `first` on
pub record LiesBetween (first count : ℕ) (e : Extent) : Type 0 where
  pub low : first ≤ e.file
  pub high : e.file + e.count ≤ first + count

-- the disk block that a file block has by pieces whose block `from` is laid at block `to`
abbrev pub moved_at : ℕ → ℕ → List Extent → ℕ → Option ℕ
moved_at from to pieces block = if nat_le to block then disk_at pieces (from + (block - to)) else None
