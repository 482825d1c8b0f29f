-- Words on extents and on lists of extents: which disk block a file block has, and the one spelling of a map.
use Rattle.std.specs.Prelude.{◌≡◌, ℕ, ◌+◌, ◌-◌, ◌^◌, ◌<◌, ◌≤◌, Bool, ◌&&◌, nat_le, nat_lt, if◌then◌else◌, Option, Some, None, List, [], ◌∷◌, All, AllPairs, sum_by}
use Rattle.std.specs.List.{list_any}
use Rattle.extent_model.specs.declared.extent_words.Extent.{Extent}

-- whether a block is from `from` on and before `to`, and whether it is one of `count` blocks from `first` on
abbrev pub is_between : ℕ → ℕ → ℕ → Bool
is_between from to block = nat_le from block && nat_lt block to

abbrev pub is_within : ℕ → ℕ → ℕ → Bool
is_within first count block = is_between first (first + count) block

-- whether the extent has the file block, and whether it has the disk block
abbrev pub holds : Extent → ℕ → Bool
holds e block = is_within e.file e.count block

abbrev pub holds_disk : Extent → ℕ → Bool
holds_disk e block = is_within e.disk e.count block

-- the disk block that the extent gives one of its file blocks
abbrev pub disk_in : Extent → ℕ → ℕ
disk_in e block = e.disk + (block - e.file)

-- the disk block that the extents give a file block, by the first of them that has it
abbrev pub disk_at : List Extent → ℕ → Option ℕ
disk_at [] block = None
disk_at (e ∷ es) block = if holds e block then Some (disk_in e block) else disk_at es block

-- whether one of the extents has the disk block
abbrev pub covers : List Extent → ℕ → Bool
covers es block = list_any (λ e. holds_disk e block) es

-- how many blocks the extents have
abbrev pub block_count : List Extent → ℕ
block_count es = sum_by (λ e. e.count) es

-- at least one block, file blocks below 4,096, disk blocks whose numbers and end fit 32 bits
pub record IsExtent (e : Extent) : Type 0 where
  pub filled : 1 ≤ e.count
  pub in_file : e.file + e.count ≤ 4096
  pub on_disk : e.disk + e.count < 2 ^ 32

-- b goes on where a ends, in the file and on the disk, so that the two could be one
pub record Continues (a b : Extent) : Type 0 where
  pub file : a.file + a.count ≡ b.file
  pub disk : a.disk + a.count ≡ b.disk

-- b comes after a in the file, and the two could not be one
pub record ComesAfter (a b : Extent) : Type 0 where
  pub after : a.file + a.count ≤ b.file
  pub apart : ¬ Continues a b

-- The one spelling of a map: extents that rise, do not overlap, and of which no two could be one.
pub record IsCanonical (es : List Extent) : Type 0 where
  pub each : All IsExtent es
  pub rising : AllPairs ComesAfter es
