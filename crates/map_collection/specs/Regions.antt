-- What is kept of a region, 512 file blocks of an inode, and the answers in it.
use Rattle.std.specs.Prelude.{ℕ, ◌+◌, ◌*◌, ◌/◌, ◌%◌, List, get_or, map, Option, None}
use Rattle.std.specs.List.{flat_map, range_with_len}
use Rattle.std.specs.Global.{Vec}
use Rattle.map_collection.specs.Kept.{Answer}

-- the number of the region of a file block: each inode has 8
abbrev pub region_of : ℕ → ℕ → ℕ
region_of ino block = ino * 8 + block / 512

-- what a region has of its block i
abbrev pub answer_at : ℕ → List (Option ℕ) → ℕ → Answer
answer_at region disks i = record { ino = region / 8; block = region % 8 * 512 + i; disk = get_or disks i None }

-- what it has of all its blocks
abbrev pub answers_of : ℕ × Vec (Option ℕ) → List Answer
answers_of entry = map (answer_at entry.0 entry.1.items) (range_with_len 0 512)

-- what the regions have, one after the other
abbrev pub answers_in : List (ℕ × Vec (Option ℕ)) → List Answer
answers_in entries = flat_map answers_of entries
