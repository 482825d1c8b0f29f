-- What holds of every plan of a write.
use Rattle.block_counts.specs.declared.TheConstants.{LONGEST_FILE, LONGEST_WRITE}
use Rattle.std.specs.Prelude.{◌≡◌, ℕ, ◌+◌, ◌<◌, ◌≤◌, true, not, Some}
use Rattle.posix_types.specs.declared.call.Mode.{Mode}
use Rattle.data_route.specs.Writes.{is_in_place, is_staged, plan_of}

-- Each byte of a write is staged or written in place, and not both.
abbrev pub CoversOnce : Type 0
CoversOnce = (mode : Mode) (size offset len i : ℕ) → offset ≤ i → i < offset + len
    → is_in_place (plan_of mode size offset len) i ≡ not (is_staged (plan_of mode size offset len) i)

-- A byte that is written in place is one of the write, and below the old length.
abbrev pub WritesOldBytesInPlace : Type 0
WritesOldBytesInPlace = (mode : Mode) (size offset len i : ℕ) → is_in_place (plan_of mode size offset len) i ≡ true
    → (offset ≤ i) × (i < offset + len) × (i < size)

-- A write of 1 to 131,072 bytes stages 1 to 33 blocks, which lie in the file.
abbrev pub StagesFewBlocks : Type 0
StagesFewBlocks = (mode : Mode) (size offset len first count : ℕ) → 1 ≤ len → len ≤ LONGEST_WRITE → offset + len ≤ LONGEST_FILE
    → (plan_of mode size offset len).staged ≡ Some (first, count) → (1 ≤ count) × (count ≤ 33) × (first + count ≤ 4096)
