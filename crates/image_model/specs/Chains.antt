-- Chain blocks, which keep the map of an inode: word 0 has the next chain block, 0 for the last, and above it (times
-- 2^32) the number of extents; word 1 is zero; then come two words an extent, its file block with the disk block
-- above it, and its count. All other words are zero. Each block but the last has 255 extents.
use Rattle.std.specs.Prelude.{◌≡◌, ℕ, zero, suc, ◌+◌, ◌-◌, ◌*◌, ◌/◌, ◌%◌, ◌^◌, ◌<◌, ◌==◌, List, [], ◌∷◌, length, map, take, drop, if◌then◌else◌}
use Rattle.std.specs.List.{flat_map, range_with_len}
use Rattle.layout_model.specs.pm_model.Words.{Words}
use Rattle.layout_model.specs.block_counts.Counts.{chains_for}
use Rattle.extent_model.specs.declared.extent_words.Extent.{Extent}
use Rattle.layout_model.specs.declared.lines.Inode.{Inode}

abbrev pub extents_per_block : ℕ
extents_per_block = 255

-- word j behind the first two of a chain block
abbrev pub extent_word : List Extent → ℕ → ℕ
extent_word [] j = 0
extent_word (e ∷ es) zero = e.file + 2 ^ 32 * e.disk
extent_word (e ∷ es) (suc zero) = e.count
extent_word (e ∷ es) (suc (suc j)) = extent_word es j

-- word j of the chain block with these extents and this next block
unfoldable pub chain_word : ℕ → List Extent → ℕ → ℕ
chain_word next es j = if j == 0 then next + 2 ^ 32 * length es else if j == 1 then 0 else extent_word es (j - 2)

abbrev pub first_or_zero : List ℕ → ℕ
first_or_zero [] = 0
first_or_zero (b ∷ blocks) = b

-- the blocks, one after the other, are the spelling of these extents
unfoldable pub SpellsChain : Words → List ℕ → List Extent → Type 0
SpellsChain f [] es = es ≡ []
SpellsChain f (b ∷ blocks) es =
    ((j : ℕ) → j < 512 → f (512 * b + j) ≡ chain_word (first_or_zero blocks) (take extents_per_block es) j)
    × SpellsChain f blocks (drop extents_per_block es)

-- what stands in a chain block
abbrev pub next_block : Words → ℕ → ℕ
next_block f b = f (512 * b) % 2 ^ 32

abbrev pub extent_in : Words → ℕ → ℕ → Extent
extent_in f b k =
    record { file = f (512 * b + 2 + 2 * k) % 2 ^ 32; disk = f (512 * b + 2 + 2 * k) / 2 ^ 32; count = f (512 * b + 3 + 2 * k) }

abbrev pub extents_in : Words → ℕ → List Extent
extents_in f b = map (extent_in f b) (range_with_len 0 (f (512 * b) / 2 ^ 32))

-- n blocks from block b on, each the next of the one before
unfoldable pub blocks_from : Words → ℕ → ℕ → List ℕ
blocks_from f b zero = []
blocks_from f b (suc n) = b ∷ blocks_from f (next_block f b) n

-- the chain of an inode, as many blocks as its number of extents takes, and the extents that stand there
abbrev pub chain_of : Words → Inode → List ℕ
chain_of f x = blocks_from f x.root (chains_for x.extents)

abbrev pub map_of : Words → Inode → List Extent
map_of f x = flat_map (extents_in f) (chain_of f x)
