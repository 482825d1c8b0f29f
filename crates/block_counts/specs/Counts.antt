-- How many blocks of 4,096 bytes things take: the bytes of a file, the chain that keeps its map, and what no file may
-- hold. The meaning of the calls and the rules of the image both count by these words.
use Rattle.std.specs.Prelude.{ℕ, ◌+◌, ◌/◌, min}

-- how many blocks so many bytes take
abbrev pub blocks_for : ℕ → ℕ
blocks_for bytes = (bytes + 4095) / 4096

-- how many chain blocks so many extents take, 255 a block
abbrev pub chains_for : ℕ → ℕ
chains_for extents = (extents + 254) / 255

-- The blocks that a file of this length holds, at the most: its own, and those of the chain of a map in which each
-- of them is an extent.
abbrev pub held_by : ℕ → ℕ
held_by bytes = blocks_for bytes + chains_for (blocks_for bytes)

-- The blocks that no file may hold, of so many data blocks: enough for a changed map of the largest file to be written
-- beside the old one, and three more.
abbrev pub reserve_for : ℕ → ℕ
reserve_for data_blocks = chains_for (min 4096 data_blocks) + 3
