-- Room: how many blocks files hold, and what a write needs. Lengths are in bytes, the rest is in blocks. How many blocks
-- a length takes, what a file of it holds and what is kept back stand in `block_counts`.
use Rattle.std.specs.Prelude.{ℕ, ◌+◌, ◌-◌, ◌/◌, min, max, List, length, sum_by}
use Rattle.block_counts.specs.Counts.{blocks_for, held_by}
use Rattle.posix_types.specs.declared.call.Mode.{Mode}
use Rattle.posix_tables.specs.declared.nodes.Node.{Node}
use Rattle.posix_tables.specs.Nodes.{bytes_of}

-- what all files hold, also those without a name
abbrev pub held : List Node → ℕ
held nodes = sum_by (λ node. held_by (length (bytes_of node))) nodes

-- what a file needs that goes from one length to another, which is not below it
abbrev pub growth : ℕ → ℕ → ℕ
growth from to = held_by to - held_by from

-- how many blocks of a file of a length a write touches, from a start up to an end
abbrev pub touched_below : ℕ → ℕ → ℕ → ℕ
touched_below bytes start end = min (blocks_for end) (blocks_for bytes) - start / 4096

-- how many of them the mode stages anew
abbrev pub staged_below : Mode → ℕ → ℕ → ℕ → ℕ
staged_below Mode.Strict bytes start end = touched_below bytes start end
staged_below Mode.Sync bytes start end = 0
staged_below Mode.Posix bytes start end = 0

-- what a write from a start up to an end needs, at a file of a length
abbrev pub write_need : Mode → ℕ → ℕ → ℕ → ℕ
write_need mode bytes start end = staged_below mode bytes start end + growth bytes (max bytes end)
