-- The pieces of a file that its runs leave: none has a block of another, and each gives its blocks the place of the last run laid there.
use Rattle.std.specs.Prelude.{◌≡◌, ℕ, ◌+◌, ◌-◌, ◌<◌, ◌≤◌, max, min, true, false, List, length, slice_index_or, Some, None}
use Rattle.file_overlay.specs.declared.runs.Run.{Run}
use Rattle.file_overlay.specs.Runs.{FitsRun, has_block, place_in, staged_at}

-- a run of no block, and the piece at a place
abbrev pub no_block : Run
no_block = record { file_block = 0; staging = 0; staging_block = 0; count = 0; order = 0 }

abbrev pub piece_at : List Run → ℕ → Run
piece_at pieces k = slice_index_or pieces k no_block

-- the block behind a piece
abbrev pub end_of : Run → ℕ
end_of piece = piece.file_block + piece.count

-- Each piece ends where the next one begins, or before, and fits 32 bits.
pub record AreApart (pieces : List Run) : Type 0 where
  pub fit : (k : ℕ) → k < length pieces → FitsRun (piece_at pieces k)
  pub apart : (i j : ℕ) → i < j → j < length pieces → end_of (piece_at pieces i) ≤ (piece_at pieces j).file_block

-- They give each file block the place that the runs give it.
pub record ArePieces (runs pieces : List Run) : Type 0 where
  pub lie : AreApart pieces
  pub found : (block k : ℕ) → k < length pieces → has_block block (piece_at pieces k) ≡ true → staged_at runs block ≡ Some (place_in block (piece_at pieces k))
  pub none : (block : ℕ) → ((k : ℕ) → k < length pieces → has_block block (piece_at pieces k) ≡ false) → staged_at runs block ≡ None

-- so many pieces, and no other, begin before a block
pub record IsBegun (pieces : List Run) (block n : ℕ) : Type 0 where
  pub within : n ≤ length pieces
  pub before : (k : ℕ) → k < n → (piece_at pieces k).file_block < block
  pub behind : (k : ℕ) → n ≤ k → k < length pieces → block ≤ (piece_at pieces k).file_block

-- so many pieces end at a block or before, and each other there or behind
pub record IsEnded (pieces : List Run) (block n : ℕ) : Type 0 where
  pub within : n ≤ length pieces
  pub before : (k : ℕ) → k < n → end_of (piece_at pieces k) ≤ block
  pub behind : (k : ℕ) → n ≤ k → k < length pieces → block ≤ end_of (piece_at pieces k)

-- the blocks of a piece before a block, and those from a block on
abbrev pub front_of : ℕ → Run → Run
front_of block piece = record piece { count = min piece.count (block - piece.file_block) }

abbrev pub back_of : ℕ → Run → Run
back_of block piece = record piece {
  file_block = max piece.file_block block;
  staging_block = piece.staging_block + (block - piece.file_block);
  count = piece.count - (block - piece.file_block);
}
