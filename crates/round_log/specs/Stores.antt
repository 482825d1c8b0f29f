-- A line into which an entry is stored.
use Rattle.std.specs.Prelude.{◌≡◌, ◌⊎◌, ◌<◌, ◌≤◌, ℕ, Bool, true, List}
use Rattle.oplog_entry.specs.pm_model.declared.Cell.{Cell}
use Rattle.oplog_entry.specs.pm_model.declared.Cell.TheVariants.{Two}
use Rattle.oplog_entry.specs.pm_model.Cells.{cell, newest}
use Rattle.oplog_entry.specs.pm_model.Words.{Words}
use Rattle.layout_model.specs.declared.lines.Draft.{Draft}
use Rattle.oplog_entry.specs.declared.claims.Mark.{Mark}
use Rattle.oplog_entry.specs.EntryLines.{entry_words, Holds, IsSingle}

-- THE WORDS ARE STORED, as many as the power lasted for: each word of the line is as it was, alone, or has the new word behind it;
-- and where the power is on all have.
pub record HasStored (first : List Cell) (words : Words) (on : Bool) (cells : List Cell) : Type 0 where
  pub rest : (j : ℕ) → 8 ≤ j → cell cells j ≡ cell first j
  pub some : (j : ℕ) → j < 8 → (cell cells j ≡ cell first j) ⊎ (cell cells j ≡ Two (newest (cell first j)) (words j))
  pub all : on ≡ true → (j : ℕ) → j < 8 → cell cells j ≡ Two (newest (cell first j)) (words j)

-- WHAT PERSISTING A LINE LEAVES: whatever entry was stored into it, at a power that was on at least where it is on now, the line
-- holds as the mark says.
abbrev pub Persists : Mark → ℕ → Bool → List Cell → List Cell → Type 0
Persists mark seq on old new =
    (d : Draft) (first : List Cell) (stored : Bool) → IsSingle first → (on ≡ true → stored ≡ true) → HasStored first (entry_words d seq) stored old → Holds mark d seq first new
