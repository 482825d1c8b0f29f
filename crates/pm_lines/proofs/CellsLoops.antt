-- What the loops over cells keep.
use Rattle.std.proofs.Common.{◌≡◌, ◌<◌, ◌≤◌, ℕ, List}
use Rattle.pm_model.specs.declared.Cell.{Cell}
use Rattle.pm_model.specs.Cells.{cell}

-- the cells from `first` up to `end` are changed, and no others
pub record ChangedUpTo (change : Cell → Cell) (first end : ℕ) (old new : List Cell) : Type 0 where
  pub changed : (i : ℕ) → first ≤ i → i < end → cell new i ≡ change (cell old i)
  pub below : (i : ℕ) → i < first → cell new i ≡ cell old i
  pub above : (i : ℕ) → end ≤ i → cell new i ≡ cell old i
