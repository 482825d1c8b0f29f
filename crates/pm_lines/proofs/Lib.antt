pub mod CellsLoops
pub mod ImageBytes
pub mod WordCells
pub mod Room
pub mod HeldCells
pub mod LentCells
