pub mod Before
pub mod Bytes
pub mod Cells
pub mod LinesZeroed
pub mod Overwriting
pub mod Reached
pub mod ZeroCells
pub mod Zeroing
mod Steps
