pub mod State
pub mod FileRows
pub mod Step
pub mod Tree
pub mod Run
pub mod Put
pub mod Scripted
pub mod Afforded
pub mod Unfinished
pub use Rattle.posix_types.specs as posix_types
pub use Rattle.posix_tables.specs as posix_tables
pub use Rattle.posix_tables.specs.block_counts as block_counts
