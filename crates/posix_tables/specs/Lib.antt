pub mod Nodes
pub mod Names
pub mod Outcomes
pub mod NameRows
pub mod Room
pub mod Open
pub mod Bytes
pub mod Places
pub mod Lookups
pub use Rattle.block_counts.specs as block_counts
pub use Rattle.posix_types.specs as posix_types
