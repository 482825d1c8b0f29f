pub mod Writes
pub mod Reads
pub mod Laws
pub use Rattle.map_collection.specs as map_collection
pub use Rattle.file_overlay.specs.extent_model as extent_model
pub use Rattle.block_counts.specs as block_counts
