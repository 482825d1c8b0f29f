pub mod Bits
pub mod Facts
pub mod FreeSets
pub use Rattle.extent_map.specs.extent_model as extent_model
