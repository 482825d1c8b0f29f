pub mod Steps
pub mod Texts
pub use Rattle.extent_map.specs.extent_model as extent_model
