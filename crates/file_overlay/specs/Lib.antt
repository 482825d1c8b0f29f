pub mod Runs
pub mod Laws
pub mod Pieces
pub use Rattle.extent_model.specs as extent_model
