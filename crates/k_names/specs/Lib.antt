pub mod Decoding
pub mod Finding
pub mod Heights
pub mod Indexes
pub use Rattle.layout_model.specs as layout_model
