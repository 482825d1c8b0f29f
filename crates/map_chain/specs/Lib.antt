pub mod Writes
pub use Rattle.volume_laws.specs as volume_laws
pub use Rattle.volume_laws.specs.image_model as image_model
