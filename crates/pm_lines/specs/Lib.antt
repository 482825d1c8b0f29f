pub mod Choices
pub mod Effects
pub mod LentLines
pub mod Pairs
pub mod Wholes
pub use Rattle.pm_model.specs as pm_model
