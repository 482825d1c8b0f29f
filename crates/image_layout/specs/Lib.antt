pub mod Numbers
pub mod Puts
pub use Rattle.layout_model.specs as layout_model
pub use Rattle.layout_model.specs.pm_model
