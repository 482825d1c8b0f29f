pub mod Calls
pub mod Faults
pub mod Known
pub mod Laws
pub mod Lines
pub mod Reached
pub mod Rows
pub mod Scripts
pub mod Spelled
pub mod Words
pub mod Written
pub use Rattle.posix_spec.specs as posix_spec
pub use Rattle.layout_model.specs as layout_model
