pub mod Picking
pub mod Seen
pub use Rattle.crash_spec.specs as crash_spec
