pub mod Wanted
pub mod Effects
pub mod Nearest
pub mod Fronts
pub mod Parts
pub mod Judged
pub use Rattle.crash_spec.specs as crash_spec
pub use Rattle.crash_spec.specs.list_laws
pub use Rattle.posix_laws.specs as posix_laws
pub use Rattle.posix_laws.specs.posix_spec
pub use Rattle.posix_tables.specs as posix_tables
