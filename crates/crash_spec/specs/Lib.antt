pub mod RelationLaws
pub mod StrongLaws
pub mod Laws
pub mod ScheduleLaws
pub mod ScheduleRows
pub mod BusyRows
pub mod ByteRows
pub mod Orders
pub mod Schedules
pub mod Busy
pub mod Machine
pub mod Permitted
pub mod Posix
pub mod Strict
pub mod Sync
pub mod Values
pub use Rattle.posix_laws.specs.posix_spec as posix_spec
pub use Rattle.posix_laws.specs.list_laws as list_laws
pub use Rattle.posix_laws.specs.posix_types as posix_types
pub use Rattle.posix_laws.specs as posix_laws
