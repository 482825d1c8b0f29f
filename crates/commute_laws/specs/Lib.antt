pub mod Lists
pub mod Handles
pub mod Bystanders
pub mod Frames
pub mod Flights
pub mod Rooms
pub mod Needs
pub mod Histories
pub mod FramesLaws
pub mod Acted
pub mod Commutes
pub mod Pairs
pub mod Orders
pub mod Counted
pub mod Leaves
pub mod Rows
pub mod OrdersLaws
pub use Rattle.crash_spec.specs.posix_laws.block_counts
pub use Rattle.crash_spec.specs as crash_spec
pub use Rattle.crash_spec.specs.list_laws
pub use Rattle.crash_spec.specs.posix_laws as posix_laws
pub use Rattle.crash_spec.specs.posix_laws.posix_spec
pub use Rattle.crash_spec.specs.posix_laws.posix_types
pub use Rattle.crash_spec.specs.posix_laws.posix_tables
