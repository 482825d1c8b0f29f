pub mod Kept
pub mod Order
pub mod State
pub mod Found
pub mod FilesLaws
pub mod NumbersLaws
pub mod Numbered
pub use Rattle.posix_tables.specs.block_counts
pub use Rattle.commute_laws.specs as commute_laws
pub use Rattle.commute_laws.specs.crash_spec
pub use Rattle.commute_laws.specs.list_laws
pub use Rattle.commute_laws.specs.posix_laws
pub use Rattle.commute_laws.specs.posix_spec
pub use Rattle.posix_tables.specs.posix_types
pub use Rattle.posix_tables.specs as posix_tables
