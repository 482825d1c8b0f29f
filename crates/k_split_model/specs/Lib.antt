pub mod ChangesChanges
pub mod ChangesExample
pub mod Spaces
pub mod Stands
pub mod View
pub mod MapChangesChanges
pub mod MapChangesExample
pub mod Taken
pub mod Zeros
pub use Rattle.image_model.specs.block_counts
pub use Rattle.image_model.specs as image_model
pub use Rattle.image_model.specs.extent_model
pub use Rattle.image_model.specs.layout_model
pub use Rattle.image_model.specs.pm_model
pub use Rattle.posix_tables.specs.posix_types
pub use Rattle.posix_tables.specs as posix_tables
