pub mod Mounted
pub mod FirstPaths
pub mod Trees
pub mod Begun
pub mod BeginningRooms
pub mod BeginningLaws
pub mod Beginnings
pub mod Changed
pub mod Images
pub mod Kept
pub mod ImagesLaws
pub mod Promised
pub mod ImagesRooms
pub mod Running
pub mod Settings
pub mod Starts
pub mod Unseen
pub mod Back
pub mod InLog
pub mod PartOrders
pub mod Flights
pub mod LentLaws
pub mod PlaceLaws
pub mod Places
pub mod Amid
pub use Rattle.image_laws.specs.block_counts
pub use Rattle.world_step_laws.specs.commute_laws as commute_laws
pub use Rattle.world_step_laws.specs.world_model.crash_spec
pub use Rattle.image_laws.specs.image_model
pub use Rattle.image_laws.specs.extent_model
pub use Rattle.image_laws.specs as image_laws
pub use Rattle.world_step_laws.specs.k_split_model
pub use Rattle.image_laws.specs.layout_model
pub use Rattle.world_step_laws.specs.world_model.list_laws
pub use Rattle.image_laws.specs.pm_model
pub use Rattle.world_step_laws.specs.world_model.posix_laws
pub use Rattle.world_step_laws.specs.world_model.posix_spec
pub use Rattle.world_step_laws.specs.world_model.posix_types
pub use Rattle.world_step_laws.specs.world_model.posix_tables
pub use Rattle.world_step_laws.specs.volume_change_laws
pub use Rattle.world_step_laws.specs.world_model.volume_laws
pub use Rattle.world_step_laws.specs.world_model as world_model
pub use Rattle.world_step_laws.specs as world_step_laws
