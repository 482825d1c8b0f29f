pub mod Cuts
pub mod Done
pub mod Ends
pub mod Going
pub mod Gone
pub mod Laws
pub mod Lives
pub mod Moves
pub mod Spelled
pub mod Steps
pub mod Sweeps
pub mod Left
pub mod Seen
pub mod SeenLaws
pub mod DeviceSteps
pub use Rattle.k_split.specs.block_io as block_io
pub use Rattle.world_image_laws.specs.commute_laws
pub use Rattle.world_write_laws.specs.world_step_laws.image_model
pub use Rattle.world_write_laws.specs.world_step_laws.extent_model
pub use Rattle.k_split.specs.k_journal
pub use Rattle.k_split.specs.k_map_plans as k_map_plans
pub use Rattle.k_split.specs.k_plans as k_plans
pub use Rattle.k_split.specs as k_split
pub use Rattle.world_write_laws.specs.world_step_laws.k_split_model
pub use Rattle.k_split.specs.k_tables as k_tables
pub use Rattle.world_write_laws.specs.world_step_laws.layout_model
pub use Rattle.world_write_laws.specs.world_step_laws.list_laws
pub use Rattle.world_write_laws.specs.world_step_laws.name_laws
pub use Rattle.world_write_laws.specs.world_step_laws.pm_model
pub use Rattle.world_write_laws.specs.world_step_laws.posix_spec
pub use Rattle.k_split.specs.posix_types
pub use Rattle.world_write_laws.specs.world_step_laws.posix_tables
pub use Rattle.world_write_laws.specs.world_step_laws.volume_change_laws
pub use Rattle.world_write_laws.specs.world_step_laws.volume_laws
pub use Rattle.world_image_laws.specs as world_image_laws
pub use Rattle.world_write_laws.specs.world_model
pub use Rattle.world_write_laws.specs.world_step_laws as world_step_laws
