pub mod Changes
pub mod ChangesLaws
pub mod StepsLaws
pub mod BeginsLaws
pub mod ReservesLaws
pub mod FillsLaws
pub use Rattle.k_split_laws.specs.block_io as block_io
pub use Rattle.fsync_relink.specs.world_write_laws.block_counts
pub use Rattle.fsync_relink.specs.world_write_laws.commute_laws
pub use Rattle.fsync_relink.specs.world_write_laws.crash_spec
pub use Rattle.live_model.specs.data_route
pub use Rattle.fsync_relink.specs.world_write_laws.image_model
pub use Rattle.fsync_relink.specs.world_write_laws.extent_model
pub use Rattle.live_model.specs.file_reads
pub use Rattle.live_model.specs.file_table
pub use Rattle.k_split_laws.specs.world_image_laws.image_laws
pub use Rattle.k_split_laws.specs.k_map_plans as k_map_plans
pub use Rattle.k_split_laws.specs.k_plans as k_plans
pub use Rattle.k_split_laws.specs.k_split
pub use Rattle.k_split_laws.specs as k_split_laws
pub use Rattle.fsync_relink.specs.world_write_laws.k_split_model
pub use Rattle.k_split_laws.specs.k_tables as k_tables
pub use Rattle.fsync_relink.specs.world_write_laws.layout_model
pub use Rattle.fsync_relink.specs.world_write_laws.list_laws
pub use Rattle.live_model.specs as live_model
pub use Rattle.live_model.specs.map_collection
pub use Rattle.k_split_laws.specs.name_laws
pub use Rattle.live_model.specs.open_files as open_files
pub use Rattle.fsync_relink.specs.world_write_laws.pm_model
pub use Rattle.fsync_relink.specs.world_write_laws.posix_laws
pub use Rattle.fsync_relink.specs.world_write_laws.posix_spec
pub use Rattle.fsync_relink.specs.world_write_laws.posix_types
pub use Rattle.fsync_relink.specs.world_write_laws.posix_tables
pub use Rattle.fsync_relink.specs as fsync_relink
pub use Rattle.live_model.specs.staging_files
pub use Rattle.k_split_laws.specs.volume_change_laws
pub use Rattle.fsync_relink.specs.world_write_laws.volume_laws
pub use Rattle.k_split_laws.specs.world_image_laws as world_image_laws
pub use Rattle.fsync_relink.specs.world_write_laws.world_model
pub use Rattle.fsync_relink.specs.world_write_laws.world_step_laws
pub use Rattle.fsync_relink.specs.world_write_laws as world_write_laws
