pub mod Counters
pub mod Costs
pub mod Counts
pub mod Histories
pub mod Busy
pub use Rattle.layout_model.specs.block_counts
pub use Rattle.live_model.specs.block_io
pub use Rattle.live_model.specs.commute_laws as commute_laws
pub use Rattle.live_model.specs.commute_laws.crash_spec
pub use Rattle.live_model.specs.image_model
pub use Rattle.live_model.specs.file_table
pub use Rattle.live_model.specs.image_layout
pub use Rattle.live_model.specs.k_journal
pub use Rattle.live_model.specs.k_split
pub use Rattle.live_model.specs.k_split_model
pub use Rattle.layout_model.specs as layout_model
pub use Rattle.live_model.specs.commute_laws.list_laws
pub use Rattle.live_model.specs as live_model
pub use Rattle.layout_model.specs.pm_model
pub use Rattle.live_model.specs.commute_laws.posix_laws
pub use Rattle.live_model.specs.commute_laws.posix_spec
pub use Rattle.posix_types.specs as posix_types
pub use Rattle.live_model.specs.commute_laws.posix_tables
pub use Rattle.live_model.specs.staging_files
pub use Rattle.live_model.specs.volume_laws
pub use Rattle.live_model.specs.world_image_laws
pub use Rattle.live_model.specs.world_model
pub use Rattle.live_model.specs.world_step_laws
pub use Rattle.live_model.specs.write_jobs
