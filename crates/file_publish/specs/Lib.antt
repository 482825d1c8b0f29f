pub mod StandingLaws
pub mod LapsLaws
pub mod RelinksLaws
pub mod GathersLaws
pub mod RoundLinesLaws
pub mod Answers
pub use Rattle.log_checkpoint.specs.block_io
pub use Rattle.log_checkpoint.specs.image_model
pub use Rattle.log_checkpoint.specs.extent_model
pub use Rattle.log_checkpoint.specs.file_overlay
pub use Rattle.log_checkpoint.specs.file_table
pub use Rattle.log_checkpoint.specs.fsync_relink as fsync_relink
pub use Rattle.log_checkpoint.specs.k_journal
pub use Rattle.log_checkpoint.specs.k_map_plans
pub use Rattle.log_checkpoint.specs.k_plans
pub use Rattle.log_checkpoint.specs.k_split
pub use Rattle.log_checkpoint.specs.k_split_model
pub use Rattle.log_checkpoint.specs.layout_model
pub use Rattle.log_checkpoint.specs.list_laws
pub use Rattle.live_step_laws.specs.live_model as live_model
pub use Rattle.log_checkpoint.specs as log_checkpoint
pub use Rattle.log_checkpoint.specs.pm_model
pub use Rattle.log_checkpoint.specs.posix_spec
pub use Rattle.log_checkpoint.specs.posix_types
pub use Rattle.log_checkpoint.specs.posix_tables
pub use Rattle.log_checkpoint.specs.staging_files
pub use Rattle.live_step_laws.specs.world_image_laws
pub use Rattle.live_step_laws.specs.world_model
pub use Rattle.live_step_laws.specs.world_step_laws
