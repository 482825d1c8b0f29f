pub mod Ends
pub mod FilesLaws
pub mod MapsLaws
pub mod FinishesLaws
pub use Rattle.log_checkpoint.specs.block_io as block_io
pub use Rattle.file_table.specs.block_counts
pub use Rattle.log_checkpoint.specs.crash_spec
pub use Rattle.log_checkpoint.specs.k_plans.image_model
pub use Rattle.file_table.specs.extent_model
pub use Rattle.file_table.specs.file_overlay
pub use Rattle.file_table.specs as file_table
pub use Rattle.log_checkpoint.specs.k_tables as k_tables
pub use Rattle.log_checkpoint.specs.k_plans.k_journal
pub use Rattle.log_checkpoint.specs.k_plans as k_plans
pub use Rattle.log_checkpoint.specs.k_plans.k_split_model
pub use Rattle.log_checkpoint.specs.k_plans.layout_model
pub use Rattle.log_checkpoint.specs.list_laws as list_laws
pub use Rattle.log_checkpoint.specs as log_checkpoint
pub use Rattle.file_table.specs.pm_model
pub use Rattle.log_checkpoint.specs.posix_laws
pub use Rattle.log_checkpoint.specs.posix_spec
pub use Rattle.log_checkpoint.specs.k_plans.posix_types
pub use Rattle.log_checkpoint.specs.k_plans.posix_tables
pub use Rattle.log_checkpoint.specs.k_plans.volume_laws
pub use Rattle.log_checkpoint.specs.world_model
pub use Rattle.live_model.specs as live_model
pub use Rattle.live_model.specs.write_jobs as write_jobs
