pub mod Overlays
pub mod OverlaysLaws
pub mod Flying
pub mod FlightsLaws
pub mod Standing
pub mod Losses
pub mod Jobs
pub use Rattle.staging_files.specs.block_io as block_io
pub use Rattle.write_jobs.specs.commute_laws
pub use Rattle.world_model.specs.crash_spec
pub use Rattle.file_reads.specs.data_route
pub use Rattle.write_jobs.specs.world_model.image_model
pub use Rattle.write_jobs.specs.extent_model
pub use Rattle.file_reads.specs.file_overlay
pub use Rattle.file_reads.specs as file_reads
pub use Rattle.file_table.specs as file_table
pub use Rattle.staging_files.specs.image_layout as image_layout
pub use Rattle.write_jobs.specs as write_jobs
pub use Rattle.staging_files.specs.k_journal
pub use Rattle.staging_files.specs.k_split
pub use Rattle.file_reads.specs.k_split_model
pub use Rattle.write_jobs.specs.layout_model
pub use Rattle.write_jobs.specs.list_laws
pub use Rattle.file_reads.specs.map_collection
pub use Rattle.open_files.specs as open_files
pub use Rattle.write_jobs.specs.pm_model
pub use Rattle.write_jobs.specs.world_model.posix_laws
pub use Rattle.write_jobs.specs.world_model.posix_spec
pub use Rattle.open_files.specs.posix_tables
pub use Rattle.staging_files.specs as staging_files
pub use Rattle.world_model.specs.volume_laws
pub use Rattle.write_jobs.specs.world_image_laws
pub use Rattle.world_model.specs as world_model
pub use Rattle.write_jobs.specs.world_step_laws
