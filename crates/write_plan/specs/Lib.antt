pub mod Rows
pub mod Asks
pub mod AsksLaws
pub mod Drafts
pub mod Numbers
pub mod Words
pub mod Parts
pub mod FirstWritesLaws
pub mod Plans
pub mod Shown
pub use Rattle.posix_tables.specs.block_counts
pub use Rattle.open_files.specs.commute_laws
pub use Rattle.open_files.specs.crash_spec
pub use Rattle.live_model.specs.data_route
pub use Rattle.live_model.specs.image_model
pub use Rattle.eof_laws.specs as eof_laws
pub use Rattle.file_table.specs.extent_model
pub use Rattle.file_overlay.specs as file_overlay
pub use Rattle.live_model.specs.file_reads
pub use Rattle.file_table.specs as file_table
pub use Rattle.live_model.specs.k_journal
pub use Rattle.live_model.specs.k_split_model
pub use Rattle.file_table.specs.layout_model
pub use Rattle.open_files.specs.list_laws
pub use Rattle.live_model.specs as live_model
pub use Rattle.live_model.specs.map_collection
pub use Rattle.open_files.specs as open_files
pub use Rattle.file_table.specs.pm_model
pub use Rattle.open_files.specs.posix_laws
pub use Rattle.open_files.specs.posix_spec as posix_spec
pub use Rattle.posix_tables.specs as posix_tables
pub use Rattle.live_model.specs.volume_laws
pub use Rattle.live_model.specs.world_model
pub use Rattle.live_model.specs.write_jobs
