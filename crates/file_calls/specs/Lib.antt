pub mod Runs
pub mod Answers
pub mod Gathers
pub mod Built
pub mod Reading
pub use Rattle.batch_laws.specs as batch_laws
pub use Rattle.live_step_laws.specs.data_route
pub use Rattle.eof_laws.specs.image_model
pub use Rattle.eof_laws.specs as eof_laws
pub use Rattle.eof_laws.specs.extent_model
pub use Rattle.eof_laws.specs.file_overlay
pub use Rattle.live_step_laws.specs.file_reads
pub use Rattle.eof_laws.specs.file_table
pub use Rattle.live_step_laws.specs.k_split_laws as k_split_laws
pub use Rattle.eof_laws.specs.k_split_model
pub use Rattle.eof_laws.specs.layout_model
pub use Rattle.open_files.specs.list_laws
pub use Rattle.live_step_laws.specs.live_model
pub use Rattle.live_step_laws.specs as live_step_laws
pub use Rattle.live_step_laws.specs.map_collection
pub use Rattle.open_files.specs as open_files
pub use Rattle.pm_lines.specs.pm_model
pub use Rattle.open_files.specs.posix_spec
pub use Rattle.live_step_laws.specs.volume_laws
pub use Rattle.live_step_laws.specs.world_model
pub use Rattle.live_step_laws.specs.world_step_laws
