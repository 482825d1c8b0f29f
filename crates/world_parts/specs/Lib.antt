pub mod Seen
pub mod Adds
pub mod Answers
pub use Rattle.world_view_laws.specs as world_view_laws
pub use Rattle.world_view_laws.specs.eof_laws as eof_laws
pub use Rattle.world_view_laws.specs.in_flight as in_flight
pub use Rattle.layout_model.specs as layout_model
pub use Rattle.pm_lines.specs.pm_model as pm_model
pub use Rattle.world_view_laws.specs.block_io as block_io
pub use Rattle.world_view_laws.specs.crash_spec as crash_spec
pub use Rattle.world_view_laws.specs.image_model as image_model
pub use Rattle.world_view_laws.specs.file_table as file_table
pub use Rattle.world_view_laws.specs.k_journal as k_journal
pub use Rattle.world_view_laws.specs.k_split_model as k_split_model
pub use Rattle.world_view_laws.specs.list_laws as list_laws
pub use Rattle.world_view_laws.specs.log_checkpoint as log_checkpoint
pub use Rattle.world_view_laws.specs.posix_spec as posix_spec
pub use Rattle.world_view_laws.specs.posix_tables as posix_tables
pub use Rattle.world_view_laws.specs.file_publish as file_publish
pub use Rattle.world_view_laws.specs.write_jobs as write_jobs
