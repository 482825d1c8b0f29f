pub mod ActsLaws
pub mod EndsLaws
pub mod Sizes
pub mod StartsLaws
pub use Rattle.world_view_laws.specs.eof_laws.block_io as block_io
pub use Rattle.world_view_laws.specs.eof_laws.crash_spec
pub use Rattle.world_view_laws.specs.eof_laws.image_model
pub use Rattle.world_view_laws.specs.eof_laws.file_table
pub use Rattle.world_view_laws.specs.file_publish as file_publish
pub use Rattle.world_view_laws.specs.eof_laws.k_journal
pub use Rattle.log_replay.specs as log_replay
pub use Rattle.world_view_laws.specs.eof_laws.k_split_model
pub use Rattle.world_view_laws.specs.eof_laws.layout_model
pub use Rattle.world_view_laws.specs.eof_laws.log_checkpoint
pub use Rattle.world_view_laws.specs.oplog_entry
pub use Rattle.world_view_laws.specs.eof_laws.pm_model
pub use Rattle.world_view_laws.specs.eof_laws.posix_spec
pub use Rattle.world_view_laws.specs.eof_laws.posix_tables
pub use Rattle.world_view_laws.specs.in_flight as in_flight
pub use Rattle.world_view_laws.specs as world_view_laws
pub use Rattle.world_view_laws.specs.write_jobs as write_jobs
