pub mod Gathered
pub mod Returned
pub use Rattle.world_parts.specs.block_io
pub use Rattle.world_parts.specs.file_table
pub use Rattle.world_parts.specs.k_journal
pub use Rattle.world_parts.specs.k_split_model
pub use Rattle.world_parts.specs.layout_model
pub use Rattle.world_parts.specs.list_laws
pub use Rattle.world_parts.specs.log_checkpoint
pub use Rattle.world_parts.specs.pm_model
pub use Rattle.world_parts.specs.posix_spec
pub use Rattle.world_parts.specs as world_parts
pub use Rattle.world_parts.specs.write_jobs
pub use Rattle.round_laws.specs as round_laws
