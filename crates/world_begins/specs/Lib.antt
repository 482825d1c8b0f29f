pub mod Progress
pub mod Turns
pub mod Rooms
pub mod Runs
pub use Rattle.call_laws.specs as call_laws
pub use Rattle.world_parts.specs.crash_spec
pub use Rattle.world_parts.specs.file_table
pub use Rattle.world_parts.specs.k_journal
pub use Rattle.world_parts.specs.k_split_model
pub use Rattle.world_parts.specs.list_laws
pub use Rattle.pm_lines.specs.pm_model
pub use Rattle.world_parts.specs.posix_spec
pub use Rattle.world_parts.specs.posix_tables
pub use Rattle.world_parts.specs as world_parts
pub use Rattle.call_laws.specs.write_begin
