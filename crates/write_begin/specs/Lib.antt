pub mod Stages
pub mod Begins
pub mod Goes
pub mod Needs
pub mod Rooms
pub use Rattle.block_counts.specs as block_counts
pub use Rattle.write_plan.specs.crash_spec
pub use Rattle.write_plan.specs.image_model
pub use Rattle.write_plan.specs.extent_model
pub use Rattle.write_plan.specs.file_table
pub use Rattle.write_plan.specs.k_split_model
pub use Rattle.write_plan.specs.layout_model
pub use Rattle.write_plan.specs.list_laws
pub use Rattle.write_plan.specs.open_files
pub use Rattle.pm_lines.specs.pm_model
pub use Rattle.write_plan.specs.posix_laws
pub use Rattle.write_plan.specs.posix_spec
pub use Rattle.posix_types.specs as posix_types
pub use Rattle.posix_tables.specs as posix_tables
pub use Rattle.write_plan.specs.write_jobs
pub use Rattle.write_plan.specs as write_plan
pub use Rattle.in_place.specs as in_place
